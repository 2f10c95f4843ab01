use Rattle.uac_rate.proofs.LevelsLemmas.{interval_robust}
use Rattle.uac_rate.proofs.laws.an_interval_keeps_robust.Goals as goal

pub returns : goal.returns
returns c = interval_robust
