use Rattle.uac_rate.proofs.LevelsLemmas.{interval_tight}
use Rattle.uac_rate.proofs.laws.an_interval_keeps_tight.Goals as goal

pub returns : goal.returns
returns c = interval_tight
