use Rattle.uac_rate.proofs.LevelsLemmas.{falls_due}
use Rattle.uac_rate.proofs.laws.reports_fall_due.Goals as goal

pub returns : goal.returns
returns c = falls_due
