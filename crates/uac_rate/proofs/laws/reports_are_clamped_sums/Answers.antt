use Rattle.uac_rate.proofs.ReportsLemmas.{over_integers}
use Rattle.uac_rate.proofs.laws.reports_are_clamped_sums.Goals as goal

pub returns : goal.returns
returns c = over_integers
