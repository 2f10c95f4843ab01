use Rattle.uac_rate.proofs.LevelsLemmas.{report_robust}
use Rattle.uac_rate.proofs.laws.a_report_keeps_robust.Goals as goal

pub returns : goal.returns
returns c = report_robust
