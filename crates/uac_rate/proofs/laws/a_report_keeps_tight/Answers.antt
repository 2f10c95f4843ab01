use Rattle.uac_rate.proofs.LevelsLemmas.{report_tight}
use Rattle.uac_rate.proofs.laws.a_report_keeps_tight.Goals as goal

pub returns : goal.returns
returns c = report_tight
