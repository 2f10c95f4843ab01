use Rattle.uac_settle.proofs.SettlingGapLemmas.{gap_begins, gap_interval, gap_lost_report}
use Rattle.uac_settle.proofs.laws.gaps_begin_and_go_on.Goals as goal

pub returns : goal.returns
returns c = record { begin = gap_begins; interval = gap_interval; lost_report = gap_lost_report }
