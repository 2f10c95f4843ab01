use Rattle.uac_settle.proofs.SettlingTurnLemmas.{ends_by_count, goes_on}
use Rattle.uac_settle.proofs.laws.stretches_go_on.Goals as goal

pub returns : goal.returns
returns c = record { begin = ends_by_count; goes_on = goes_on }
