use Rattle.uac_running.proofs.EventTicksLemmas.{ticks_by_parts}
use Rattle.uac_running.proofs.laws.ticks_go_part_by_part.Goals as goal

pub returns : goal.returns
returns c = ticks_by_parts
