use Rattle.std.proofs.Common.{◌≡◌, None, replicate}
use Rattle.uac_graph.proofs.row_slots.empty_slots.Given as goal

abbrev pub invariant-loop-each : goal.invariant-loop-each
invariant-loop-each l = l.slots.items ≡ replicate l._each None
