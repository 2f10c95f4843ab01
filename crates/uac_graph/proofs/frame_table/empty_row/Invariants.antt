use Rattle.std.proofs.Common.{◌≡◌, None, replicate}
use Rattle.uac_graph.proofs.frame_table.empty_row.Given as goal

abbrev pub invariant-loop-each : goal.invariant-loop-each
invariant-loop-each l = l.row.items ≡ replicate l._each None
