use Rattle.std.proofs.Common.{◌≡◌, pos, replicate}
use Rattle.uac_units.proofs.row_frames.silent_rows.Given as goal

abbrev pub invariant-loop-each : goal.invariant-loop-each
invariant-loop-each l = l.rows.items ≡ replicate l._each (replicate l.ticks (pos 0))
