use Rattle.std.proofs.Common.{pos}
use Rattle.uac_units.proofs.SampleRowsLemmas.{RowsAreWritten}
use Rattle.uac_units.proofs.row_frames.hush_rows.Given as goal

abbrev pub invariant-loop-channel : goal.invariant-loop-channel
invariant-loop-channel l = RowsAreWritten l.ticks (λ channel tick. pos 0) l.channel l.initial.rows l.rows
