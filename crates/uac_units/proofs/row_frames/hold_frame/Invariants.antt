use Rattle.std.proofs.Common.{pos, get_or}
use Rattle.uac_units.proofs.SampleRowsLemmas.{RowsAreWritten}
use Rattle.uac_units.proofs.row_frames.hold_frame.Given as goal

abbrev pub invariant-loop-channel : goal.invariant-loop-channel
invariant-loop-channel l = RowsAreWritten l.ticks (λ channel tick. get_or l.frame channel (pos 0)) l.channel l.initial.rows l.rows
