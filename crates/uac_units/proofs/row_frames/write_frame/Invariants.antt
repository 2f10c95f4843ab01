use Rattle.uac_units.proofs.SampleRowsLemmas.{FrameIsWritten}
use Rattle.uac_units.proofs.row_frames.write_frame.Given as goal

abbrev pub invariant-loop-channel : goal.invariant-loop-channel
invariant-loop-channel l = FrameIsWritten l.tick l.channel l.frame l.initial.rows l.rows
