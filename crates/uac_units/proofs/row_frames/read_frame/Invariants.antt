use Rattle.std.proofs.Common.{◌≡◌, take}
use Rattle.uac_units.specs.SampleRows.{frame_at}
use Rattle.uac_units.proofs.row_frames.read_frame.Given as goal

abbrev pub invariant-loop-row : goal.invariant-loop-row
invariant-loop-row g l = l.frame.items ≡ frame_at l.tick (take l.row-index l.rows)
