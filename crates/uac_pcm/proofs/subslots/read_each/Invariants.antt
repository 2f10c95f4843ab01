use Rattle.std.proofs.Common.{◌≡◌, length, take}
use Rattle.uac_pcm.specs.Frames.{frame_of_bytes}
use Rattle.uac_pcm.proofs.subslots.read_each.Given as goal

abbrev pub invariant-loop-place : goal.invariant-loop-place
invariant-loop-place g l = record {
  sized : length l.samples ≡ length l.initial.samples;
  read : take l.place l.samples ≡ frame_of_bytes l.place g.row.SIZE l.resolution l.subslots;
}
