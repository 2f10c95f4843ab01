use Rattle.std.proofs.Common.{◌≡◌, ◌*◌, length, take}
use Rattle.uac_pcm.specs.Frames.{bytes_of_frame}
use Rattle.uac_pcm.proofs.subslots.write_each.Given as goal

abbrev pub invariant-loop-place : goal.invariant-loop-place
invariant-loop-place g l = record {
  sized : length l.subslots ≡ length l.initial.subslots;
  written : take (l.place * g.row.SIZE) l.subslots ≡ bytes_of_frame g.row.SIZE l.resolution (take l.place l.samples);
}
