use Rattle.std.proofs.Common.{◌≡◌, pos, take, replicate}
use Rattle.uac_ring.proofs.ring.is_silence.Given as goal

abbrev pub invariant-loop-sample : goal.invariant-loop-sample
invariant-loop-sample l = take l.sample-index l.samples ≡ replicate l.sample-index (pos 0)
