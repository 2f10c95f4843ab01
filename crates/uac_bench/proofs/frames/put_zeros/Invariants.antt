use Rattle.std.proofs.Common.{◌≡◌, ◌≤◌, ◌+◌, ◌++◌, length, replicate}
use Rattle.uac_ring.specs.Rings.{ring_frames}
use Rattle.uac_bench.specs.BenchStreams.{silent_frame}
use Rattle.uac_bench.proofs.frames.put_zeros.Given as goal

abbrev pub invariant-loop-each : goal.invariant-loop-each
invariant-loop-each l = record {
  put : length l.initial.ring + l.count ≤ ring_frames → l.ring ≡ l.initial.ring ++ replicate l._each silent_frame;
  zero : l.frame.items ≡ silent_frame;
}
