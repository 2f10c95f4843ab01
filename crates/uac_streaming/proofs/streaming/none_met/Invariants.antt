use Rattle.std.proofs.Common.{◌≡◌, map, take}
use Rattle.uac_streaming.specs.StreamingWorld.{nothing_met}
use Rattle.uac_streaming.proofs.streaming.none_met.Given as goal

abbrev pub invariant-loop-stream : goal.invariant-loop-stream
invariant-loop-stream l = l.met.items ≡ map (λ s. nothing_met) (take l._stream-index l._stream-items)
