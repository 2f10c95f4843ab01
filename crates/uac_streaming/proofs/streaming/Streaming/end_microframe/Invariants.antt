use Rattle.std.proofs.Common.{◌≡◌, ℕ}
use Rattle.uac_device.specs.DeviceWorld.{ZerosFitIn}
use Rattle.uac_streaming.specs.StreamingWorld.{StreamingWorld, end_turn}
use Rattle.uac_streaming.specs.StreamingKept.{StreamingStands}
use Rattle.uac_streaming.proofs.TellingLemmas.{InTurn}
use Rattle.uac_streaming.proofs.StreamingWorldLemmas.{StandsBefore}
use Rattle.uac_streaming.proofs.streaming.Streaming.end_microframe.Given as goal

abbrev pub invariant-loop-at : goal.invariant-loop-at
invariant-loop-at g l = record {
  told : (w : StreamingWorld) → StreamingStands l.fn.self l.initial.device w → ((interface : ℕ) → ZerosFitIn w.device interface)
      → InTurn (end_turn l.detail) l.fn.self.order l.at w (StandsBefore l.fn.self l.device l.fn.self.order l.at) (g.K.Sink.written l.fn.sink) (g.K.Sink.written l.sink);
  faultless : g.K.Sink.faults l.sink ≡ g.K.Sink.faults l.fn.sink;
  function : l.device.function ≡ l.initial.device.function;
}
