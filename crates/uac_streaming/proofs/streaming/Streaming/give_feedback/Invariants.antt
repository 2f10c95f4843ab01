use Rattle.std.proofs.Common.{◌≡◌, map}
use Rattle.uac_script.specs.Line.{phrase_mark}
use Rattle.uac_streaming.specs.StreamingWorld.{StreamingWorld, feedback_turn}
use Rattle.uac_streaming.specs.StreamingKept.{StreamingStands}
use Rattle.uac_streaming.proofs.TellingLemmas.{InTurn}
use Rattle.uac_streaming.proofs.streaming.Streaming.give_feedback.Given as goal

abbrev pub invariant-loop-at : goal.invariant-loop-at
invariant-loop-at g l = record {
  told : (w : StreamingWorld) → StreamingStands l.initial.self l.device w
      → InTurn (feedback_turn l.detail (map phrase_mark l.marks)) l.initial.self.order l.at w (StreamingStands l.self l.device) (g.K.Sink.written l.fn.sink) (g.K.Sink.written l.sink);
  faultless : g.K.Sink.faults l.sink ≡ g.K.Sink.faults l.fn.sink;
  order : l.self.order ≡ l.initial.self.order;
}
