use Rattle.std.proofs.Common.{◌≡◌, ◌≤◌, take}
use Rattle.std.specs.List.{All}
use Rattle.uac_streaming.specs.StreamingWorld.{StreamingWorld, numbers_in}
use Rattle.uac_streaming.specs.StreamingKept.{StreamingStands}
use Rattle.uac_streaming.specs.StreamingWaits.{sent_after}
use Rattle.uac_streaming.proofs.streaming.Streaming.send_later.Given as goal

abbrev pub invariant-loop-at : goal.invariant-loop-at
invariant-loop-at l = record {
  sent : (w : StreamingWorld) → StreamingStands l.self l.device w
      → l.sent ≡ sent_after (take l.at (numbers_in w.device.function)) l.ticks l.initial.sent w.device;
  few : All (λ m. m ≤ 2176) l.sent;
}
