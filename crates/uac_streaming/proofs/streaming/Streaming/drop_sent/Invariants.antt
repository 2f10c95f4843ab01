use Rattle.std.proofs.Common.{◌≡◌, take}
use Rattle.uac_device.specs.DeviceKept.{DeviceStands}
use Rattle.uac_device.specs.DeviceWaits.{SentAreThere, after_sent}
use Rattle.uac_streaming.specs.StreamingWorld.{StreamingWorld, numbers_in}
use Rattle.uac_streaming.specs.StreamingKept.{StreamingStands}
use Rattle.uac_streaming.specs.StreamingWaits.{sent_on}
use Rattle.uac_streaming.proofs.streaming.Streaming.drop_sent.Given as goal

abbrev pub invariant-loop-at : goal.invariant-loop-at
invariant-loop-at l = record {
  stands : (w : StreamingWorld) → StreamingStands l.self l.initial.device w → SentAreThere (sent_on (numbers_in w.device.function) l.sent) w.device
      → DeviceStands l.device (after_sent (sent_on (take l.at (numbers_in w.device.function)) l.sent) w.device);
  function : l.device.function ≡ l.initial.device.function;
}
