use Rattle.std.proofs.Common.{◌≡◌, ℕ, Option, take, true}
use Rattle.std.specs.List.{All, list_all}
use Rattle.uac_flow.specs.FlowStreams.{InStream, OutStream}
use Rattle.uac_device.specs.declared.device_stream.DeviceStream.{DeviceStream}
use Rattle.uac_device.specs.DeviceStreams.{DeviceStreamsStand}
use Rattle.uac_device.proofs.DeviceAheadLemmas.{HoldsFrames, waits_at}
use Rattle.uac_device.proofs.ahead.may_wait.Given as goal

abbrev pub invariant-loop-device_stream : goal.invariant-loop-device_stream
invariant-loop-device_stream l =
    (outs : ℕ → Option OutStream) (ins : ℕ → Option InStream) → DeviceStreamsStand l.device_streams outs ins
    → All (HoldsFrames ins) (take l.device_stream-index l.device_streams)
    × (list_all (λ (m : DeviceStream). waits_at l.domain l.ticks outs ins m.port) (take l.device_stream-index l.device_streams) ≡ true)
