use Rattle.std.proofs.Common.{◌≡◌, ℕ, Option, take, true}
use Rattle.std.specs.List.{list_all}
use Rattle.uac_flow.specs.FlowStreams.{InStream, OutStream}
use Rattle.uac_device.specs.DeviceStreams.{DeviceStreamsStand}
use Rattle.uac_device.proofs.StreamRowsAllLemmas.{goes_on_with}
use Rattle.uac_device.proofs.stream_rows.go_on.Given as goal

abbrev pub invariant-loop-device_stream : goal.invariant-loop-device_stream
invariant-loop-device_stream l =
    (outs : ℕ → Option OutStream) (ins : ℕ → Option InStream) → DeviceStreamsStand l.device_streams outs ins
    → list_all (goes_on_with l.domain l.ticks outs ins) (take l.device_stream-index l.device_streams) ≡ true
