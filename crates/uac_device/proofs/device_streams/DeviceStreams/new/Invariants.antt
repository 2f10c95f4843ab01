use Rattle.std.proofs.Common.{◌≡◌, map, take}
use Rattle.uac_device.specs.DeviceStreams.{idle_stream, port_of}
use Rattle.uac_device.proofs.device_streams.DeviceStreams.new.Given as goal

abbrev pub invariant-loop-stream : goal.invariant-loop-stream
invariant-loop-stream l = l.list.items ≡ map (λ s. idle_stream (port_of l.function.entities s)) (take l.stream-index l.stream-items)
