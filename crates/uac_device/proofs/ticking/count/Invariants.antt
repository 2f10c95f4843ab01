use Rattle.uac_device.specs.DeviceStreams.{stream_counted_on}
use Rattle.uac_device.proofs.DeviceStreamsChangeLemmas.{IsTurnedTo}
use Rattle.uac_device.proofs.ticking.count.Given as goal

abbrev pub invariant-loop-device_stream : goal.invariant-loop-device_stream
invariant-loop-device_stream l = IsTurnedTo (stream_counted_on l.domain l.ticks) (λ p in_. in_) l.device_streams l.initial.device_streams l.device_stream-index
