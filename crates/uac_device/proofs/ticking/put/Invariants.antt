use Rattle.uac_graph.specs.Wiring.{samples_on}
use Rattle.uac_device.specs.DeviceStreams.{stream_put_on}
use Rattle.uac_device.proofs.DeviceStreamsChangeLemmas.{IsTurnedTo}
use Rattle.uac_device.proofs.ticking.put.Given as goal

abbrev pub invariant-loop-device_stream : goal.invariant-loop-device_stream
invariant-loop-device_stream l = IsTurnedTo (λ p out. out) (λ p in_. stream_put_on l.domain (samples_on l.wires p.terminal) p in_) l.device_streams l.initial.device_streams l.device_stream-index
