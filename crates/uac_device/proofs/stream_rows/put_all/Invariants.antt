use Rattle.uac_graph.specs.TickRows.{frames_at}
use Rattle.uac_graph.specs.Wiring.{samples_on}
use Rattle.uac_device.specs.DeviceStreamTicks.{stream_with_on}
use Rattle.uac_device.proofs.DeviceStreamsChangeLemmas.{IsTurnedTo}
use Rattle.uac_device.proofs.stream_rows.put_all.Given as goal

abbrev pub invariant-loop-device_stream : goal.invariant-loop-device_stream
invariant-loop-device_stream l =
    IsTurnedTo (λ p out. out) (λ p in_. stream_with_on l.domain l.ticks (λ t. samples_on (frames_at t l.rows) p.terminal) p in_) l.device_streams l.initial.device_streams l.device_stream-index
