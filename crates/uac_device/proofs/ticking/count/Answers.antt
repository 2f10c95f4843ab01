use Rattle.std.proofs.Common.{arith, refl}
use Rattle.uac_device.specs.DeviceStreams.{stream_counted_on}
use Rattle.uac_device.proofs.DeviceStreamsChangeLemmas.{counted_keeps, ports_turned, sound_turned, turned_more, turned_none, untouched_sound}
use Rattle.uac_device.proofs.ticking.count.Goals as goal

pub loop-device_stream-init : goal.loop-device_stream-init
loop-device_stream-init c = turned_none _ _ _

pub count-requires : goal.count-requires
count-requires c =
    untouched_sound _ _ c.loop-device_stream.device_streams c.args.device_streams.now c.loop-device_stream.device_stream-index c.device_stream-item.result _ c.loop-device_stream.invariant c.requires (omega arith) refl

pub loop-device_stream-preserved : goal.loop-device_stream-preserved
loop-device_stream-preserved c =
    turned_more (stream_counted_on c.args.domain c.args.ticks) (λ p in_. in_) c.loop-device_stream.device_streams c.args.device_streams.now c.loop-device_stream.device_stream-index c.count.new.self _ c.device_stream-item.result (omega arith)
    c.loop-device_stream.invariant refl c.count.ensures.turns c.count.ensures.sound

pub returns-clause-stands : goal.returns-clause-stands
returns-clause-stands c =
    counted_keeps c.args.domain c.args.ticks c.loop-device_stream.device_streams c.args.device_streams.now c.loop-device_stream.device_stream-index c.loop-device_stream.invariant (omega arith) c.requires

pub returns-clause-ports : goal.returns-clause-ports
returns-clause-ports c = ports_turned _ _ c.loop-device_stream.device_streams c.args.device_streams.now c.loop-device_stream.device_stream-index c.loop-device_stream.invariant (omega arith)

pub returns-clause-sound : goal.returns-clause-sound
returns-clause-sound c = sound_turned _ _ c.loop-device_stream.device_streams c.args.device_streams.now c.loop-device_stream.device_stream-index c.loop-device_stream.invariant (omega arith)
