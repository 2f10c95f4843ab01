use Rattle.std.proofs.Common.{arith, refl}
use Rattle.uac_graph.specs.Wiring.{samples_on}
use Rattle.uac_device.specs.DeviceStreams.{IsWiredOut, stream_put_on}
use Rattle.uac_device.proofs.DeviceStreamsChangeLemmas.{put_keeps, ports_turned, sound_turned, turned_more, turned_none, untouched_port, untouched_sound}
use Rattle.uac_device.proofs.ticking.put.Goals as goal

pub loop-device_stream-init : goal.loop-device_stream-init
loop-device_stream-init c = turned_none _ _ _

pub put-requires-clause-sound : goal.put-requires-clause-sound
put-requires-clause-sound c =
    untouched_sound _ _ c.loop-device_stream.device_streams c.args.device_streams.now c.loop-device_stream.device_stream-index c.device_stream-item.result _ c.loop-device_stream.invariant c.requires.sound (omega arith) refl

pub put-requires-clause-wired : goal.put-requires-clause-wired
put-requires-clause-wired c =
    untouched_port (IsWiredOut c.args.wires.now) _ _ c.loop-device_stream.device_streams c.args.device_streams.now c.loop-device_stream.device_stream-index c.device_stream-item.result _ c.loop-device_stream.invariant c.requires.wired (omega arith) refl

pub loop-device_stream-preserved : goal.loop-device_stream-preserved
loop-device_stream-preserved c =
    turned_more (λ p out. out) (λ p in_. stream_put_on c.args.domain (samples_on c.args.wires.now p.terminal) p in_) c.loop-device_stream.device_streams c.args.device_streams.now c.loop-device_stream.device_stream-index c.put.new.self _
    c.device_stream-item.result (omega arith) c.loop-device_stream.invariant refl c.put.ensures.turns c.put.ensures.sound

pub returns-clause-stands : goal.returns-clause-stands
returns-clause-stands c =
    put_keeps c.args.domain c.args.wires.now c.loop-device_stream.device_streams c.args.device_streams.now c.loop-device_stream.device_stream-index c.loop-device_stream.invariant (omega arith) c.requires.sound

pub returns-clause-ports : goal.returns-clause-ports
returns-clause-ports c = ports_turned _ _ c.loop-device_stream.device_streams c.args.device_streams.now c.loop-device_stream.device_stream-index c.loop-device_stream.invariant (omega arith)

pub returns-clause-sound : goal.returns-clause-sound
returns-clause-sound c = sound_turned _ _ c.loop-device_stream.device_streams c.args.device_streams.now c.loop-device_stream.device_stream-index c.loop-device_stream.invariant (omega arith)
