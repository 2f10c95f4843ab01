use Rattle.std.proofs.Common.{arith, refl}
use Rattle.uac_graph.specs.TickRows.{frames_at}
use Rattle.uac_graph.specs.Wiring.{samples_on}
use Rattle.uac_device.specs.DeviceStreams.{IsWiredOut}
use Rattle.uac_device.specs.DeviceStreamTicks.{stream_with_on}
use Rattle.uac_device.proofs.DeviceStreamsChangeLemmas.{ports_turned, sound_turned, turned_more, turned_none, untouched_port, untouched_sound}
use Rattle.uac_device.proofs.StreamRowsAllLemmas.{put_rows_keeps}
use Rattle.uac_device.proofs.stream_rows.put_all.Goals as goal

pub loop-device_stream-init : goal.loop-device_stream-init
loop-device_stream-init c = turned_none _ _ _

pub put_rows-requires-clause-sound : goal.put_rows-requires-clause-sound
put_rows-requires-clause-sound c =
    untouched_sound _ _ c.loop-device_stream.device_streams c.args.device_streams.now c.loop-device_stream.device_stream-index c.device_stream-item.result _ c.loop-device_stream.invariant c.requires.sound (omega arith) refl

pub put_rows-requires-clause-wired : goal.put_rows-requires-clause-wired
put_rows-requires-clause-wired c =
    untouched_port (IsWiredOut (frames_at 0 c.args.rows.now)) _ _ c.loop-device_stream.device_streams c.args.device_streams.now c.loop-device_stream.device_stream-index c.device_stream-item.result _ c.loop-device_stream.invariant c.requires.wired (omega arith) refl

pub loop-device_stream-preserved : goal.loop-device_stream-preserved
loop-device_stream-preserved c =
    turned_more (λ p out. out) (λ p in_. stream_with_on c.args.domain c.args.ticks (λ t. samples_on (frames_at t c.args.rows.now) p.terminal) p in_) c.loop-device_stream.device_streams
    c.args.device_streams.now c.loop-device_stream.device_stream-index c.put_rows.new.self _ c.device_stream-item.result (omega arith) c.loop-device_stream.invariant refl
    c.put_rows.ensures.turns c.put_rows.ensures.sound

pub returns-clause-stands : goal.returns-clause-stands
returns-clause-stands c =
    put_rows_keeps c.args.domain c.args.ticks (λ t. frames_at t c.args.rows.now) c.loop-device_stream.device_streams c.args.device_streams.now c.loop-device_stream.device_stream-index c.loop-device_stream.invariant
    (omega arith) c.requires.sound

pub returns-clause-ports : goal.returns-clause-ports
returns-clause-ports c = ports_turned _ _ c.loop-device_stream.device_streams c.args.device_streams.now c.loop-device_stream.device_stream-index c.loop-device_stream.invariant (omega arith)

pub returns-clause-sound : goal.returns-clause-sound
returns-clause-sound c = sound_turned _ _ c.loop-device_stream.device_streams c.args.device_streams.now c.loop-device_stream.device_stream-index c.loop-device_stream.invariant (omega arith)
