use Rattle.std.proofs.Common.{◌≡◌, ◌∙◌, ◌<◌, arith, get_or, length, refl}
use Rattle.uac_graph.specs.TickRows.{frames_at}
use Rattle.uac_graph.specs.Wiring.{frame_on}
use Rattle.uac_flow.specs.FlowTicks.{out_after_ticks}
use Rattle.uac_device.specs.InterfaceStreams.{changed_where}
use Rattle.uac_device.specs.DeviceStreams.{IsWiredIn}
use Rattle.uac_device.specs.DeviceStreamTicks.{stream_after_on}
use Rattle.uac_device.proofs.DeviceStreamsChangeLemmas.{ports_turned, sound_turned, turned_more, turned_none, untouched, untouched_port, untouched_sound}
use Rattle.uac_device.proofs.DeviceStreamsFrameLemmas.{frames_all}
use Rattle.uac_device.proofs.StreamRowsAllLemmas.{rows_more, take_rows_keeps}
use Rattle.uac_device.proofs.StreamRowsLemmas.{wired_kept}
use Rattle.uac_device.proofs.stream_rows.take_all.Goals as goal

pub loop-device_stream-init : goal.loop-device_stream-init
loop-device_stream-init c = record {
  turned = turned_none _ _ _;
  frames = λ on outs ins all keeps t early id. refl;
  lengths = refl;
  room = refl;
}

pub take_rows-requires-clause-sound : goal.take_rows-requires-clause-sound
take_rows-requires-clause-sound c =
    untouched_sound _ _ c.loop-device_stream.device_streams c.args.device_streams.now c.loop-device_stream.device_stream-index c.device_stream-item.result _ c.loop-device_stream.invariant.turned c.requires.sound (omega arith) refl

pub take_rows-requires-clause-wired : goal.take_rows-requires-clause-wired
take_rows-requires-clause-wired c out =
    let l = get_or c.loop-device_stream.device_streams c.loop-device_stream.device_stream-index c.device_stream-item.result in
    wired_kept c.args.rows.now.slots c.loop-device_stream.rows.slots l.port.terminal l.port.channels c.loop-device_stream.invariant.lengths
    (untouched_port (IsWiredIn (frames_at 0 c.args.rows.now)) _ _ c.loop-device_stream.device_streams c.args.device_streams.now c.loop-device_stream.device_stream-index c.device_stream-item.result l
    c.loop-device_stream.invariant.turned c.requires.wired (omega arith) refl out)

pub take_rows-requires-clause-room : goal.take_rows-requires-clause-room
take_rows-requires-clause-room c = omega (arith, c.requires.room, c.loop-device_stream.invariant.room)

pub loop-device_stream-preserved : goal.loop-device_stream-preserved
loop-device_stream-preserved c =
    let old = c.args.device_streams.now in
    let at = c.loop-device_stream.device_stream-index in
    let d = c.device_stream-item.result in
    let l = get_or c.loop-device_stream.device_streams at d in
    let below : at < length old = omega (arith, c.loop-device_stream.invariant.turned.same) in
    let read : l ≡ get_or old at d = untouched _ _ c.loop-device_stream.device_streams old at d c.loop-device_stream.invariant.turned in
    record {
      turned =
          turned_more (stream_after_on c.args.domain c.args.ticks) (λ p in_. in_) c.loop-device_stream.device_streams old at c.take_rows.new.self _ d (omega arith)
          c.loop-device_stream.invariant.turned refl c.take_rows.ensures.turns c.take_rows.ensures.sound;
      frames = λ on outs ins all keeps t early id.
          rows_more t c.args.domain old at d l (frames_at t c.args.rows.now) (frames_at t c.loop-device_stream.rows) (frames_at t c.take_rows.new.rows) on outs ins id below read all keeps
          (λ out in_ kept k. c.take_rows.ensures.frames out in_ kept t early k) (c.loop-device_stream.invariant.frames on outs ins all keeps t early id);
      lengths = c.take_rows.ensures.lengths ∙ c.loop-device_stream.invariant.lengths;
      room = c.take_rows.ensures.room ∙ c.loop-device_stream.invariant.room;
    }

pub returns-clause-stands : goal.returns-clause-stands
returns-clause-stands c =
    take_rows_keeps c.args.domain c.args.ticks c.loop-device_stream.device_streams c.args.device_streams.now c.loop-device_stream.device_stream-index c.loop-device_stream.invariant.turned (omega arith) c.requires.sound

pub returns-clause-frames : goal.returns-clause-frames
returns-clause-frames c on outs ins all keeps t early id =
    c.loop-device_stream.invariant.frames on outs ins all keeps t early id
    ∙ frames_all c.args.domain id (changed_where on (λ interface. out_after_ticks t) outs) c.args.device_streams.now c.loop-device_stream.device_stream-index (frame_on (frames_at t c.args.rows.now) id)
    (omega (arith, c.loop-device_stream.invariant.turned.same))

pub returns-clause-ports : goal.returns-clause-ports
returns-clause-ports c = ports_turned _ _ c.loop-device_stream.device_streams c.args.device_streams.now c.loop-device_stream.device_stream-index c.loop-device_stream.invariant.turned (omega arith)

pub returns-clause-sound : goal.returns-clause-sound
returns-clause-sound c = sound_turned _ _ c.loop-device_stream.device_streams c.args.device_streams.now c.loop-device_stream.device_stream-index c.loop-device_stream.invariant.turned (omega arith)
