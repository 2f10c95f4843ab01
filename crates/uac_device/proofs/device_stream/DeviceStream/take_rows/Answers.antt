use Rattle.std.proofs.Common.{◌∙◌, ap, sym, arith, if◌then◌else◌, Option, Some}
use Rattle.std.specs.Option.{option_map}
use Rattle.uac_alt.specs.AltStreams.{StreamFields}
use Rattle.uac_graph.specs.TickRows.{frames_at}
use Rattle.uac_graph.specs.Wiring.{frame_on}
use Rattle.uac_flow.specs.FlowStreams.{OutStream}
use Rattle.uac_flow.specs.FlowTicks.{out_after_ticks}
use Rattle.uac_device.specs.declared.device_stream.Flow.TheVariants as flow
use Rattle.uac_device.specs.DeviceStreams.{frame_given, gives_to}
use Rattle.uac_device.proofs.DeviceStreamsFlowLemmas.{known, out_sound}
use Rattle.uac_device.proofs.StreamRowsLemmas.{taken_given}
use Rattle.uac_device.proofs.device_stream.DeviceStream.take_rows.Goals as goal

pub returns-in-Idle-clause-frames : goal.returns-in-Idle-clause-frames
returns-in-Idle-clause-frames c out in_ keeps t early id =
    let l = c.args.self.now in
    let k = known l.ring l.flow flow.Idle out in_ c.in-Idle.is keeps in
    c.rest_rows.ensures.frames t early id
    ∙ ap (λ (o : Option OutStream). if gives_to c.args.domain id l.port then Some (frame_given (option_map (out_after_ticks t) o) l.port) else frame_on (frames_at t c.args.rows.now) id)
    (sym k.0)

pub returns-else-port-domain-clause-frames : goal.returns-else-port-domain-clause-frames
returns-else-port-domain-clause-frames c out in_ keeps t early id =
    let l = c.args.self.now in
    let k = known l.ring l.flow (flow.Out c.in-Out.flow) out in_ c.in-Out.is keeps in
    let sound = out_sound l.port l.ring l.flow c.in-Out.flow c.in-Out.is c.requires.sound in
    taken_given t c.args.domain l.port id (frame_on (frames_at t c.args.rows.now) id) (frame_on (frames_at t c.take_rows.new.rows) id) k.0 out sound.1 (omega (arith, c.if-port-domain.false)) k.1
    (ap (λ (s : StreamFields). s.channels) (sym k.3.stream) ∙ sound.2) (c.take_rows.ensures.frames k.0 k.3 t early id)
