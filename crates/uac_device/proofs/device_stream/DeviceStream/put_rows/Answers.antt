use Rattle.std.proofs.Common.{◌∙◌, sym, arith}
use Rattle.uac_graph.specs.TickRows.{frames_at}
use Rattle.uac_graph.specs.Wiring.{samples_on}
use Rattle.uac_units.specs.SampleRows.{frame_at}
use Rattle.uac_device.proofs.DeviceStreamsFlowLemmas.{in_sound}
use Rattle.uac_device.proofs.StreamRowsLemmas.{got_channels, put_turns}
use Rattle.uac_device.proofs.device_stream.DeviceStream.put_rows.Goals as goal

pub put_rows-requires-clause-channels : goal.put_rows-requires-clause-channels
put_rows-requires-clause-channels c =
    let l = c.args.self.now in
    let sound = in_sound l.port l.ring l.flow c.in-In.flow c.in-In.is c.requires.sound in
    got_channels 0 c.get.result.now (frames_at 0 c.args.rows.now) l.port.terminal l.port.channels (c.get.ensures.frames 0) (c.requires.wired sound.1 sound.3) ∙ sym sound.2

pub returns-else-self-domain-clause-turns : goal.returns-else-self-domain-clause-turns
returns-else-self-domain-clause-turns c =
    let l = c.args.self.now in
    put_turns c.args.domain c.args.ticks (λ t. samples_on (frames_at t c.args.rows.now) l.port.terminal) (λ t. frame_at t c.get.result.now) l c.in-In.flow c.put_rows.new.ring c.in-In.is
    (omega (arith, c.if-self-domain.false)) c.get.ensures.frames c.put_rows.ensures.stands
