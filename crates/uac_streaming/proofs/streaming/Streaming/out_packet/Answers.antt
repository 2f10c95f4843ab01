use Rattle.std.proofs.Common.{map}
use Rattle.uac_script.specs.Line.{phrase_mark}
use Rattle.uac_streaming.specs.StreamingWorld.{outward_turn}
use Rattle.uac_streaming.proofs.StreamingWorldLemmas.{out_rests, out_told, rests}
use Rattle.uac_streaming.proofs.streaming.Streaming.out_packet.Goals as goal

pub returns-then-not-due-clause-tells : goal.returns-then-not-due-clause-tells
returns-then-not-due-clause-tells g c = λ w stands.
    let marks = map phrase_mark c.args.marks.now in
    rests (outward_turn c.args.detail marks c.args.interface w) c.args.self.now c.args.device.now (g.K.Sink.written c.args.sink.now) w
    (out_rests c.args.detail c.args.interface marks w c.due.result (c.due.ensures w.device stands.device) c.if-not-due.true) stands

pub returns-clause-tells : goal.returns-clause-tells
returns-clause-tells g c = λ w stands.
    let marks = map phrase_mark c.args.marks.now in
    out_told c.args.detail c.args.interface marks w c.due.result (c.due.ensures w.device stands.device) c.send_out-sent.new.self c.send_out-sent.new.device
    (g.K.Sink.written c.args.sink.now) (g.K.Sink.written c.write_sent_out.new.sink) c.write_sent_out.result c.send_out-sent.result.frames c.send_out-sent.result.arrival c.loses_out.result
    c.if-not-due.false c.loses_out.ensures (c.send_out-sent.ensures.frames w stands) (c.send_out-sent.ensures.arrival w stands) (c.send_out-sent.ensures.stands w stands)
    c.write_sent_out.ensures.printed
