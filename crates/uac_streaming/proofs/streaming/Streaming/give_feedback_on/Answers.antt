use Rattle.std.proofs.Common.{◌∙◌, sym, map}
use Rattle.uac_script.specs.Line.{phrase_mark}
use Rattle.uac_streaming.specs.StreamingWorld.{feedback_turn}
use Rattle.uac_streaming.proofs.StreamingWorldLemmas.{feedback_rests, feedback_told, rests}
use Rattle.uac_streaming.proofs.streaming.Streaming.give_feedback_on.Goals as goal

pub returns-in_default-clause-tells : goal.returns-in_default-clause-tells
returns-in_default-clause-tells g c = λ w stands.
    let marks = map phrase_mark c.args.marks.now in
    rests (feedback_turn c.args.detail marks c.args.interface w) c.args.self.now c.args.device.now (g.K.Sink.written c.args.sink.now) w
    (feedback_rests c.args.detail c.args.interface marks w c.feedback.result (c.feedback.ensures w.device stands.device) c.in_default.is) stands

pub returns-clause-tells : goal.returns-clause-tells
returns-clause-tells g c = λ w stands.
    feedback_told c.args.detail c.args.interface (map phrase_mark c.args.marks.now) w c.feedback.result (c.feedback.ensures w.device stands.device) c.bring_feedback.new.self c.args.device.now
    (g.K.Sink.written c.args.sink.now) (g.K.Sink.written c.write_feedback_at.new.sink) c.write_feedback_at.result c.in-Some.value c.loses_feedback-lost.result
    c.in-Some.is c.loses_feedback-lost.ensures (c.bring_feedback.ensures.stands c.args.device.now w stands (sym (c.function.ensures ∙ stands.device.function)))
    c.write_feedback_at.ensures.printed
