-- Bus frames, where each mark is of the stream.
use Rattle.std.proofs.Common.{◌≡◌, ◌∙◌, sym, subst, map}
use Rattle.uac_script.specs.Line.{phrase_mark}
use Rattle.uac_fullspeed.proofs.StepsLemmas.{all_marks, frames_refused, frames_reach, frames_cut}
use Rattle.uac_fullspeed.proofs.play.frames.Goals as goal

pub returns-then-not-are_of_stream-clause-does : goal.returns-then-not-are_of_stream-clause-does
returns-then-not-are_of_stream-clause-does g c = λ w stands.
    frames_refused c.args.count (map phrase_mark c.args.marks.now) w (sym (all_marks c.args.marks.now) ∙ sym c.are_of_stream.ensures ∙ c.if-not-are_of_stream.true)

pub returns-in-Ok-clause-does : goal.returns-in-Ok-clause-does
returns-in-Ok-clause-does g c = λ w stands.
    frames_reach c.args.count (map phrase_mark c.args.marks.now) w c.loses_out.result c.loses_feedback.result c.frames.new.self (g.K.Sink.written c.args.sink.now) (g.K.Sink.written c.frames.new.sink)
    (sym (all_marks c.args.marks.now) ∙ sym c.are_of_stream.ensures ∙ c.if-not-are_of_stream.false) c.loses_out.ensures c.loses_feedback.ensures
    (c.in-Ok.ensures.tells w stands)

pub returns-in-Err-clause-does : goal.returns-in-Err-clause-does
returns-in-Err-clause-does g c = λ w stands.
    rw c.from.ensures (frames_cut c.args.count (map phrase_mark c.args.marks.now) w c.loses_out.result c.loses_feedback.result (g.K.Sink.written c.args.sink.now) (g.K.Sink.written c.frames.new.sink)
    (sym (all_marks c.args.marks.now) ∙ sym c.are_of_stream.ensures ∙ c.if-not-are_of_stream.false) c.loses_out.ensures c.loses_feedback.ensures
    (c.in-Err.ensures.tells w stands).0)
