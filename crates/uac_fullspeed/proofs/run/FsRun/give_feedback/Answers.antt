-- A report that is due, or none.
use Rattle.std.proofs.Common.{◌≡◌, ◌∙◌, ap, sym, subst}
use Rattle.uac_fullspeed.specs.FullSpeedKept.{FsRunFields, FsRunStandsBetween}
use Rattle.uac_fullspeed.proofs.RunLemmas.{NoFeedback, no_feedback, some_feedback}
use Rattle.uac_fullspeed.proofs.run.FsRun.give_feedback.Goals as goal

pub returns-then-self-ne0-clause-tells : goal.returns-then-self-ne0-clause-tells
returns-then-self-ne0-clause-tells g c = λ w stands.
    let s = subst (λ (p : FsRunFields). FsRunStandsBetween p w) (sym c.self.view_is) stands in
    subst (λ (p : FsRunFields). NoFeedback w p c.args.lost (g.K.Sink.written c.args.sink.now)) c.self.view_is
    (no_feedback w _ c.args.lost (g.K.Sink.written c.args.sink.now) s c.if-self-ne0.true)

pub returns-clause-tells : goal.returns-clause-tells
returns-clause-tells g c = λ w stands.
    let since = ap (λ (p : FsRunFields). p.since) c.self.view_is in
    let detail = ap (λ (p : FsRunFields). p.detail) c.self-2.view_is in
    some_feedback w c.args.self.now c.bring_feedback.new.self c.args.lost c.due_feedback-value.result c.self-2.inside.detail (g.K.Sink.written c.args.sink.now) (g.K.Sink.written c.write_feedback_at.new.sink)
    c.write_feedback_at.result stands (sym since ∙ c.if-self-ne0.false) (c.due_feedback-value.ensures.value w stands.now) (detail ∙ c.bring_feedback.ensures.detail)
    (c.bring_feedback.ensures.stands w stands.now) c.write_feedback_at.ensures.printed
