use Rattle.std.proofs.Common.{◌∙◌, refl, sym, subst, Bool, Ok}
use Rattle.uac_edges.specs.declared.edges.Failed.{Failed}
use Rattle.uac_status.specs.Panels.{PanelWorld}
use Rattle.uac_status.specs.FrontKept.{FrontStands, TellsMessage}
use Rattle.uac_status.proofs.FrontFollowLemmas.{begun, broken_off, cut_off, cut_told, finished, one_more}
use Rattle.uac_status.proofs.front.Front.follow_waiting.Goals as goal

pub loop-message-init : goal.loop-message-init
loop-message-init g c = record { told = λ w s. begun w c.args.self.now (g.K.Sink.written c.args.sink.now) s; faultless = refl }

pub returns-in_err-follow_message-clause-tells : goal.returns-in_err-follow_message-clause-tells
returns-in_err-follow_message-clause-tells g c = λ w s.
    cut_told _ _ _ _ _ _ c.from_residual.result c.from_residual.ensures.1
    (cut_off w c.loop-message.self c.follow_message.new.self (g.K.Sink.written c.args.sink.now) (g.K.Sink.written c.loop-message.sink) (g.K.Sink.written c.follow_message.new.sink)
    (c.loop-message.invariant.told w s)
    c.in_err-follow_message.field-0.0 c.in_err-follow_message.ensures.tells)

pub returns-then-not-branch-clause-tells : goal.returns-then-not-branch-clause-tells
returns-then-not-branch-clause-tells g c = λ w s.
    broken_off w c.loop-message.self c.follow_message.new.self (g.K.Sink.written c.args.sink.now) (g.K.Sink.written c.loop-message.sink) (g.K.Sink.written c.follow_message.new.sink)
    (c.loop-message.invariant.told w s)
    (subst (λ (b : Bool). (now : PanelWorld) → FrontStands c.loop-message.self now
    → TellsMessage {E = Failed} now c.follow_message.new.self (g.K.Sink.written c.loop-message.sink) (g.K.Sink.written c.follow_message.new.sink) (Ok b)) c.if-not-branch.true
    c.in_ok-follow_message.ensures.tells)

pub loop-message-preserved : goal.loop-message-preserved
loop-message-preserved g c = record {
  told = λ w s.
      one_more w c.loop-message.self c.follow_message.new.self (g.K.Sink.written c.args.sink.now) (g.K.Sink.written c.loop-message.sink) (g.K.Sink.written c.follow_message.new.sink)
      (c.loop-message.invariant.told w s)
      (subst (λ (b : Bool). (now : PanelWorld) → FrontStands c.loop-message.self now
      → TellsMessage {E = Failed} now c.follow_message.new.self (g.K.Sink.written c.loop-message.sink) (g.K.Sink.written c.follow_message.new.sink) (Ok b)) c.if-not-branch.false
      c.in_ok-follow_message.ensures.tells);
  faultless = c.in_ok-follow_message.ensures.cause.faultless ∙ c.loop-message.invariant.faultless;
}

pub returns-clause-tells : goal.returns-clause-tells
returns-clause-tells g c = λ w s.
    finished Failed w c.loop-message.self (g.K.Sink.written c.args.sink.now) (g.K.Sink.written c.loop-message.sink) _ (c.loop-message.invariant.told w s)
    (sym c.first_message.ensures ∙ c.in_default.is)
