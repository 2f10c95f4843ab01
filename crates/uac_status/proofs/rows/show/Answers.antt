use Rattle.std.proofs.Common.{ap}
use Rattle.uac_mixer.specs.ViewWorld.{ViewWorld}
use Rattle.uac_status.specs.Desks.{DeskStep}
use Rattle.uac_status.specs.FrontKept.{FrontAs, IsCut, IsDone}
use Rattle.uac_status.proofs.DeskStepLemmas.{cut_handed_on, on_named}
use Rattle.uac_status.proofs.rows.show.Goals as goal

pub returns-clause-does : goal.returns-clause-does
returns-clause-does g c = λ w s.
    on_named (λ (t : DeskStep). IsDone t (FrontAs c.args.front.now) (g.K.Sink.written c.args.sink.now) (g.K.Sink.written c.show_element.new.sink))
    w c.args.name.now c.args.front.now.view.elements c.in-Some.at _ (ap (λ (v : ViewWorld). v.elements) s.view) c.in-Some.ensures.there (c.in-Some.ensures.named w s)
    (λ x own there. (s, (c.in_ok-show_element.ensures.tells w x s there).0))

pub returns-in_err-show_element-clause-does : goal.returns-in_err-show_element-clause-does
returns-in_err-show_element-clause-does g c = λ w s.
    cut_handed_on _ _ _ _ _ _ c.from_residual.ensures.1 (
    on_named (λ (t : DeskStep). IsCut t (g.K.Sink.written c.args.sink.now) (g.K.Sink.written c.show_element.new.sink))
    w c.args.name.now c.args.front.now.view.elements c.in-Some.at _ (ap (λ (v : ViewWorld). v.elements) s.view) c.in-Some.ensures.there (c.in-Some.ensures.named w s)
    (λ x own there. (c.in_err-show_element.ensures.tells w x s there).0)
    )
