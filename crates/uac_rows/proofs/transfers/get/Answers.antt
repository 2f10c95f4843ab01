use Rattle.std.proofs.Common.{ap}
use Rattle.uac_mixer.specs.ViewWorld.{ViewWorld}
use Rattle.uac_rows.specs.BusWorld.{Step}
use Rattle.uac_rows.specs.Rows.{RunsAs}
use Rattle.uac_rows.specs.BusSteps.{IsWriteCut, Reaches}
use Rattle.uac_rows.proofs.BusStepsLemmas.{cut_handed_on}
use Rattle.uac_rows.proofs.BusWorldElementLemmas.{on_named}
use Rattle.uac_rows.proofs.transfers.get.Goals as goal

pub returns-clause-does : goal.returns-clause-does
returns-clause-does g c = λ shown r s.
    on_named (λ (t : Step). Reaches t (RunsAs c.read_element.new.self shown) (g.K.Sink.written c.args.sink.now) (g.K.Sink.written c.read_element.new.sink))
    r c.args.name.now c.args.running.now.view.elements c.in-Some.at _ (ap (λ (v : ViewWorld). v.elements) s.now.view) c.in-Some.ensures.there
    (c.in-Some.ensures.named shown r s)
    (λ x own there.
    let tells = c.in_ok-read_element.ensures.tells shown r x s there in
    (tells.1, tells.0))

pub returns-in_err-read_element-clause-does : goal.returns-in_err-read_element-clause-does
returns-in_err-read_element-clause-does g c = λ shown r s.
    cut_handed_on _ _ _ _ _ _ c.from_residual.ensures.1 (
    on_named (λ (t : Step). IsWriteCut t (g.K.Sink.written c.args.sink.now) (g.K.Sink.written c.read_element.new.sink))
    r c.args.name.now c.args.running.now.view.elements c.in-Some.at _ (ap (λ (v : ViewWorld). v.elements) s.now.view) c.in-Some.ensures.there
    (c.in-Some.ensures.named shown r s) (λ x own there. (c.in_err-read_element.ensures.tells shown r x s there).0)
    )
