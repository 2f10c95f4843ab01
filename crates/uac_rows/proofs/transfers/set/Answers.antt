use Rattle.std.proofs.Common.{◌≡◌, ◌∙◌, sym, ap, subst, ℤ, w32, to_z, of_z, Ok, Err}
use Rattle.std.proofs.lemmas.Int.{to_z-of_z}
use Rattle.uac_edges.specs.declared.edges.Failed.{Failed}
use Rattle.uac_mixer.specs.ViewWorld.{ViewWorld}
use Rattle.uac_mixer.specs.MixerElements.{fits_element}
use Rattle.uac_running.specs.RunningKept.{RunningTellsBetween}
use Rattle.uac_running.specs.RunningTransfers.{set_element}
use Rattle.uac_rows.specs.BusWorld.{Step, breaks_rule}
use Rattle.uac_rows.specs.Rows.{RunsAs}
use Rattle.uac_rows.specs.BusSteps.{IsWriteCut, Reaches}
use Rattle.uac_rows.proofs.BusStepsLemmas.{cut_handed_on, unless_fails, unless_holds}
use Rattle.uac_rows.proofs.BusWorldElementLemmas.{on_named}
use Rattle.uac_rows.proofs.transfers.set.Goals as goal

pub returns-then-not-fits-clause-does : goal.returns-then-not-fits-clause-does
returns-then-not-fits-clause-does g c = λ shown r s.
    let exact : to_z w32 (of_z w32 c.args.value) ≡ c.args.value = to_z-of_z w32 c.args.value c.ranges.value in
    on_named (λ (t : Step). t ≡ breaks_rule 7) r c.args.name.now c.args.running.now.view.elements c.in-Some.at _
    (ap (λ (v : ViewWorld). v.elements) s.now.view) c.in-Some.ensures.there (c.in-Some.ensures.named shown r s)
    (λ x own there. unless_fails _ 7 _ (sym (ap (fits_element x.kind) exact) ∙ sym (c.fits.ensures x own) ∙ c.if-not-fits.true))

pub returns-clause-does : goal.returns-clause-does
returns-clause-does g c = λ shown r s.
    let exact : to_z w32 (of_z w32 c.args.value) ≡ c.args.value = to_z-of_z w32 c.args.value c.ranges.value in
    let reaches = λ (t : Step). Reaches t (RunsAs c.set_element.new.self shown) (g.K.Sink.written c.args.sink.now) (g.K.Sink.written c.set_element.new.sink) in
    on_named reaches r c.args.name.now c.args.running.now.view.elements c.in-Some.at _
    (ap (λ (v : ViewWorld). v.elements) s.now.view) c.in-Some.ensures.there (c.in-Some.ensures.named shown r s)
    (λ x own there.
    let tells =
    subst (λ (z : ℤ). RunningTellsBetween {E = Failed} (set_element x z r) c.set_element.new.self shown (g.K.Sink.written c.args.sink.now) (g.K.Sink.written c.set_element.new.sink) (Ok tt)) exact
    (c.in_ok-set_element.ensures.tells shown r x s there) in
    subst reaches (sym (unless_holds _ 7 _ (sym (ap (fits_element x.kind) exact) ∙ sym (c.fits.ensures x own) ∙ c.if-not-fits.false))) (tells.1, tells.0))

pub returns-in_err-set_element-clause-does : goal.returns-in_err-set_element-clause-does
returns-in_err-set_element-clause-does g c = λ shown r s.
    let exact : to_z w32 (of_z w32 c.args.value) ≡ c.args.value = to_z-of_z w32 c.args.value c.ranges.value in
    let cut = λ (t : Step). IsWriteCut t (g.K.Sink.written c.args.sink.now) (g.K.Sink.written c.set_element.new.sink) in
    cut_handed_on _ _ _ _ _ _ c.from_residual.ensures.1 (on_named cut r c.args.name.now c.args.running.now.view.elements c.in-Some.at _
    (ap (λ (v : ViewWorld). v.elements) s.now.view) c.in-Some.ensures.there (c.in-Some.ensures.named shown r s)
    (λ x own there.
    let tells =
    subst (λ (z : ℤ). RunningTellsBetween {E = Failed} (set_element x z r) c.set_element.new.self shown (g.K.Sink.written c.args.sink.now) (g.K.Sink.written c.set_element.new.sink) (Err (record {}))) exact
    (c.in_err-set_element.ensures.tells shown r x s there) in
    subst cut (sym (unless_holds _ 7 _ (sym (ap (fits_element x.kind) exact) ∙ sym (c.fits.ensures x own) ∙ c.if-not-fits.false))) tells.0))
