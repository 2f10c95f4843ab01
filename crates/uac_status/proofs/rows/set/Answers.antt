use Rattle.std.proofs.Common.{◌≡◌, ◌∙◌, sym, ap, subst, ℤ, w32, to_z, of_z, Ok, Err}
use Rattle.std.proofs.lemmas.Int.{to_z-of_z}
use Rattle.uac_edges.specs.declared.edges.Failed.{Failed}
use Rattle.uac_mixer.specs.MixerElements.{fits_element}
use Rattle.uac_mixer.specs.ViewWorld.{ViewWorld}
use Rattle.uac_transcript.specs.Transcript.{says_view}
use Rattle.std.proofs.Common.{[], ◌∷◌}
use Rattle.uac_status.specs.Panels.{panel_set}
use Rattle.uac_status.specs.PanelLines.{says_line, was_set_sight}
use Rattle.uac_status.specs.Desks.{DeskStep, breaks_rule}
use Rattle.uac_status.specs.FrontKept.{FrontAs, FrontTells, IsCut, IsDone}
use Rattle.uac_status.proofs.DeskStepLemmas.{cut_handed_on, on_named, unless_fails, unless_holds}
use Rattle.uac_status.proofs.rows.set.Goals as goal

pub returns-then-not-fits-clause-does : goal.returns-then-not-fits-clause-does
returns-then-not-fits-clause-does g c = λ w s.
    let exact : to_z w32 (of_z w32 c.args.value) ≡ c.args.value = to_z-of_z w32 c.args.value c.ranges.value in
    on_named (λ (t : DeskStep). t ≡ breaks_rule 7) w c.args.name.now c.args.front.now.view.elements c.in-Some.at _
    (ap (λ (v : ViewWorld). v.elements) s.view) c.in-Some.ensures.there (c.in-Some.ensures.named w s)
    (λ x own there. unless_fails _ 7 _ (sym (ap (fits_element x.kind) exact) ∙ sym (c.fits.ensures x own) ∙ c.if-not-fits.true))

pub returns-clause-does : goal.returns-clause-does
returns-clause-does g c = λ w s.
    let exact : to_z w32 (of_z w32 c.args.value) ≡ c.args.value = to_z-of_z w32 c.args.value c.ranges.value in
    let reaches = λ (t : DeskStep). IsDone t (FrontAs c.set_element.new.self) (g.K.Sink.written c.args.sink.now) (g.K.Sink.written c.set_element.new.sink) in
    on_named reaches w c.args.name.now c.args.front.now.view.elements c.in-Some.at _
    (ap (λ (v : ViewWorld). v.elements) s.view) c.in-Some.ensures.there (c.in-Some.ensures.named w s)
    (λ x own there.
    let tells =
    subst (λ (z : ℤ). FrontTells {E = Failed} (says_line (says_view (was_set_sight x z w)) ∷ []) (panel_set x z w) c.set_element.new.self (g.K.Sink.written c.args.sink.now) (g.K.Sink.written c.set_element.new.sink) (Ok tt)) exact
    (c.in_ok-set_element.ensures.tells w x s there) in
    subst reaches (sym (unless_holds _ 7 _ (sym (ap (fits_element x.kind) exact) ∙ sym (c.fits.ensures x own) ∙ c.if-not-fits.false))) (tells.1, tells.0))

pub returns-in_err-set_element-clause-does : goal.returns-in_err-set_element-clause-does
returns-in_err-set_element-clause-does g c = λ w s.
    let exact : to_z w32 (of_z w32 c.args.value) ≡ c.args.value = to_z-of_z w32 c.args.value c.ranges.value in
    let cut = λ (t : DeskStep). IsCut t (g.K.Sink.written c.args.sink.now) (g.K.Sink.written c.set_element.new.sink) in
    cut_handed_on _ _ _ _ _ _ c.from_residual.ensures.1 (on_named cut w c.args.name.now c.args.front.now.view.elements c.in-Some.at _
    (ap (λ (v : ViewWorld). v.elements) s.view) c.in-Some.ensures.there (c.in-Some.ensures.named w s)
    (λ x own there.
    let tells =
    subst (λ (z : ℤ). FrontTells {E = Failed} (says_line (says_view (was_set_sight x z w)) ∷ []) (panel_set x z w) c.set_element.new.self (g.K.Sink.written c.args.sink.now) (g.K.Sink.written c.set_element.new.sink) (Err (record {}))) exact
    (c.in_err-set_element.ensures.tells w x s there) in
    subst cut (sym (unless_holds _ 7 _ (sym (ap (fits_element x.kind) exact) ∙ sym (c.fits.ensures x own) ∙ c.if-not-fits.false))) tells.0))
