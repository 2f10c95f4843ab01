use Rattle.std.proofs.Common.{◌≡◌, ◌∙◌, [], ◌∷◌, sym, ap, subst, ℤ, w32, to_z, of_z}
use Rattle.std.specs.Io.KnownBytes.{Appends}
use Rattle.std.proofs.lemmas.Int.{to_z-of_z}
use Rattle.uac_edges.specs.Writing.{AppendsFront}
use Rattle.uac_mixer.specs.MixerElements.{fits_element}
use Rattle.uac_mixer.specs.ViewWorld.{ViewWorld}
use Rattle.uac_status.specs.Knobs.{KnobOutcome}
use Rattle.uac_status.specs.Panels.{panel_outcome, turned}
use Rattle.uac_status.specs.PanelLines.{panel_spelling, panel_text, says_knob}
use Rattle.uac_status.specs.Desks.{DeskStep}
use Rattle.uac_status.specs.FrontKept.{FrontAs, FrontStands, IsCut, IsDone}
use Rattle.uac_status.proofs.DeskStepLemmas.{cut_handed_on, on_named, unless_holds}
use Rattle.uac_status.proofs.PanelTextLemmas.{one_appended, one_front}
use Rattle.uac_status.proofs.rows.turn.Goals as goal

pub returns-in_err-write_turned-clause-does : goal.returns-in_err-write_turned-clause-does
returns-in_err-write_turned-clause-does g c = λ w s.
    let exact : to_z w32 (of_z w32 c.args.value) ≡ c.args.value = to_z-of_z w32 c.args.value c.ranges.value in
    let cut = λ (t : DeskStep). IsCut t (g.K.Sink.written c.args.sink.now) (g.K.Sink.written c.write_turned.new.sink) in
    cut_handed_on _ _ _ _ _ _ c.from_residual-in_err-write_turned.ensures.1 (on_named cut w c.args.name.now c.args.front.now.view.elements c.in-Some.at _
    (ap (λ (v : ViewWorld). v.elements) s.view) c.in-Some.ensures.there (c.in-Some.ensures.named w s)
    (λ x own there.
    let came = c.in_ok-turned.ensures.came w x s there ∙ ap (λ (z : ℤ). panel_outcome x.key z w) exact in
    let front : AppendsFront (g.K.Sink.written c.args.sink.now) (g.K.Sink.written c.write_turned.new.sink) (panel_text (says_knob (panel_outcome x.key c.args.value w) ∷ [])) =
    one_front _ _ _ (subst (λ (o : KnobOutcome). AppendsFront (g.K.Sink.written c.args.sink.now) (g.K.Sink.written c.write_turned.new.sink) (panel_spelling (says_knob o))) came
    c.in_err-write_turned.ensures.written) in
    subst cut (sym (unless_holds _ 7 _ (sym (ap (fits_element x.kind) exact) ∙ sym (c.fits.ensures x own) ∙ c.if-not-fits.false))) front))

pub returns-clause-does : goal.returns-clause-does
returns-clause-does g c = λ w s.
    let exact : to_z w32 (of_z w32 c.args.value) ≡ c.args.value = to_z-of_z w32 c.args.value c.ranges.value in
    let reaches = λ (t : DeskStep). IsDone t (FrontAs c.turn.new.self) (g.K.Sink.written c.args.sink.now) (g.K.Sink.written c.write_turned.new.sink) in
    on_named reaches w c.args.name.now c.args.front.now.view.elements c.in-Some.at _
    (ap (λ (v : ViewWorld). v.elements) s.view) c.in-Some.ensures.there (c.in-Some.ensures.named w s)
    (λ x own there.
    let came = c.in_ok-turned.ensures.came w x s there ∙ ap (λ (z : ℤ). panel_outcome x.key z w) exact in
    let stands : FrontStands c.turn.new.self (turned x.key c.args.value w) =
    subst (λ (z : ℤ). FrontStands c.turn.new.self (turned x.key z w)) exact (c.in_ok-turned.ensures.stands w x s there) in
    let lines : Appends (g.K.Sink.written c.args.sink.now) (g.K.Sink.written c.write_turned.new.sink) (panel_text (says_knob (panel_outcome x.key c.args.value w) ∷ [])) =
    one_appended _ _ _ (subst (λ (o : KnobOutcome). Appends (g.K.Sink.written c.args.sink.now) (g.K.Sink.written c.write_turned.new.sink) (panel_spelling (says_knob o))) came
    c.in_ok-write_turned.ensures.written) in
    subst reaches (sym (unless_holds _ 7 _ (sym (ap (fits_element x.kind) exact) ∙ sym (c.fits.ensures x own) ∙ c.if-not-fits.false))) (stands, lines))
