use Rattle.std.proofs.Common.{◌≡◌, ◌∙◌, ap, sym, subst, ℤ, Some, slice_get, OnOk, to_z, of_z, w32}
use Rattle.std.proofs.lemmas.Int.{to_z-of_z}
use Rattle.uac_mixer.specs.MixerElements.{fits_element}
use Rattle.uac_mixer.specs.ViewWorld.{ViewWorld}
use Rattle.uac_mixer.specs.declared.element.Element.{Element}
use Rattle.uac_status.specs.Panels.{turned}
use Rattle.uac_status.specs.FrontKept.{FrontFields, FrontStands}
use Rattle.uac_status.specs.contracts.front.Front.{the_view}
use Rattle.uac_status.proofs.FrontLinkLemmas.{knob_at, one_at, turn_stands, turned_front}
use Rattle.uac_status.proofs.front.Front.turn.Goals as goal

pub turn-requires : goal.turn-requires
turn-requires c =
    let exact : to_z w32 (of_z w32 c.args.value) ≡ c.args.value = to_z-of_z w32 c.args.value c.ranges.value in
    knob_at c.self.inside.device.function.entities c.self.inside.view c.args.at c.element_at.result (to_z w32 (of_z w32 c.args.value)) c.self.invariant.of_function
    (subst (λ (p : FrontFields). slice_get p.view.elements c.args.at ≡ Some c.element_at.result) (sym c.self.view_is) c.element_at.ensures)
    (ap (fits_element c.element_at.result.kind) exact ∙ c.requires.fits c.element_at.result c.element_at.ensures)

pub invariant_of-self : goal.invariant_of-self
invariant_of-self c =
    turned_front (the_view c.self.inside) c.args.at c.element_at.result (to_z w32 (of_z w32 c.args.value)) _ c.turn.new.device c.turn.new.self c.turn.result c.self.invariant
    (subst (λ (p : FrontFields). slice_get p.view.elements c.args.at ≡ Some c.element_at.result) (sym c.self.view_is) c.element_at.ensures)
    c.turn.ensures.device c.turn.ensures.pending c.turn.ensures.panel_stays c.turn.ensures.device_stays

pub returns-clause-stands : goal.returns-clause-stands
returns-clause-stands c = λ w x stands at.
    let exact : to_z w32 (of_z w32 c.args.value) ≡ c.args.value = to_z-of_z w32 c.args.value c.ranges.value in
    let own = subst (λ (p : FrontFields). FrontStands p w) (sym c.self.view_is) stands in
    let here : slice_get c.args.self.now.view.elements c.args.at ≡ Some x = ap (λ (v : ViewWorld). slice_get v.elements c.args.at) stands.view ∙ at in
    let same : c.element_at.result ≡ x = one_at _ c.args.at c.element_at.result x c.element_at.ensures here in
    let after : FrontFields = record (the_view c.self.inside) { device = c.turn.new.device; pending = c.turn.new.self } in
    subst (λ (z : ℤ). OnOk c.turn.result (FrontStands after (turned x.key z w))) exact
    (subst (λ (y : Element). OnOk c.turn.result (FrontStands after (turned y.key (to_z w32 (of_z w32 c.args.value)) w))) same
    (turn_stands (the_view c.self.inside) w c.element_at.result.key (to_z w32 (of_z w32 c.args.value)) c.turn.new.device c.turn.new.self c.turn.result own
    c.turn.ensures.device c.turn.ensures.pending))
