use Rattle.std.proofs.Common.{◌≡◌, ◌∙◌, ap, sym, subst, refl, rules, ◌<◌, ℕ, ℤ, length, Some, slice_get, to_z, of_z, w32}
use Rattle.uac_topology.specs.Function.{FunctionFields}
use Rattle.uac_request.specs.Requests.{value_bytes}
use Rattle.uac_device.specs.DeviceKept.{DeviceFields}
use Rattle.uac_mixer.specs.MixerElements.{width_of}
use Rattle.uac_mixer.specs.ViewTransfers.{came_of_set, set_of}
use Rattle.uac_mixer.specs.ViewWorld.{ViewWorld}
use Rattle.uac_status.specs.Panels.{panel_comes_back, panel_transfer}
use Rattle.uac_status.specs.FrontKept.{FrontFields, FrontStands}
use Rattle.uac_status.proofs.FrontLinkLemmas.{an_element_at, came_back, front_over, transfer_stands}
use Rattle.uac_status.specs.contracts.front.Front.{the_view}
use Rattle.uac_status.proofs.front.Front.set.Goals as goal

pub invariant_of-self : goal.invariant_of-self
invariant_of-self c =
    let x = an_element_at c.self.inside.view.elements c.args.at
    (subst (λ (p : FrontFields). c.args.at < length p.view.elements) (sym c.self.view_is) c.requires.at) in
    front_over (the_view c.self.inside) (record (the_view c.self.inside) { device = c.set.new.link.device.now; view = c.set.new.self; breaks = c.take-fault.new.self }) _ _ _ _ _
    c.self.invariant.shown (c.set.ensures.made x.0 x.1) refl

pub returns-clause-stands : goal.returns-clause-stands
unfolding panel_transfer
returns-clause-stands c w x stands at =
    let own = subst (λ (p : FrontFields). FrontStands p w) (sym c.self.view_is) stands in
    let here : slice_get c.self.inside.view.elements c.args.at ≡ Some x = ap (λ (v : ViewWorld). slice_get v.elements c.args.at) own.view ∙ at in
    let control = ap (λ (d : DeviceFields). d.function.control_interface) c.new-link.ensures.device ∙ ap (λ (f : FunctionFields). f.control_interface) own.function in
    let after : FrontFields = record (the_view c.self.inside) { device = c.set.new.link.device.now; view = c.set.new.self; breaks = c.take-fault.new.self } in
    let exact : to_z w32 (of_z w32 c.args.value) ≡ c.args.value = search rules in
    subst (λ (z : ℤ). FrontStands after (panel_transfer (set_of w.function.control_interface x) (value_bytes (width_of x.kind) z) w)) exact
    (subst (λ (n : ℕ). FrontStands after (panel_transfer (set_of n x) (value_bytes (width_of x.kind) (to_z w32 (of_z w32 c.args.value))) w)) control
    (transfer_stands w (the_view c.self.inside) after _ (value_bytes (width_of x.kind) (to_z w32 (of_z w32 c.args.value))) _ _ _ own c.new-link.ensures.device
    (ap Some (c.new-link.ensures.fault ∙ c.take-fault.ensures.value)) (c.set.ensures.made x here) w.pending refl c.take-fault.ensures.after own.pending refl))

pub returns-clause-came : goal.returns-clause-came
returns-clause-came c w x stands at =
    let own = subst (λ (p : FrontFields). FrontStands p w) (sym c.self.view_is) stands in
    let here : slice_get c.self.inside.view.elements c.args.at ≡ Some x = ap (λ (v : ViewWorld). slice_get v.elements c.args.at) own.view ∙ at in
    let control = ap (λ (d : DeviceFields). d.function.control_interface) c.new-link.ensures.device ∙ ap (λ (f : FunctionFields). f.control_interface) own.function in
    let after : FrontFields = record (the_view c.self.inside) { view = c.set.new.self } in
    let exact : to_z w32 (of_z w32 c.args.value) ≡ c.args.value = search rules in
    subst (λ (z : ℤ). came_of_set c.set.result ≡ panel_comes_back (set_of w.function.control_interface x) (value_bytes (width_of x.kind) z) w) exact
    (subst (λ (n : ℕ). came_of_set c.set.result ≡ panel_comes_back (set_of n x) (value_bytes (width_of x.kind) (to_z w32 (of_z w32 c.args.value))) w) control
    (came_back w (the_view c.self.inside) after _ (value_bytes (width_of x.kind) (to_z w32 (of_z w32 c.args.value))) _ _ _ own c.new-link.ensures.device
    (ap Some (c.new-link.ensures.fault ∙ c.take-fault.ensures.value)) (c.set.ensures.made x here)))
