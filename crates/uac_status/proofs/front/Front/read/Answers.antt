use Rattle.std.proofs.Common.{◌≡◌, ◌∙◌, ap, sym, subst, refl, ◌<◌, ℕ, length, [], Some, slice_get}
use Rattle.uac_topology.specs.Function.{FunctionFields}
use Rattle.uac_device.specs.DeviceKept.{DeviceFields}
use Rattle.uac_mixer.specs.ViewTransfers.{get_of}
use Rattle.uac_mixer.specs.ViewWorld.{ViewWorld}
use Rattle.uac_status.specs.Panels.{panel_transfer}
use Rattle.uac_status.specs.FrontKept.{FrontFields, FrontStands}
use Rattle.uac_status.proofs.FrontLinkLemmas.{an_element_at, came_back, front_over, got_told, transfer_stands}
use Rattle.uac_status.specs.contracts.front.Front.{the_view}
use Rattle.uac_status.proofs.front.Front.read.Goals as goal

pub invariant_of-self : goal.invariant_of-self
invariant_of-self c =
    let x = an_element_at c.self.inside.view.elements c.args.at
    (subst (λ (p : FrontFields). c.args.at < length p.view.elements) (sym c.self.view_is) c.requires) in
    front_over (the_view c.self.inside) (record (the_view c.self.inside) { device = c.get.new.link.device.now; view = c.get.new.self; breaks = c.take-fault.new.self }) _ [] _ _ _
    c.self.invariant.shown (c.get.ensures.made x.0 x.1) refl

pub returns-clause-stands : goal.returns-clause-stands
unfolding panel_transfer
returns-clause-stands c w x stands at =
    let own = subst (λ (p : FrontFields). FrontStands p w) (sym c.self.view_is) stands in
    let here : slice_get c.self.inside.view.elements c.args.at ≡ Some x = ap (λ (v : ViewWorld). slice_get v.elements c.args.at) own.view ∙ at in
    let control = ap (λ (d : DeviceFields). d.function.control_interface) c.new-link.ensures.device ∙ ap (λ (f : FunctionFields). f.control_interface) own.function in
    let after : FrontFields = record (the_view c.self.inside) { device = c.get.new.link.device.now; view = c.get.new.self; breaks = c.take-fault.new.self } in
    subst (λ (n : ℕ). FrontStands after (panel_transfer (get_of n x) [] w)) control
    (transfer_stands w (the_view c.self.inside) after _ [] _ _ _ own c.new-link.ensures.device
    (ap Some (c.new-link.ensures.fault ∙ c.take-fault.ensures.value)) (c.get.ensures.made x here) w.pending refl c.take-fault.ensures.after own.pending refl)

pub returns-clause-value : goal.returns-clause-value
returns-clause-value c w x stands at =
    let own = subst (λ (p : FrontFields). FrontStands p w) (sym c.self.view_is) stands in
    let here : slice_get c.self.inside.view.elements c.args.at ≡ Some x = ap (λ (v : ViewWorld). slice_get v.elements c.args.at) own.view ∙ at in
    let after : FrontFields = record (the_view c.self.inside) { view = c.get.new.self } in
    got_told x c.get.result w _ [] _
    (came_back w (the_view c.self.inside) after _ [] _ _ _ own c.new-link.ensures.device
    (ap Some (c.new-link.ensures.fault ∙ c.take-fault.ensures.value)) (c.get.ensures.made x here))
    (ap (λ (d : DeviceFields). d.controls) c.new-link.ensures.device ∙ own.controls) (c.get.ensures.value x here)
