use Rattle.std.proofs.Common.{◌≡◌, ◌∙◌, ap, sym, subst, refl, rules, ◌<◌, ℕ, ℤ, length, Some, slice_get, to_z, of_z, w32}
use Rattle.uac_topology.specs.Function.{FunctionFields}
use Rattle.uac_request.specs.Requests.{value_bytes}
use Rattle.uac_device.specs.DeviceKept as device
use Rattle.uac_mixer.specs.MixerElements.{width_of}
use Rattle.uac_mixer.specs.ViewTransfers.{came_of_set, set_of}
use Rattle.uac_mixer.specs.ViewWorld.{ViewWorld}
use Rattle.uac_running.specs.RunningKept.{RunningFields, RunningStands}
use Rattle.uac_running.specs.RunningTransfers.{comes_back, after_transfer}
use Rattle.uac_running.proofs.RunningKeptLemmas.{domains_kept}
use Rattle.uac_running.proofs.RunningKeptJackLemmas.{jacks_kept}
use Rattle.uac_running.proofs.RunningTransfersLemmas.{an_element, came_back, streams_stand, transfer_stands}
use Rattle.uac_running.specs.contracts.running.Running.{the_view}
use Rattle.uac_running.proofs.running.Running.set.Goals as goal

pub invariant_of-self : goal.invariant_of-self
invariant_of-self c =
    let x = an_element c.self.inside.view.elements c.args.at
    (subst (λ (p : RunningFields). c.args.at < length p.view.elements) (sym c.self.view_is) c.requires.at) in
    let made = c.set.ensures.made x.0 x.1 in
    let function = made.function ∙ ap (λ (d : device.DeviceFields). d.function) c.new-link.ensures.device in (
      jacks_kept (the_view c.self.inside) _ function refl c.self.invariant.0,
      domains_kept (the_view c.self.inside) _ function refl c.self.invariant.1,
      made.of_function,
    )

pub returns-clause-stands : goal.returns-clause-stands
returns-clause-stands c meters r x stands at =
    let own = subst (λ (p : RunningFields). RunningStands p meters r) (sym c.self.view_is) stands in
    let here : slice_get c.self.inside.view.elements c.args.at ≡ Some x = ap (λ (v : ViewWorld). slice_get v.elements c.args.at) own.view ∙ at in
    let control = ap (λ (d : device.DeviceFields). d.function.control_interface) c.new-link.ensures.device ∙ ap (λ (f : FunctionFields). f.control_interface) own.streaming.device.function in
    let after : RunningFields = record (the_view c.self.inside) { device = c.set.new.link.device.now; view = c.set.new.self; breaks = c.take-fault.new.self } in
    let exact : to_z w32 (of_z w32 c.args.value) ≡ c.args.value = search rules in
    subst (λ (z : ℤ). RunningStands after meters (after_transfer (set_of r.device.function.control_interface x) (value_bytes (width_of x.kind) z) r)) exact
    (subst (λ (n : ℕ). RunningStands after meters (after_transfer (set_of n x) (value_bytes (width_of x.kind) (to_z w32 (of_z w32 c.args.value))) r)) control
    (transfer_stands meters r (the_view c.self.inside) after _ (value_bytes (width_of x.kind) (to_z w32 (of_z w32 c.args.value))) _ _ _ own c.new-link.ensures.device
    (ap Some (c.new-link.ensures.fault ∙ c.take-fault.ensures.value)) (c.set.ensures.made x here) refl c.take-fault.ensures.after
    (record { configuration = refl; jacks = refl; counts = refl; time = refl; detail = refl; renders = refl })
    (streams_stand meters r (the_view c.self.inside) after _ (value_bytes (width_of x.kind) (to_z w32 (of_z w32 c.args.value))) _ _ _ own c.new-link.ensures.device
    (ap Some (c.new-link.ensures.fault ∙ c.take-fault.ensures.value)) (c.set.ensures.made x here))))

pub returns-clause-came : goal.returns-clause-came
returns-clause-came c meters r x stands at =
    let own = subst (λ (p : RunningFields). RunningStands p meters r) (sym c.self.view_is) stands in
    let here : slice_get c.self.inside.view.elements c.args.at ≡ Some x = ap (λ (v : ViewWorld). slice_get v.elements c.args.at) own.view ∙ at in
    let control = ap (λ (d : device.DeviceFields). d.function.control_interface) c.new-link.ensures.device ∙ ap (λ (f : FunctionFields). f.control_interface) own.streaming.device.function in
    let after : RunningFields = record (the_view c.self.inside) { view = c.set.new.self } in
    let exact : to_z w32 (of_z w32 c.args.value) ≡ c.args.value = search rules in
    subst (λ (z : ℤ). came_of_set c.set.result ≡ comes_back (set_of r.device.function.control_interface x) (value_bytes (width_of x.kind) z) r) exact
    (subst (λ (n : ℕ). came_of_set c.set.result ≡ comes_back (set_of n x) (value_bytes (width_of x.kind) (to_z w32 (of_z w32 c.args.value))) r) control
    (came_back meters r (the_view c.self.inside) after _ (value_bytes (width_of x.kind) (to_z w32 (of_z w32 c.args.value))) _ _ _ own c.new-link.ensures.device
    (ap Some (c.new-link.ensures.fault ∙ c.take-fault.ensures.value)) (c.set.ensures.made x here)))
