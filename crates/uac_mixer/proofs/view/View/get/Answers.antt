-- What a get answers, by the one transfer that it makes.
use Rattle.std.proofs.Common.{◌∙◌, ◌<◌, ℕ, ap, refl, subst, w32}
use Rattle.std.proofs.lemmas.Int.{to_z-of_z}
use Rattle.uac_topology.specs.Function.{FunctionFields}
use Rattle.uac_topology.specs.Topology.{IsSoundFunction}
use Rattle.uac_mixer.proofs.ViewTransfersLemmas.{names_it}
use Rattle.uac_mixer.proofs.ViewLinksCallLemmas.{get_done, get_fails, get_some}
use Rattle.uac_mixer.proofs.ViewLinksReadLemmas.{at_err}
use Rattle.uac_mixer.proofs.view.View.get.Goals as goal

pub transfer_at-requires-clause-named : goal.transfer_at-requires-clause-named
transfer_at-requires-clause-named g c =
    names_it 161 c.control_interface-control.result c.element_setup-setup.result c.args.self.now.elements c.args.at c.element.result c.element_setup-setup.ensures
    (record { interface = c.control_interface-control.type_inv; entity = c.element.ensures.entity; selector = c.element.ensures.selector; channel = c.element.ensures.channel })
    c.element.ensures.there

pub unwrap-requires : goal.unwrap-requires
unwrap-requires g c =
    get_some c.control_interface-control.result c.element_setup-setup.result c.element.result c.args.at c.args.self.now c.transfer_at.new.self (g.L.Link.state c.args.link.now) (g.L.Link.state c.transfer_at.new.link)
    c.element_setup-setup.ensures (c.control_interface-control.ensures ∙ ap (λ (f : FunctionFields). f.control_interface) c.function-2.ensures.function)
    (subst IsSoundFunction c.function.ensures.function c.functions_are_sound.ensures) c.function.ensures.stored c.requires.of_function c.element.ensures.there
    (record { interface = subst (λ (i : ℕ). i < 256) (c.control_interface-control.ensures ∙ ap (λ (f : FunctionFields). f.control_interface) c.function-2.ensures.function) c.control_interface-control.type_inv; entity = c.element.ensures.entity; selector = c.element.ensures.selector; channel = c.element.ensures.channel })
    _ c.element-2.result c.in_ok-transfer_at.ensures.made c.element-2.ensures.there

pub returns-clause-made : goal.returns-clause-made
returns-clause-made g c =
    (get_done c.control_interface-control.result c.element_setup-setup.result c.element.result c.args.at c.args.self.now c.transfer_at.new.self (g.L.Link.state c.args.link.now) (g.L.Link.state c.transfer_at.new.link)
    c.element_setup-setup.ensures (c.control_interface-control.ensures ∙ ap (λ (f : FunctionFields). f.control_interface) c.function-2.ensures.function)
    (subst IsSoundFunction c.function.ensures.function c.functions_are_sound.ensures) c.function.ensures.stored c.requires.of_function c.element.ensures.there
    (record { interface = subst (λ (i : ℕ). i < 256) (c.control_interface-control.ensures ∙ ap (λ (f : FunctionFields). f.control_interface) c.function-2.ensures.function) c.control_interface-control.type_inv; entity = c.element.ensures.entity; selector = c.element.ensures.selector; channel = c.element.ensures.channel })
    _ c.element-2.result c.unwrap.result _ c.in_ok-transfer_at.ensures.made c.element-2.ensures.there c.unwrap.ensures (λ fits. to_z-of_z w32 c.unwrap.result fits)).made

pub returns-clause-value : goal.returns-clause-value
returns-clause-value g c =
    (get_done c.control_interface-control.result c.element_setup-setup.result c.element.result c.args.at c.args.self.now c.transfer_at.new.self (g.L.Link.state c.args.link.now) (g.L.Link.state c.transfer_at.new.link)
    c.element_setup-setup.ensures (c.control_interface-control.ensures ∙ ap (λ (f : FunctionFields). f.control_interface) c.function-2.ensures.function)
    (subst IsSoundFunction c.function.ensures.function c.functions_are_sound.ensures) c.function.ensures.stored c.requires.of_function c.element.ensures.there
    (record { interface = subst (λ (i : ℕ). i < 256) (c.control_interface-control.ensures ∙ ap (λ (f : FunctionFields). f.control_interface) c.function-2.ensures.function) c.control_interface-control.type_inv; entity = c.element.ensures.entity; selector = c.element.ensures.selector; channel = c.element.ensures.channel })
    _ c.element-2.result c.unwrap.result _ c.in_ok-transfer_at.ensures.made c.element-2.ensures.there c.unwrap.ensures (λ fits. to_z-of_z w32 c.unwrap.result fits)).value

pub returns-clause-as_before : goal.returns-clause-as_before
returns-clause-as_before g c =
    (get_done c.control_interface-control.result c.element_setup-setup.result c.element.result c.args.at c.args.self.now c.transfer_at.new.self (g.L.Link.state c.args.link.now) (g.L.Link.state c.transfer_at.new.link)
    c.element_setup-setup.ensures (c.control_interface-control.ensures ∙ ap (λ (f : FunctionFields). f.control_interface) c.function-2.ensures.function)
    (subst IsSoundFunction c.function.ensures.function c.functions_are_sound.ensures) c.function.ensures.stored c.requires.of_function c.element.ensures.there
    (record { interface = subst (λ (i : ℕ). i < 256) (c.control_interface-control.ensures ∙ ap (λ (f : FunctionFields). f.control_interface) c.function-2.ensures.function) c.control_interface-control.type_inv; entity = c.element.ensures.entity; selector = c.element.ensures.selector; channel = c.element.ensures.channel })
    _ c.element-2.result c.unwrap.result c.unwrap.result c.in_ok-transfer_at.ensures.made c.element-2.ensures.there c.unwrap.ensures (λ fits. refl)).as_before

pub returns-in_err-transfer_at-clause-unchanged : goal.returns-in_err-transfer_at-clause-unchanged
returns-in_err-transfer_at-clause-unchanged g c =
    at_err _ _ c.from_residual.result c.from_residual.ensures.1 ((get_fails c.control_interface-control.result c.element_setup-setup.result c.element.result c.args.at c.args.self.now c.transfer_at.new.self (g.L.Link.state c.args.link.now) (g.L.Link.state c.transfer_at.new.link)
    c.element_setup-setup.ensures (c.control_interface-control.ensures ∙ ap (λ (f : FunctionFields). f.control_interface) c.function-2.ensures.function)
    (subst IsSoundFunction c.function.ensures.function c.functions_are_sound.ensures) c.function.ensures.stored c.requires.of_function c.element.ensures.there
    (record { interface = subst (λ (i : ℕ). i < 256) (c.control_interface-control.ensures ∙ ap (λ (f : FunctionFields). f.control_interface) c.function-2.ensures.function) c.control_interface-control.type_inv; entity = c.element.ensures.entity; selector = c.element.ensures.selector; channel = c.element.ensures.channel })
    c.in_err-transfer_at.ensures.made).0)

pub returns-in_err-transfer_at-clause-as_before : goal.returns-in_err-transfer_at-clause-as_before
returns-in_err-transfer_at-clause-as_before g c =
    (get_fails c.control_interface-control.result c.element_setup-setup.result c.element.result c.args.at c.args.self.now c.transfer_at.new.self (g.L.Link.state c.args.link.now) (g.L.Link.state c.transfer_at.new.link)
    c.element_setup-setup.ensures (c.control_interface-control.ensures ∙ ap (λ (f : FunctionFields). f.control_interface) c.function-2.ensures.function)
    (subst IsSoundFunction c.function.ensures.function c.functions_are_sound.ensures) c.function.ensures.stored c.requires.of_function c.element.ensures.there
    (record { interface = subst (λ (i : ℕ). i < 256) (c.control_interface-control.ensures ∙ ap (λ (f : FunctionFields). f.control_interface) c.function-2.ensures.function) c.control_interface-control.type_inv; entity = c.element.ensures.entity; selector = c.element.ensures.selector; channel = c.element.ensures.channel })
    c.in_err-transfer_at.ensures.made).1
