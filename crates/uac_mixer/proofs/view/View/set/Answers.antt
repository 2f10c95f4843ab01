-- What a set answers, by the one transfer that it makes.
use Rattle.std.proofs.Common.{◌∙◌, ◌<◌, ℕ, ℤ, None, Err, ap, refl, subst, w32}
use Rattle.std.proofs.lemmas.Int.{to_z-of_z}
use Rattle.uac_topology.specs.Function.{FunctionFields}
use Rattle.uac_request.specs.Requests.{value_bytes}
use Rattle.uac_mixer.specs.declared.faults.SetFault.TheVariants as refusals
use Rattle.uac_mixer.proofs.ViewTransfersLemmas.{names_it}
use Rattle.uac_mixer.proofs.ViewLinksCallLemmas.{set_all, set_answer}
use Rattle.uac_mixer.proofs.view.View.set.Goals as goal

pub transfer_at-requires-clause-named : goal.transfer_at-requires-clause-named
transfer_at-requires-clause-named g c =
    names_it 33 c.control_interface-control.result c.element_setup-setup.result c.args.self.now.elements c.args.at c.element-element.result c.element_setup-setup.ensures
    (record { interface = c.control_interface-control.type_inv; entity = c.element-element.ensures.entity; selector = c.element-element.ensures.selector; channel = c.element-element.ensures.channel })
    c.element-element.ensures.there

pub returns-clause-made : goal.returns-clause-made
returns-clause-made g c =
    (set_answer c.control_interface-control.result c.element_setup-setup.result c.element-element.result c.args.at c.args.value _ c.args.self.now c.transfer_at.new.self (g.L.Link.state c.args.link.now) (g.L.Link.state c.transfer_at.new.link)
    c.element_setup-setup.ensures (c.control_interface-control.ensures ∙ ap (λ (f : FunctionFields). f.control_interface) c.function.ensures.function)
    (c.as_slice.ensures.value ∙ c.value_bytes-bytes.ensures.bytes ∙ ap (λ (v : ℤ). value_bytes c.width.result v) (to_z-of_z w32 c.args.value c.ranges.value) ∙ ap (λ (w : ℕ). value_bytes w c.args.value) c.width.ensures.value)
    c.element-element.ensures.there
    (record { interface = subst (λ (i : ℕ). i < 256) (c.control_interface-control.ensures ∙ ap (λ (f : FunctionFields). f.control_interface) c.function.ensures.function) c.control_interface-control.type_inv; entity = c.element-element.ensures.entity; selector = c.element-element.ensures.selector; channel = c.element-element.ensures.channel })
    (c.requires.fits c.element-element.result c.element-element.ensures.there)
    _ c.set_outcome.result c.set_outcome.ensures.done c.set_outcome.ensures.stalled c.in_ok-answer.ensures.made).made

pub returns-clause-done : goal.returns-clause-done
returns-clause-done g c =
    (set_answer c.control_interface-control.result c.element_setup-setup.result c.element-element.result c.args.at c.args.value _ c.args.self.now c.transfer_at.new.self (g.L.Link.state c.args.link.now) (g.L.Link.state c.transfer_at.new.link)
    c.element_setup-setup.ensures (c.control_interface-control.ensures ∙ ap (λ (f : FunctionFields). f.control_interface) c.function.ensures.function)
    (c.as_slice.ensures.value ∙ c.value_bytes-bytes.ensures.bytes ∙ ap (λ (v : ℤ). value_bytes c.width.result v) (to_z-of_z w32 c.args.value c.ranges.value) ∙ ap (λ (w : ℕ). value_bytes w c.args.value) c.width.ensures.value)
    c.element-element.ensures.there
    (record { interface = subst (λ (i : ℕ). i < 256) (c.control_interface-control.ensures ∙ ap (λ (f : FunctionFields). f.control_interface) c.function.ensures.function) c.control_interface-control.type_inv; entity = c.element-element.ensures.entity; selector = c.element-element.ensures.selector; channel = c.element-element.ensures.channel })
    (c.requires.fits c.element-element.result c.element-element.ensures.there)
    _ c.set_outcome.result c.set_outcome.ensures.done c.set_outcome.ensures.stalled c.in_ok-answer.ensures.made).done

pub returns-clause-stalled : goal.returns-clause-stalled
returns-clause-stalled g c =
    (set_answer c.control_interface-control.result c.element_setup-setup.result c.element-element.result c.args.at c.args.value _ c.args.self.now c.transfer_at.new.self (g.L.Link.state c.args.link.now) (g.L.Link.state c.transfer_at.new.link)
    c.element_setup-setup.ensures (c.control_interface-control.ensures ∙ ap (λ (f : FunctionFields). f.control_interface) c.function.ensures.function)
    (c.as_slice.ensures.value ∙ c.value_bytes-bytes.ensures.bytes ∙ ap (λ (v : ℤ). value_bytes c.width.result v) (to_z-of_z w32 c.args.value c.ranges.value) ∙ ap (λ (w : ℕ). value_bytes w c.args.value) c.width.ensures.value)
    c.element-element.ensures.there
    (record { interface = subst (λ (i : ℕ). i < 256) (c.control_interface-control.ensures ∙ ap (λ (f : FunctionFields). f.control_interface) c.function.ensures.function) c.control_interface-control.type_inv; entity = c.element-element.ensures.entity; selector = c.element-element.ensures.selector; channel = c.element-element.ensures.channel })
    (c.requires.fits c.element-element.result c.element-element.ensures.there)
    _ c.set_outcome.result c.set_outcome.ensures.done c.set_outcome.ensures.stalled c.in_ok-answer.ensures.made).stalled

pub returns-clause-unknown : goal.returns-clause-unknown
returns-clause-unknown g c =
    (set_answer c.control_interface-control.result c.element_setup-setup.result c.element-element.result c.args.at c.args.value _ c.args.self.now c.transfer_at.new.self (g.L.Link.state c.args.link.now) (g.L.Link.state c.transfer_at.new.link)
    c.element_setup-setup.ensures (c.control_interface-control.ensures ∙ ap (λ (f : FunctionFields). f.control_interface) c.function.ensures.function)
    (c.as_slice.ensures.value ∙ c.value_bytes-bytes.ensures.bytes ∙ ap (λ (v : ℤ). value_bytes c.width.result v) (to_z-of_z w32 c.args.value c.ranges.value) ∙ ap (λ (w : ℕ). value_bytes w c.args.value) c.width.ensures.value)
    c.element-element.ensures.there
    (record { interface = subst (λ (i : ℕ). i < 256) (c.control_interface-control.ensures ∙ ap (λ (f : FunctionFields). f.control_interface) c.function.ensures.function) c.control_interface-control.type_inv; entity = c.element-element.ensures.entity; selector = c.element-element.ensures.selector; channel = c.element-element.ensures.channel })
    (c.requires.fits c.element-element.result c.element-element.ensures.there)
    _ c.set_outcome.result c.set_outcome.ensures.done c.set_outcome.ensures.stalled c.in_ok-answer.ensures.made).unknown

pub returns-in_err-answer-clause-unknown : goal.returns-in_err-answer-clause-unknown
returns-in_err-answer-clause-unknown g c = λ broken.
    (set_all c.control_interface-control.result c.element_setup-setup.result c.element-element.result c.args.at c.args.value _ c.args.self.now c.transfer_at.new.self (g.L.Link.state c.args.link.now) (g.L.Link.state c.transfer_at.new.link)
    c.element_setup-setup.ensures (c.control_interface-control.ensures ∙ ap (λ (f : FunctionFields). f.control_interface) c.function.ensures.function)
    (c.as_slice.ensures.value ∙ c.value_bytes-bytes.ensures.bytes ∙ ap (λ (v : ℤ). value_bytes c.width.result v) (to_z-of_z w32 c.args.value c.ranges.value) ∙ ap (λ (w : ℕ). value_bytes w c.args.value) c.width.ensures.value)
    c.element-element.ensures.there
    (record { interface = subst (λ (i : ℕ). i < 256) (c.control_interface-control.ensures ∙ ap (λ (f : FunctionFields). f.control_interface) c.function.ensures.function) c.control_interface-control.type_inv; entity = c.element-element.ensures.entity; selector = c.element-element.ensures.selector; channel = c.element-element.ensures.channel })
    (c.requires.fits c.element-element.result c.element-element.ensures.there)
    None (Err refusals.Broken) refl c.in_err-answer.ensures.made).unknown refl
