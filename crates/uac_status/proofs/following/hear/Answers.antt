use Rattle.std.proofs.Common.{◌≡◌, ◌∙◌, ap, sym, refl, rules, true, Some, Ok, w32, to_z, of_z}
use Rattle.uac_topology.specs.Function.{FunctionFields}
use Rattle.uac_status.proofs.FollowLemmas.{followed_by_get, keyed, known_by_get, told_err, told_ok}
use Rattle.uac_status.proofs.following.hear.Goals as goal

pub returns-in-Ok-clause-followed : goal.returns-in-Ok-clause-followed
returns-in-Ok-clause-followed g c = λ y ours is.
    followed_by_get c.control_interface-control.result c.args.view.now c.get.new.self c.args.message c.in-Some.at c.element_at-element.result (g.L.Link.state c.args.link.now) (g.L.Link.state c.get.new.link)
    (c.control_interface-control.ensures ∙ ap (λ (f : FunctionFields). f.control_interface) c.function.ensures.function) c.element_at-element.ensures c.in-Some.ensures.found
    (Ok c.in-Ok.value) true refl (c.in-Ok.ensures.made c.element_at-element.result c.element_at-element.ensures) y is

pub returns-in-Ok-clause-heard : goal.returns-in-Ok-clause-heard
returns-in-Ok-clause-heard g c =
    keyed c.control_interface-control.result c.args.view.now c.get.new.self c.args.message c.in-Some.at c.element_at-element.result (g.L.Link.state c.args.link.now) (g.L.Link.state c.get.new.link)
    (c.control_interface-control.ensures ∙ ap (λ (f : FunctionFields). f.control_interface) c.function.ensures.function) c.element_at-element.ensures c.in-Some.ensures.found

pub returns-in-Ok-clause-value : goal.returns-in-Ok-clause-value
returns-in-Ok-clause-value g c =
    let exact : to_z w32 (of_z w32 c.in-Ok.value) ≡ c.in-Ok.value = search rules in
    c.in-Ok.ensures.value c.element_at-element.result c.element_at-element.ensures ∙ ap Some (sym exact)

pub returns-in-Ok-clause-known : goal.returns-in-Ok-clause-known
returns-in-Ok-clause-known g c =
    known_by_get c.control_interface-control.result c.args.view.now c.get.new.self c.args.message c.in-Some.at c.element_at-element.result (g.L.Link.state c.args.link.now) (g.L.Link.state c.get.new.link)
    (c.control_interface-control.ensures ∙ ap (λ (f : FunctionFields). f.control_interface) c.function.ensures.function) c.element_at-element.ensures c.in-Some.ensures.found
    c.in-Ok.value (c.in-Ok.ensures.made c.element_at-element.result c.element_at-element.ensures) c.in-Ok.ensures.kept
    (c.in-Ok.ensures.value c.element_at-element.result c.element_at-element.ensures)

pub returns-in-Ok-clause-told : goal.returns-in-Ok-clause-told
returns-in-Ok-clause-told g c = λ ours fault tells.
    told_ok c.control_interface-control.result c.args.view.now c.get.new.self c.args.message c.in-Some.at c.element_at-element.result (g.L.Link.state c.args.link.now) (g.L.Link.state c.get.new.link)
    (c.control_interface-control.ensures ∙ ap (λ (f : FunctionFields). f.control_interface) c.function.ensures.function) c.element_at-element.ensures c.in-Some.ensures.found
    _ c.in-Ok.value fault tells (c.in-Ok.ensures.made c.element_at-element.result c.element_at-element.ensures)

pub returns-in-Ok-clause-of_function : goal.returns-in-Ok-clause-of_function
returns-in-Ok-clause-of_function g c = (c.in-Ok.ensures.made c.element_at-element.result c.element_at-element.ensures).of_function

pub returns-in-Err-clause-broken : goal.returns-in-Err-clause-broken
returns-in-Err-clause-broken g c = λ same. (c.in-Err.ensures.made c.element_at-element.result c.element_at-element.ensures).transfer.answered.0

pub returns-in-Err-clause-told : goal.returns-in-Err-clause-told
returns-in-Err-clause-told g c = λ ours fault tells.
    told_err c.control_interface-control.result c.args.view.now c.get.new.self c.args.message c.in-Some.at c.element_at-element.result (g.L.Link.state c.args.link.now) (g.L.Link.state c.get.new.link)
    (c.control_interface-control.ensures ∙ ap (λ (f : FunctionFields). f.control_interface) c.function.ensures.function) c.element_at-element.ensures c.in-Some.ensures.found
    _ fault tells (c.in-Err.ensures.made c.element_at-element.result c.element_at-element.ensures)
