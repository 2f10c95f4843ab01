use Rattle.std.proofs.Common.{◌≡◌, ◌∙◌, ap, sym, subst, refl, Some}
use Rattle.uac_status.specs.Messages.{first_message}
use Rattle.uac_status.specs.FrontKept.{FrontFields, FrontStands}
use Rattle.uac_status.specs.contracts.front.Front.{the_view}
use Rattle.uac_status.proofs.FrontFollowLemmas.{heard_front, hears_broken, hears_ok}
use Rattle.uac_status.proofs.front.Front.hear_message.Goals as goal

pub invariant_of-self : goal.invariant_of-self
invariant_of-self c =
    heard_front (the_view c.self.inside) (record (the_view c.self.inside) { device = c.hear.new.link.device.now; view = c.hear.new.view; pending = c.remove_first.new.self; breaks = c.take-fault.new.self }) c.args.message _ _
    c.self.invariant (subst (λ (p : FrontFields). first_message p.device.function.control_interface p.pending ≡ Some c.args.message) (sym c.self.view_is) c.requires)
    c.new-link.ensures.device c.in-Ok.ensures.followed c.remove_first.ensures refl

pub returns-in-Ok-clause-hears : goal.returns-in-Ok-clause-hears
returns-in-Ok-clause-hears c w stands =
    hears_ok w (the_view c.self.inside) (record (the_view c.self.inside) { device = c.hear.new.link.device.now; view = c.hear.new.view; pending = c.remove_first.new.self; breaks = c.take-fault.new.self }) c.args.message _ _
    c.self.invariant (subst (λ (p : FrontFields). FrontStands p w) (sym c.self.view_is) stands) (subst (λ (p : FrontFields). first_message p.device.function.control_interface p.pending ≡ Some c.args.message) (sym c.self.view_is) c.requires)
    c.new-link.ensures.device (ap Some (c.new-link.ensures.fault ∙ c.take-fault.ensures.value)) refl c.take-fault.ensures.after
    c.in-Ok.heard c.in-Ok.ensures.followed c.in-Ok.ensures.heard c.in-Ok.ensures.value c.remove_first.ensures

pub returns-in-Err-Broken-clause-hears : goal.returns-in-Err-Broken-clause-hears
returns-in-Err-Broken-clause-hears c w stands =
    hears_broken w (the_view c.self.inside) (record (the_view c.self.inside) { device = c.hear.new.link.device.now; view = c.hear.new.view; breaks = c.take-fault.new.self }) c.args.message _ _
    c.self.invariant (subst (λ (p : FrontFields). FrontStands p w) (sym c.self.view_is) stands) (subst (λ (p : FrontFields). first_message p.device.function.control_interface p.pending ≡ Some c.args.message) (sym c.self.view_is) c.requires)
    c.new-link.ensures.device (ap Some (c.new-link.ensures.fault ∙ c.take-fault.ensures.value)) refl c.take-fault.ensures.after
    c.in-Err-Broken.ensures.followed refl
