use Rattle.std.proofs.Common.{ap, sym, subst}
use Rattle.std.specs.Str.{bytes_eq}
use Rattle.uac_mixer.specs.MixerElements.{name_of}
use Rattle.uac_mixer.specs.ViewWorld.{ViewWorld}
use Rattle.uac_mixer.specs.declared.element.Element.{Element}
use Rattle.uac_status.specs.Panels.{named_in}
use Rattle.uac_status.specs.FrontKept.{FrontFields, FrontStands}
use Rattle.uac_status.proofs.FrontLinkLemmas.{found_in_world}
use Rattle.uac_status.proofs.front.Front.find.Goals as goal

pub returns-clause-named : goal.returns-clause-named
unfolding named_in
returns-clause-named c w stands =
    let own = subst (λ (p : FrontFields). FrontStands p w) (sym c.self.view_is) stands in
    found_in_world (λ (x : Element). bytes_eq (name_of x) c.args.name.now) c.self.inside.view.elements w.view.elements c.find.result
    (ap (λ (v : ViewWorld). v.elements) own.view) c.find.ensures
