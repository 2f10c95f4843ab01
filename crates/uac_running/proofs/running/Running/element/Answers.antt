use Rattle.std.proofs.Common.{ap, sym, subst}
use Rattle.std.specs.Str.{bytes_eq}
use Rattle.uac_mixer.specs.MixerElements.{name_of}
use Rattle.uac_mixer.specs.ViewWorld.{ViewWorld}
use Rattle.uac_mixer.specs.declared.element.Element.{Element}
use Rattle.uac_running.specs.RunningKept.{RunningFields, RunningStands}
use Rattle.uac_running.specs.RunningTransfers.{element_named}
use Rattle.uac_running.proofs.RunningTransfersLemmas.{found_at}
use Rattle.uac_running.proofs.running.Running.element.Goals as goal

pub returns-clause-named : goal.returns-clause-named
unfolding element_named
returns-clause-named c meters r stands =
    let own = subst (λ (p : RunningFields). RunningStands p meters r) (sym c.self.view_is) stands.now in
    found_at (λ (x : Element). bytes_eq (name_of x) c.args.name.now) c.self.inside.view.elements r.view.elements c.find.result
    (ap (λ (v : ViewWorld). v.elements) own.view) c.find.ensures
