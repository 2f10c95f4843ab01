use Rattle.std.proofs.Common.{sym, subst, refl}
use Rattle.uac_running.specs.Ahead.{sent_of}
use Rattle.uac_running.specs.RunningWorld.{streaming_of}
use Rattle.uac_running.specs.RunningKept.{RunningFields, RunningStands}
use Rattle.uac_running.proofs.RunningKeptLemmas.{domains_kept}
use Rattle.uac_running.proofs.RunningKeptJackLemmas.{jacks_kept}
use Rattle.uac_running.proofs.EventsLemmas.{view_still}
use Rattle.uac_running.proofs.AheadStandsLemmas.{sent_gone}
use Rattle.uac_running.specs.contracts.running.Running.{the_view}
use Rattle.uac_running.proofs.running.Running.drop_sent.Goals as goal

pub invariant_of-self : goal.invariant_of-self
invariant_of-self c =
    let function = c.drop_sent.ensures.function in (
      jacks_kept (the_view c.self.inside) _ function refl c.self.invariant.0,
      domains_kept (the_view c.self.inside) _ function refl c.self.invariant.1,
      view_still c.self.inside.device.function _ c.self.inside.view function c.self.invariant.2,
    )

pub returns : goal.returns
returns c meters r stands there =
    let own = subst (λ (p : RunningFields). RunningStands p meters r) (sym c.self.view_is) stands in
    sent_gone meters r (the_view c.self.inside) _ own (sent_of c.args.sent.now r) (c.drop_sent.ensures.stands (streaming_of r) own.streaming there)
    refl refl refl refl refl refl (record { view = refl; configuration = refl; breaks = refl })
