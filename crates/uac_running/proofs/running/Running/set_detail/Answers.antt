use Rattle.std.proofs.Common.{sym, subst, refl}
use Rattle.uac_running.specs.RunningWorld.{with_detail}
use Rattle.uac_running.specs.RunningKept.{RunningFields, RunningStands}
use Rattle.uac_running.proofs.EventsLemmas.{detailed}
use Rattle.uac_running.specs.contracts.running.Running.{the_view}
use Rattle.uac_running.proofs.running.Running.set_detail.Goals as goal

pub returns-clause-stands : goal.returns-clause-stands
unfolding with_detail
returns-clause-stands c meters r stands = record {
  now = detailed meters r (the_view c.self.inside) _ (subst (λ (p : RunningFields). RunningStands p meters r) (sym c.self.view_is) stands.now) c.args.level refl;
  room = stands.room;
}
