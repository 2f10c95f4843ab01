use Rattle.std.proofs.Common.{sym, subst, ap, Some}
use Rattle.uac_mixer.specs.declared.link.When.{When}
use Rattle.uac_running.specs.RunningKept.{RunningFields, RunningStands}
use Rattle.uac_running.specs.RunningTransfers.{with_break}
use Rattle.uac_running.proofs.RunningTransfersLemmas.{break_set}
use Rattle.uac_running.specs.contracts.running.Running.{the_view}
use Rattle.uac_running.proofs.running.Running.set_break.Goals as goal

pub returns-clause-stands : goal.returns-clause-stands
unfolding with_break
returns-clause-stands c meters r stands =
    let own = subst (λ (p : RunningFields). RunningStands p meters r) (sym c.self.view_is) stands.now in
    let broken : RunningFields = record (the_view c.self.inside) { breaks = Some c.break_at.result } in
    record {
      now =
          break_set meters r (the_view c.self.inside) broken c.args.after own (ap (λ (w : When). record (the_view c.self.inside) { breaks = Some w }) c.break_at.ensures);
      room = stands.room;
    }
