use Rattle.std.proofs.Common.{◌∙◌, sym, subst}
use Rattle.uac_running.specs.RunningWorld.{streaming_of}
use Rattle.uac_running.specs.RunningKept.{RunningFields, RunningStands}
use Rattle.uac_running.proofs.running.Running.goes_ahead.Goals as goal

pub returns-then-may_wait-clause-fit : goal.returns-then-may_wait-clause-fit
returns-then-may_wait-clause-fit c = λ meters r stands yes.
    let own = subst (λ (p : RunningFields). RunningStands p meters r) (sym c.self.view_is) stands in
    sym (c.all_fit.ensures (streaming_of r) own.streaming) ∙ yes
