use Rattle.std.proofs.Common.{sym, subst}
use Rattle.uac_device.specs.Jacks.{tones_of}
use Rattle.uac_running.specs.RunningKept.{RunningFields, RunningStands}
use Rattle.uac_running.proofs.EventRowsLemmas.{lines_shown, met_nothing}
use Rattle.uac_running.proofs.running.Running.meets_nothing.Goals as goal

pub returns-then-count-le128-clause-lines : goal.returns-then-count-le128-clause-lines
returns-then-count-le128-clause-lines c = λ meters r stands yes.
    let own = subst (λ (p : RunningFields). RunningStands p meters r) (sym c.self.view_is) stands in
    lines_shown c.args.domain c.args.count r (λ t less. c.goes_on.ensures.meets r.device own.streaming.device yes (tones_of c.args.domain r.jacks) t less)

pub returns-then-count-le128-clause-met : goal.returns-then-count-le128-clause-met
returns-then-count-le128-clause-met c = λ meters r stands yes.
    let own = subst (λ (p : RunningFields). RunningStands p meters r) (sym c.self.view_is) stands in
    met_nothing c.args.domain c.args.count r (λ t less. c.goes_on.ensures.meets r.device own.streaming.device yes (tones_of c.args.domain r.jacks) t less)
