use Rattle.std.proofs.Common.{◌≤◌, ◌-◌, List}
use Rattle.uac_script.specs.Phrase.{PhraseMark}
use Rattle.uac_units.specs.MeterReadings.{readings}
use Rattle.uac_running.specs.RunningWorld.{RunningWorld}
use Rattle.uac_running.specs.Events.{microframes}
use Rattle.uac_running.specs.RunningKept.{RunningStands, RunningStandsBetween}
use Rattle.uac_running.specs.Quiet.{IsQuiet}
use Rattle.uac_running.proofs.running.Running.quiet_microframes.Given as goal

abbrev pub invariant-loop-passed : goal.invariant-loop-passed
invariant-loop-passed g l = record {
  stands : (marks : List PhraseMark) (r : RunningWorld) → RunningStandsBetween l.fn.self (readings (λ v x. (goal.Meter-dyn g (v, x)).reading_of x) l.fn.meters) r → IsQuiet l.domain r
      → RunningStands l.self (readings (λ v x. (goal.Meter-dyn g (v, x)).reading_of x) l.meters) (microframes marks l.passed r).world;
  within : l.passed ≤ l.count;
}

abbrev pub decreases-loop-passed : goal.decreases-loop-passed
decreases-loop-passed g l = l.count - l.passed
