use Rattle.std.proofs.Common.{◌≡◌, ◌≤◌, ◌-◌, List}
use Rattle.uac_script.specs.Phrase.{PhraseMark}
use Rattle.uac_units.specs.MeterReadings.{readings}
use Rattle.uac_running.specs.RunningWorld.{RunningWorld}
use Rattle.uac_running.specs.Events.{microframes}
use Rattle.uac_running.specs.RunningKept.{RunningStandsBetween}
use Rattle.uac_running.specs.Quiet.{IsIdle}
use Rattle.uac_running.proofs.IdleLemmas.{StandsIdle}
use Rattle.uac_running.proofs.TellingLemmas.{SoFar}
use Rattle.uac_running.proofs.running.Running.idle_microframes.Given as goal

abbrev pub invariant-loop-passed : goal.invariant-loop-passed
invariant-loop-passed g l = record {
  told : (marks : List PhraseMark) (r : RunningWorld) → RunningStandsBetween l.fn.self (readings (λ v x. (goal.Meter-dyn g (v, x)).reading_of x) l.fn.meters) r → IsIdle l.domain r
      → SoFar (StandsIdle l.domain) (microframes marks l.count r) (microframes marks (l.count - l.passed)) l.self
      (readings (λ v x. (goal.Meter-dyn g (v, x)).reading_of x) l.meters) (g.K.Sink.written l.fn.sink) (g.K.Sink.written l.sink);
  within : l.passed ≤ l.count;
  faultless : g.K.Sink.faults l.sink ≡ g.K.Sink.faults l.fn.sink;
}

abbrev pub decreases-loop-passed : goal.decreases-loop-passed
decreases-loop-passed g l = l.count - l.passed
