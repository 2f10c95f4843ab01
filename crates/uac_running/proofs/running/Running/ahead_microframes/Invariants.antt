use Rattle.std.proofs.Common.{◌≡◌, ◌-◌, ◌≤◌, map}
use Rattle.std.specs.List.{All}
use Rattle.uac_script.specs.Line.{phrase_mark}
use Rattle.uac_units.specs.MeterReadings.{readings}
use Rattle.uac_running.specs.RunningWorld.{RunningWorld}
use Rattle.uac_running.specs.Events.{microframes}
use Rattle.uac_running.specs.RunningKept.{RunningStandsBetween}
use Rattle.uac_running.specs.Ahead.{IsAhead, IsLone}
use Rattle.uac_running.proofs.TellingLemmas.{SoFar}
use Rattle.uac_running.proofs.running.Running.ahead_microframes.Given as goal

abbrev pub invariant-loop-passed : goal.invariant-loop-passed
invariant-loop-passed g l = record {
  told : (r : RunningWorld) → RunningStandsBetween l.initial.self (readings (λ v x. (goal.Meter-dyn g (v, x)).reading_of x) l.initial.meters) r
      → IsLone l.domain r
      → SoFar (IsAhead l.domain l.ahead.ticks l.ahead.sent) (microframes (map phrase_mark l.marks) l.count r) (microframes (map phrase_mark l.marks) (l.count - l._passed)) l.self
      (readings (λ v x. (goal.Meter-dyn g (v, x)).reading_of x) l.meters) (g.K.Sink.written l.fn.sink) (g.K.Sink.written l.sink);
  ticks : l.ahead.ticks ≤ 128;
  sent : All (λ m. m ≤ 2176) l.ahead.sent;
  faultless : g.K.Sink.faults l.sink ≡ g.K.Sink.faults l.fn.sink;
}
