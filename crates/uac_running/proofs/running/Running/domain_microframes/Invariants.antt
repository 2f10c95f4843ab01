use Rattle.std.proofs.Common.{◌≡◌, drop}
use Rattle.uac_units.specs.MeterReadings.{readings}
use Rattle.uac_running.specs.RunningWorld.{RunningWorld}
use Rattle.uac_running.specs.Events.{domain_microframes}
use Rattle.uac_running.specs.RunningKept.{RunningStands}
use Rattle.uac_running.proofs.TellingLemmas.{SoFar}
use Rattle.uac_running.proofs.running.Running.domain_microframes.Given as goal

abbrev pub invariant-loop-index : goal.invariant-loop-index
invariant-loop-index g l = record {
  told : (r : RunningWorld) → RunningStands l.initial.self (readings (λ v x. (goal.Meter-dyn g (v, x)).reading_of x) l.initial.meters) r
      → SoFar RunningStands (domain_microframes l.initial.self.device.function.domains r) (domain_microframes (drop l.index l.initial.self.device.function.domains)) l.self
      (readings (λ v x. (goal.Meter-dyn g (v, x)).reading_of x) l.meters) (g.K.Sink.written l.fn.sink) (g.K.Sink.written l.sink);
  faultless : g.K.Sink.faults l.sink ≡ g.K.Sink.faults l.fn.sink;
  function : l.self.device.function ≡ l.initial.self.device.function;
}
