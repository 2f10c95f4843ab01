use Rattle.std.proofs.Common.{◌≡◌, ◌-◌}
use Rattle.uac_units.specs.MeterReadings.{readings}
use Rattle.uac_running.specs.RunningWorld.{RunningWorld}
use Rattle.uac_running.specs.Events.{tick_times}
use Rattle.uac_running.specs.RunningKept.{RunningStands}
use Rattle.uac_running.proofs.TellingLemmas.{SoFar}
use Rattle.uac_running.proofs.SilenceLemmas.{RestsSo}
use Rattle.uac_running.proofs.running.Running.tick_each.Given as goal

abbrev pub invariant-loop-ticked : goal.invariant-loop-ticked
invariant-loop-ticked g l = record {
  told : (r : RunningWorld) → RunningStands l.initial.self (readings (λ v x. (goal.Meter-dyn g (v, x)).reading_of x) l.initial.meters) r
      → SoFar (RestsSo l.silent l.still l.rest.jacks l.rest.device_streams l.domain) (tick_times l.count l.domain r) (tick_times (l.count - l._ticked) l.domain) l.self
      (readings (λ v x. (goal.Meter-dyn g (v, x)).reading_of x) l.meters) (g.K.Sink.written l.fn.sink) (g.K.Sink.written l.sink);
  faultless : g.K.Sink.faults l.sink ≡ g.K.Sink.faults l.fn.sink;
  function : l.self.device.function ≡ l.initial.self.device.function;
}
