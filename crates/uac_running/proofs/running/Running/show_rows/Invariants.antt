use Rattle.std.proofs.Common.{◌≡◌, ℕ, ◌+◌, ◌-◌, ◌≤◌}
use Rattle.uac_device.specs.DeviceTicks.{HoldPlayed}
use Rattle.uac_running.specs.EventTicks.{shown_from, tones_of}
use Rattle.uac_running.specs.ReportLines.{Gathers}
use Rattle.uac_running.specs.RunningWorld.{RunningWorld}
use Rattle.uac_running.proofs.running.Running.show_rows.Given as goal

abbrev pub invariant-loop-tick : goal.invariant-loop-tick
invariant-loop-tick g l = record {
  gathered : (done : ℕ) (r : RunningWorld) → l.from + l.count ≤ done → l.initial.self.detail ≡ r.detail → l.initial.self.device.function ≡ r.device.function
      → HoldPlayed l.domain (tones_of l.domain r.jacks) done r.device l.initial.self.device.rows
      → Gathers (g.K.Sink.written l.fn.sink) (g.K.Sink.written l.sink) l.text (shown_from l.domain l.from (l.tick - l.from) r);
  least : l.from ≤ l.tick;
  faultless : g.K.Sink.faults l.sink ≡ g.K.Sink.faults l.fn.sink;
}
