use Rattle.std.proofs.Common.{◌≡◌, ◌+◌, drop}
use Rattle.std.specs.List.{sum}
use Rattle.uac_device.specs.DeviceTicks.{HoldPlayed}
use Rattle.uac_running.specs.EventTicks.{tones_of}
use Rattle.uac_running.specs.RunningWorld.{RunningWorld}
use Rattle.uac_running.specs.Quiet.{said_of_each}
use Rattle.uac_running.proofs.IdleLemmas.{SaidSoFar}
use Rattle.uac_running.proofs.running.Running.show_each.Given as goal

abbrev pub invariant-loop-count : goal.invariant-loop-count
invariant-loop-count g l = record {
  said : (r : RunningWorld) → l.initial.self.detail ≡ r.detail → l.initial.self.device.function ≡ r.device.function
      → HoldPlayed l.domain (tones_of l.domain r.jacks) (sum l.ticks) r.device l.initial.self.device.rows
      → SaidSoFar (said_of_each l.domain l.ticks l.initial.time 0 r) (said_of_each l.domain (drop l.count-index l.ticks) l.time l.from r)
      (g.K.Sink.written l.fn.sink) (g.K.Sink.written l.sink);
  left : l.from + sum (drop l.count-index l.ticks) ≡ sum l.ticks;
  faultless : g.K.Sink.faults l.sink ≡ g.K.Sink.faults l.fn.sink;
}
