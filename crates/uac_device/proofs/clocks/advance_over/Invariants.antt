use Rattle.std.proofs.Common.{◌≡◌, ◌==◌, take}
use Rattle.std.specs.List.{find}
use Rattle.std.specs.Option.{option_and_then}
use Rattle.uac_device.specs.DeviceTurns.{clock_after_advances, ticks_where}
use Rattle.uac_device.proofs.ListChangeLemmas.{IsTurnedBelow}
use Rattle.uac_device.proofs.clocks.advance_over.Given as goal

abbrev pub invariant-loop-clock : goal.invariant-loop-clock
invariant-loop-clock l = record {
  turned : IsTurnedBelow (clock_after_advances l.domain l.values l.microframes) l.clocks l.initial.clocks l.clock-index;
  first : l.first ≡ option_and_then (ticks_where l.domain l.values l.microframes) (find (λ c. c.domain == l.domain) (take l.clock-index l.initial.clocks));
}
