use Rattle.uac_device.specs.DeviceTurns.{clock_after_deviation}
use Rattle.uac_device.proofs.ListChangeLemmas.{IsTurnedBelow}
use Rattle.uac_device.proofs.clocks.deviate.Given as goal

abbrev pub invariant-loop-clock : goal.invariant-loop-clock
invariant-loop-clock l = IsTurnedBelow (clock_after_deviation l.domain l.ppm) l.clocks l.initial.clocks l.clock-index
