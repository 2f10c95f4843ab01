use Rattle.std.proofs.Common.{◌≡◌, map, take}
use Rattle.uac_device.specs.DeviceTurns.{resting_clock}
use Rattle.uac_device.proofs.clocks.resting_clocks.Given as goal

abbrev pub invariant-loop-domain : goal.invariant-loop-domain
invariant-loop-domain l = l.clocks.items ≡ map resting_clock (take l.domain-index l.domains)
