use Rattle.std.proofs.Common.{◌≡◌, take, map}
use Rattle.uac_store.specs.ControlTable as spec
use Rattle.uac_store.proofs.values.each_alone.Given as goal

abbrev pub invariant-loop-rate : goal.invariant-loop-rate
invariant-loop-rate l = l.ranges.items ≡ map spec.alone (take l.rate-index l.rates)
