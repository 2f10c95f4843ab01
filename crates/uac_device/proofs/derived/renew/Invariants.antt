use Rattle.uac_device.specs.Following.{renewed_rate}
use Rattle.uac_device.proofs.ListChangeLemmas.{IsTurnedBelow}
use Rattle.uac_device.proofs.derived.renew.Given as goal

abbrev pub invariant-loop-rate : goal.invariant-loop-rate
invariant-loop-rate l = IsTurnedBelow (renewed_rate l.function.entities l.store) l.rates l.initial.rates l.rate-index
