use Rattle.std.specs.List.{All}
use Rattle.uac_device.specs.Following.{IsDomainRate}
use Rattle.uac_device.proofs.derived.domain_rates_of.Given as goal

abbrev pub invariant-loop-domain : goal.invariant-loop-domain
invariant-loop-domain l = All (IsDomainRate l.function.entities l.store) l.rates.items
