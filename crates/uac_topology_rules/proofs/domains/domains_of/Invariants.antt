use Rattle.uac_topology_rules.specs.Domains.{IsDomains}
use Rattle.std.proofs.Common.{take}
use Rattle.uac_topology_rules.proofs.domains.domains_of.Given as goal

abbrev pub invariant-loop-entity : goal.invariant-loop-entity
invariant-loop-entity l = IsDomains (take l.entity-index l.entities) l.clocks.items l.counts.items
