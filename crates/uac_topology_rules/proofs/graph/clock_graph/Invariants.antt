use Rattle.std.proofs.Common.{◌≡◌, map, take}
use Rattle.uac_topology_rules.specs.Table.{index_of}
use Rattle.uac_topology_rules.specs.Links.{clock_sources}
use Rattle.uac_topology_rules.proofs.graph.clock_graph.Given as goal

abbrev pub invariant-loop-entity : goal.invariant-loop-entity
invariant-loop-entity l = l.graph.items ≡ map (λ e. map (index_of l.table) (clock_sources e)) (take l.entity-index l.entity-items)
