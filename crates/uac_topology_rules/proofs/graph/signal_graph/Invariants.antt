use Rattle.std.proofs.Common.{◌≡◌, map, take}
use Rattle.uac_topology_rules.specs.Table.{index_of}
use Rattle.uac_topology_rules.specs.Links.{signal_sources}
use Rattle.uac_topology_rules.proofs.graph.signal_graph.Given as goal

abbrev pub invariant-loop-entity : goal.invariant-loop-entity
invariant-loop-entity l = l.graph.items ≡ map (λ e. map (index_of l.table) (signal_sources e)) (take l.entity-index l.entity-items)
