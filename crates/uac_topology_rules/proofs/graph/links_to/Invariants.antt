use Rattle.std.proofs.Common.{◌≡◌, map, take}
use Rattle.uac_topology_rules.specs.Table.{index_of}
use Rattle.uac_topology_rules.proofs.graph.links_to.Given as goal

abbrev pub invariant-loop-id : goal.invariant-loop-id
invariant-loop-id l = l.links ≡ map (index_of l.table) (take l.id-index l.ids)
