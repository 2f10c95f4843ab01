use Rattle.uac_topology_rules.specs.Table.{HasPut}
use Rattle.uac_topology_rules.proofs.table.put_clusters.Given as goal

abbrev pub invariant-loop-index : goal.invariant-loop-index
invariant-loop-index l = HasPut l.initial.entities.items l.clusters l.index l.entities.items
