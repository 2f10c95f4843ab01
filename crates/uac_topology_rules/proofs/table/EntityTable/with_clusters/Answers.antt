use Rattle.uac_topology_rules.proofs.TableClusterLemmas.{table-with}
use Rattle.uac_topology_rules.proofs.table.EntityTable.with_clusters.Goals as goal

pub invariant_of-result : goal.invariant_of-result
invariant_of-result c =
    table-with c.self.inside.entities.items c.args.clusters.now c.self.inside.indices c.put_clusters.new.entities.items c.put_clusters.ensures c.self.invariant
