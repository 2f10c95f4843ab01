use Rattle.std.proofs.Common.{◌≡◌, List, ap, ◌∙◌}
use Rattle.uac_entities.specs.declared.entity.Cluster.{Cluster}
use Rattle.uac_topology_rules.specs.Table.{with_clusters}
use Rattle.uac_topology_rules.specs.Clusters.{with_own_clusters}
use Rattle.uac_topology_rules.proofs.TableClusterLemmas.{clustered_is}
use Rattle.uac_topology_rules.proofs.known.Known.into_table.Goals as goal

pub returns : goal.returns
returns c =
    let k = c.self.inside in
    let v : k.table ≡ c.args.self = c.self.view_is in
    c.with_clusters.ensures
    ∙ ap (λ (cs : List Cluster). with_clusters k.table cs) c.as_slice.ensures.value
    ∙ clustered_is k.table k.clusters.items c.self.invariant.sounding
    ∙ ap with_own_clusters v
