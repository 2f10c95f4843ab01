use Rattle.std.proofs.Common.{◌≡◌, ◌+◌, ℕ, List, [], get_or, set, ap, sym, ◌∙◌, subst}
use Rattle.std.proofs.lemmas.List.{get_or_read}
use Rattle.uac_topology_rules.specs.Walk.{links}
use Rattle.uac_entities.specs.Entities.{no_cluster}
use Rattle.uac_entities.specs.declared.entity.Cluster.{Cluster}
use Rattle.uac_entities.specs.declared.entity.Entity.{Entity}
use Rattle.uac_topology_rules.specs.Table.{at}
use Rattle.uac_topology_rules.specs.Clusters.{cluster_by}
use Rattle.uac_topology_rules.specs.Signals.{HasClusters}
use Rattle.uac_topology_rules.proofs.SignalsOrderLemmas.{clusters_more, clusters_all}
use Rattle.uac_topology_rules.proofs.signals.clusters_of.Goals as goal

pub loop-index-preserved : goal.loop-index-preserved
loop-index-preserved c =
    let l = c.loop-index in
    let es = c.args.table.now in
    let graph = c.args.links.now in
    let order = c.args.order.now in
    let k = get_or order l.index-index 0 in
    let sources : c.as_slice.result.now ≡ links graph k =
    c.as_slice.ensures ∙ get_or_read graph k c.index-links-index.result (c.requires.ordered.nodes l.index-index c.loop-index-test.true) c.index-links-index.is [] in
    let below : c.as_slice-in-loop-index.result.now ≡ l.clusters.items = c.as_slice-in-loop-index.ensures.value in
    let new : c.cluster_by-cluster.result ≡ cluster_by (at es k) (links graph k) (λ p. get_or l.clusters.items p no_cluster) =
    c.cluster_by-cluster.ensures
    ∙ ap (λ (e : Entity). cluster_by e c.as_slice.result.now (λ p. get_or c.as_slice-in-loop-index.result.now p no_cluster)) c.at.ensures
    ∙ ap (λ (xs : List ℕ). cluster_by (at es k) xs (λ p. get_or c.as_slice-in-loop-index.result.now p no_cluster)) sources
    ∙ ap (λ (cs : List Cluster). cluster_by (at es k) (links graph k) (λ p. get_or cs p no_cluster)) below in
    subst (λ (x : Cluster). HasClusters es order (l.index-index + 1) (set l.clusters.items k x)) (sym new)
    (clusters_more es graph order c.requires l.index-index l.clusters.items c.loop-index-test.true l.invariant)

pub returns : goal.returns
returns c =
    let l = c.loop-index in
    clusters_all c.args.table.now c.args.links.now c.args.order.now c.requires l.index-index l.clusters.items c.loop-index-test.false l.invariant
