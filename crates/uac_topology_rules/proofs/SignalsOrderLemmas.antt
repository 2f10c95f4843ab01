-- The clusters, and what tells of the clocks behind each entity, along the order.
use Rattle.std.proofs.Common.{◌≡◌, ◌==◌, ◌<◌, ℕ, ◌+◌, true, not, List, length, get_or, set, sym, ap, ◌∙◌, subst, arith, inl, inr, ◌≤◌}
use Rattle.std.specs.List.{list_any}
use Rattle.std.proofs.lemmas.Bool.{cases_eq, eqb-true}
use Rattle.std.proofs.lemmas.List.{get_or-set_same, get_or-set_other, length-set, length-map}
use Rattle.uac_topology_rules.specs.Walk.{links, has_walk}
use Rattle.uac_entities.specs.Entities.{no_cluster}
use Rattle.uac_entities.specs.declared.entity.Cluster.{Cluster}
use Rattle.uac_entities.specs.declared.entity.Entity.{Entity}
use Rattle.uac_topology_rules.specs.declared.signals.Behind.{Behind}
use Rattle.uac_topology_rules.specs.declared.signals.Behind.TheVariants as clocks
use Rattle.uac_topology_rules.specs.Table.{at}
use Rattle.uac_topology_rules.specs.Links.{signal_links}
use Rattle.uac_topology_rules.specs.Clusters.{cluster_of, cluster_by, cluster_step, clocks_of, clocks_by, clocks_step}
use Rattle.uac_topology_rules.specs.Behind.{differs, Summarizes}
use Rattle.uac_topology_rules.specs.Signals.{IsWalkable, HasClusters, HasClocks, AreClusters, AreClocks}
use Rattle.uac_topology_rules.proofs.ClustersLemmas.{cluster_same, cluster_is, clocks_are}
use Rattle.uac_topology_rules.proofs.ListFindLemmas.{any_at}

module _ (es : List Entity) (graph : List (List ℕ)) (order : List ℕ) (w : IsWalkable es graph order) where
  graph_size : length graph ≡ length es
  graph_size = ap (λ (g : List (List ℕ)). length g) w.linked ∙ length-map es _

  -- a node of the order is an entity
  pub order_below : (i : ℕ) → i < length order → get_or order i 0 < length es
  order_below i b = omega (arith, w.ordered.nodes i b, graph_size)

  -- each entity stands in the order
  stands : (k : ℕ) → k < length es → (i : ℕ) × (i < length order) × (get_or order i 0 ≡ k)
  stands k b =
      let index = any_at (λ u. u == k) order any_is in (index.0, index.1, eqb-true (get_or order index.0 0) k index.2)
    where
      any_is : list_any (λ u. u == k) order ≡ true
      any_is =
          w.ordered.which k (omega (arith, graph_size))
          ∙ ap not (ap (λ (n : ℕ). has_walk graph n k) graph_size ∙ ap (λ (g : List (List ℕ)). has_walk g (length es) k) w.linked ∙ w.acyclic k b)

  -- a source of the next entity is an earlier one of the order
  source_earlier : (i m : ℕ) → i < length order → m < length (links (signal_links es) (get_or order i 0)) →
      (j : ℕ) × (j < i) × (get_or order j 0 ≡ get_or (links (signal_links es) (get_or order i 0)) m 0)
  source_earlier i m b s =
      let k = get_or order i 0 in
      let same : links graph k ≡ links (signal_links es) k = ap (λ (g : List (List ℕ)). links g k) w.linked in
      let r = w.ordered.named_first i b m 0 (subst (λ (xs : List ℕ). m < length xs) (sym same) s) in
      (r.0, r.1, r.2 ∙ ap (λ (xs : List ℕ). get_or xs m 0) same)

  -- a source of the next entity is an entity
  pub source_below : (i m : ℕ) → i < length order → m < length (links graph (get_or order i 0)) → get_or (links graph (get_or order i 0)) m 0 < length es
  source_below i m b s =
      let r = w.ordered.named_first i b m 0 s in
      subst (λ (n : ℕ). n < length es) r.2 (order_below r.0 (omega (arith, r.1)))

  -- the cluster of the next entity
  pub clusters_more : (i : ℕ) (clusters : List Cluster) → i < length order → HasClusters es order i clusters →
      HasClusters es order (i + 1) (set clusters (get_or order i 0)
      (cluster_by (at es (get_or order i 0)) (links graph (get_or order i 0)) (λ p. get_or clusters p no_cluster)))
  unfolding cluster_step
  clusters_more i clusters b h =
      let k = get_or order i 0 in
      let in' : k < length clusters = omega (arith, order_below i b, h.sized) in
      let f : ℕ → Cluster = λ p. get_or clusters p no_cluster in
      let new = cluster_by (at es k) (links graph k) f in
      let here : new ≡ cluster_of es k =
      ap (λ (g : List (List ℕ)). cluster_by (at es k) (links g k) f) w.linked
      ∙ cluster_same es f (cluster_of es) k (λ m s. let r = source_earlier i m b s in subst (λ (p : ℕ). f p ≡ cluster_of es p) r.2 (h.found r.0 r.1))
      ∙ sym (cluster_is es k (w.acyclic k (order_below i b))) in
      record {
        sized = length-set clusters k new ∙ h.sized;
        found = λ j below.
            elim (cases_eq j i) [
              | inl e ↦ rw e (get_or-set_same clusters k new no_cluster in' ∙ here)
              | inr n ↦
                  get_or-set_other clusters k (get_or order j 0) new no_cluster (w.ordered.apart j i (omega arith) b) ∙ h.found j (omega arith)
            ];
      }

  pub clusters_all : (i : ℕ) (clusters : List Cluster) → length order ≤ i → HasClusters es order i clusters → AreClusters es clusters
  clusters_all i clusters past h =
      record {
        sized = h.sized;
        found = λ k b. let s = stands k b in subst (λ (p : ℕ). get_or clusters p no_cluster ≡ cluster_of es p) s.2 (h.found s.0 (omega (arith, s.1)));
      }

  -- what tells of the clocks behind the next entity
  pub clocks_more : (i : ℕ) (list : List Behind) (new : Behind) → i < length order → HasClocks es order i list →
      ((below : ℕ → List ℕ) → ((m : ℕ) → m < length (links graph (get_or order i 0)) →
      Summarizes (get_or list (get_or (links graph (get_or order i 0)) m 0) clocks.Nothing) (below (get_or (links graph (get_or order i 0)) m 0)))
      → Summarizes new (clocks_by (at es (get_or order i 0)) (links graph (get_or order i 0)) below)) →
      HasClocks es order (i + 1) (set list (get_or order i 0) new)
  unfolding clocks_step
  clocks_more i list new b h t =
      let k = get_or order i 0 in
      let in' : k < length list = omega (arith, order_below i b, h.sized) in
      let same : links graph k ≡ links (signal_links es) k = ap (λ (g : List (List ℕ)). links g k) w.linked in
      let told : Summarizes new (clocks_by (at es k) (links graph k) (clocks_of es)) =
      t (clocks_of es) (λ m s.
      let r = w.ordered.named_first i b m 0 s in
      subst (λ (p : ℕ). Summarizes (get_or list p clocks.Nothing) (clocks_of es p)) r.2 (h.told r.0 r.1)) in
      let here : clocks_by (at es k) (links graph k) (clocks_of es) ≡ clocks_of es k =
      ap (λ (xs : List ℕ). clocks_by (at es k) xs (clocks_of es)) same ∙ sym (clocks_are es k (w.acyclic k (order_below i b))) in
      record {
        sized = length-set list k new ∙ h.sized;
        told = λ j below c.
            elim (cases_eq j i) [
              | inl e ↦
                  rw (e, get_or-set_same list k new clocks.Nothing in')
                  (ap (list_any (λ x. not (x == c))) (sym here) ∙ told c)
              | inr n ↦
                  h.told j (omega arith) c
                  ∙ ap (λ (x : Behind). differs x c) (sym (get_or-set_other list k (get_or order j 0) new clocks.Nothing (w.ordered.apart j i (omega arith) b)))
            ];
      }

  pub clocks_all : (i : ℕ) (list : List Behind) → length order ≤ i → HasClocks es order i list → AreClocks es list
  clocks_all i list past h =
      record {
        sized = h.sized;
        told = λ k b. let s = stands k b in subst (λ (p : ℕ). Summarizes (get_or list p clocks.Nothing) (clocks_of es p)) s.2 (h.told s.0 (omega (arith, s.1)));
      }
