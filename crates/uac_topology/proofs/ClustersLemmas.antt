-- The entities with the clusters that they put out, element by element.
use Rattle.std.proofs.Common.{◌≡◌, ◌∙◌, ℕ, ◌+◌, ◌<◌, ◌==◌, not, cond, List, [], ◌∷◌, map, length, get_or, refl, sym, ap, arith}
use Rattle.std.specs.List.{position_or_len}
use Rattle.std.proofs.lemmas.List.{length-map, get_or-map, ext_get_or}
use Rattle.std.proofs.lemmas.List.FromFn.{length-map-range_with_len, get_or-map-range_with_len}
use Rattle.uac_entities.specs.declared.entity.Cluster.{Cluster}
use Rattle.uac_entities.specs.declared.entity.Entity.{Entity}
use Rattle.uac_topology_rules.specs.Clusters.{cluster_of, with_own_clusters}
use Rattle.uac_topology_rules.specs.Table.{at, nothing, index_of, with_cluster}

-- the first index of an id, by the ids alone
index_by_ids : (xs : List Entity) (id : ℕ) → index_of xs id ≡ position_or_len (λ i. i == id) (map (λ e. e.id) xs)
unfolding index_of
index_by_ids [] id = refl
index_by_ids (x ∷ xs) id = ap (λ n. cond (not (x.id == id)) (1 + n) 0) (index_by_ids xs id)

module _ (es : List Entity) where
  pub length-with_own_clusters : length (with_own_clusters es) ≡ length es
  unfolding with_own_clusters
  length-with_own_clusters = length-map-range_with_len (λ k. with_cluster (at es k) (cluster_of es k)) 0 (length es)

  pub with_own_clusters-at : (k : ℕ) (d : Entity) → k < length es → get_or (with_own_clusters es) k d ≡ with_cluster (at es k) (cluster_of es k)
  unfolding with_own_clusters
  with_own_clusters-at k d below = get_or-map-range_with_len (λ k. with_cluster (at es k) (cluster_of es k)) 0 (length es) k k d below (omega arith)

  -- what doesn't look at clusters sees the same
  pub seen_alike : {X : Type 0} (d : X) (g : Entity → X) → ((e : Entity) (c : Cluster) → g (with_cluster e c) ≡ g e) → map g (with_own_clusters es) ≡ map g es
  unfolding at
  seen_alike d g same =
      ext_get_or d (map g (with_own_clusters es)) (map g es) (length-map (with_own_clusters es) g ∙ length-with_own_clusters ∙ sym (length-map es g))
      (λ i within.
      let below : i < length es = omega (arith, within, length-map (with_own_clusters es) g, length-with_own_clusters) in
      let below' : i < length (with_own_clusters es) = omega (arith, below, length-with_own_clusters) in
      get_or-map g (with_own_clusters es) i nothing d below' ∙ ap g (with_own_clusters-at i nothing below) ∙ same (at es i) (cluster_of es i)
      ∙ sym (get_or-map g es i nothing d below))

  pub same_index : (id : ℕ) → index_of (with_own_clusters es) id ≡ index_of es id
  same_index id =
      index_by_ids (with_own_clusters es) id
      ∙ ap (position_or_len (λ i. i == id)) (seen_alike 0 (λ e. e.id) (λ e c. refl))
      ∙ sym (index_by_ids es id)
