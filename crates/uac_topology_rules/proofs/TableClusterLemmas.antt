-- The table whose entities have got their clusters.
use Rattle.std.proofs.Common.{◌≡◌, ◌<◌, ◌≤◌, ◌==◌, ℕ, ◌+◌, Bool, not, cond, ltb, List, [], ◌∷◌, Some, None, suc, length, get_or, refl, sym, ap, ◌∙◌, subst, arith, zero-add}
use Rattle.std.specs.List.{range_with_len, position_or_len}
use Rattle.std.specs.HashMap.{HashMap}
use Rattle.std.proofs.lemmas.List.{length-map, get_or-map, ext_get_or}
use Rattle.std.proofs.lemmas.List.FromFn.{length-range_with_len, get_or-range_with_len}
use Rattle.uac_entities.specs.Entities.{no_cluster}
use Rattle.uac_entities.specs.declared.entity.Cluster.{Cluster}
use Rattle.uac_entities.specs.declared.entity.Entity.{Entity}
use Rattle.uac_topology_rules.specs.Table.{at, nothing, first_index_of, with_cluster, with_clusters, HasPut}
use Rattle.uac_topology_rules.specs.Indices.{IsTable}
use Rattle.uac_topology_rules.specs.Clusters.{cluster_of, with_own_clusters}
use Rattle.uac_topology_rules.specs.Signals.{AreClusters}
use Rattle.uac_topology_rules.proofs.SignalsLemmas.{map_same}

module _ (es : List Entity) (clusters : List Cluster) where
  abbrev pub given : ℕ → Entity
  given k = with_cluster (at es k) (get_or clusters k no_cluster)

  pub length-with : length (with_clusters es clusters) ≡ length es
  unfolding with_clusters
  length-with = length-map (range_with_len 0 (length es)) _ ∙ length-range_with_len 0 (length es)

  -- the entity at an index
  pub get-with : (k : ℕ) → k < length es → get_or (with_clusters es clusters) k nothing ≡ given k
  unfolding with_clusters
  get-with k below =
      let in' : k < length (range_with_len 0 (length es)) = omega (arith, length-range_with_len 0 (length es)) in
      get_or-map given (range_with_len 0 (length es)) k 0 nothing in'
      ∙ ap given (get_or-range_with_len 0 (length es) k 0 below ∙ zero-add k)

pub put_all : (old : List Entity) (clusters : List Cluster) (n : ℕ) (new : List Entity) → length clusters ≡ length old → length old ≤ n →
    HasPut old clusters n new → new ≡ with_clusters old clusters
unfolding at
put_all old clusters n new sized past h =
    ext_get_or nothing new (with_clusters old clusters) (h.sized ∙ sym (length-with old clusters))
    (λ k below. h.put k (omega (arith, h.sized)) ∙ sym (get-with old clusters k (omega (arith, h.sized))))

-- two lists whose elements pass alike have the first that passes at one index
alike : {X : Type 0} (p : X → Bool) (d : X) (xs ys : List X) → length xs ≡ length ys → ((k : ℕ) → k < length xs → p (get_or xs k d) ≡ p (get_or ys k d)) →
    position_or_len p xs ≡ position_or_len p ys
alike p d [] [] e same = refl
alike p d [] (y ∷ ys) e same = absurd (omega arith)
alike p d (x ∷ xs) [] e same = absurd (omega arith)
alike p d (x ∷ xs) (y ∷ ys) e same =
    ap (λ (t : Bool). cond (not t) (1 + position_or_len p xs) 0) (same 0 (omega arith))
    ∙ ap (λ (n : ℕ). cond (not (p y)) (1 + n) 0) (alike p d xs ys (omega arith) (λ k b. same (suc k) (omega arith)))

pub first_index_of-with : (es : List Entity) (clusters : List Cluster) (id : ℕ) → first_index_of es id ≡ first_index_of (with_clusters es clusters) id
unfolding first_index_of at
first_index_of-with es clusters id =
    let p : Entity → Bool = λ e. e.id == id in
    let size = length-with es clusters in
    let index : position_or_len p es ≡ position_or_len p (with_clusters es clusters) =
    alike p nothing es (with_clusters es clusters) (sym size) (λ k b. ap p (sym (get-with' k b))) in
    ap (λ (n : ℕ). cond (ltb n (length es)) (Some n) None) index
    ∙ ap (λ (m : ℕ). cond (ltb (position_or_len p (with_clusters es clusters)) m) (Some (position_or_len p (with_clusters es clusters))) None) (sym size)
  where
    get-with' : (k : ℕ) → k < length es → get_or (with_clusters es clusters) k nothing ≡ with_cluster (get_or es k nothing) (get_or clusters k no_cluster)
    get-with' k b = get-with es clusters k b

pub table-with : {S : Type 0} (es : List Entity) (clusters : List Cluster) (indices : HashMap ℕ ℕ S) (es' : List Entity) → es' ≡ with_clusters es clusters →
    IsTable es indices → IsTable es' indices
table-with es clusters indices es' e h id = h id ∙ first_index_of-with es clusters id ∙ ap (λ (xs : List Entity). first_index_of xs id) (sym e)

-- the clusters found along the links are those that each entity puts out
pub clustered_is : (es : List Entity) (clusters : List Cluster) → AreClusters es clusters → with_clusters es clusters ≡ with_own_clusters es
unfolding with_clusters with_own_clusters
clustered_is es clusters h =
    map_same _ _ (range_with_len 0 (length es)) (λ i b.
    let in' : i < length es = omega (arith, length-range_with_len 0 (length es)) in
    let here : get_or (range_with_len 0 (length es)) i 0 ≡ i = get_or-range_with_len 0 (length es) i 0 in' ∙ zero-add i in
    subst (λ (k : ℕ). with_cluster (at es k) (get_or clusters k no_cluster) ≡ with_cluster (at es k) (cluster_of es k)) (sym here)
    (ap (with_cluster (at es i)) (h.found i in')))
