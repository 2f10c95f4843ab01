-- More links change nothing where no walk is that long.
use Rattle.std.proofs.Common.{◌≡◌, ◌<◌, ◌+◌, sym, ℕ, false, cond, List, [], ◌∷◌, ◌++◌, zero, suc, length, get_or, refl, ap, ◌∙◌, arith}
use Rattle.std.specs.Prelude.{slice_get}
use Rattle.std.specs.List.{flat_map}
use Rattle.std.specs.Option.{option_map_or}
use Rattle.std.proofs.Common.{zero-add}
use Rattle.std.proofs.Math.Nat.{suc-add}
use Rattle.uac_topology_rules.proofs.WalkLemmas.{no_longer, none_at}
use Rattle.uac_topology_rules.specs.Walk.{links, has_walk}
use Rattle.uac_entities.specs.Entities.{no_cluster}
use Rattle.uac_entities.specs.declared.entity.Cluster.{Cluster}
use Rattle.uac_entities.specs.declared.entity.Entity.{Entity}
use Rattle.uac_topology_rules.specs.Table.{at}
use Rattle.uac_topology_rules.specs.Links.{signal_links}
use Rattle.uac_topology_rules.specs.Clusters.{takes_over, is_input, cluster_step, cluster_within, cluster_of, clocks_step, clocks_within, clocks_of, MoreLinksChangeNothing}

-- where no walk of n + 1 links leads on, none of n leads on from a source
shorter : (g : List (List ℕ)) (n k i : ℕ) → has_walk g (suc n) k ≡ false → i < length (links g k) → has_walk g n (get_or (links g k) i 0) ≡ false
unfolding has_walk
shorter g n k i e below = none_at (has_walk g n) (links g k) i 0 below e

-- a step looks at the sources alone
pub cluster_same : (es : List Entity) (f g : ℕ → Cluster) (k : ℕ) →
    ((i : ℕ) → i < length (links (signal_links es) k) → f (get_or (links (signal_links es) k) i 0) ≡ g (get_or (links (signal_links es) k) i 0)) →
    cluster_step es f k ≡ cluster_step es g k
unfolding cluster_step
cluster_same es f g k same =
    ap (λ (c : Cluster). cond (takes_over (at es k).kind) c (at es k).cluster) (first (links (signal_links es) k) same)
  where
    first : (xs : List ℕ) → ((i : ℕ) → i < length xs → f (get_or xs i 0) ≡ g (get_or xs i 0)) →
        option_map_or f (slice_get xs 0) no_cluster ≡ option_map_or g (slice_get xs 0) no_cluster
    first [] h = refl
    first (x ∷ xs) h = h 0 (omega arith)

pub clocks_same : (es : List Entity) (f g : ℕ → List ℕ) (k : ℕ) →
    ((i : ℕ) → i < length (links (signal_links es) k) → f (get_or (links (signal_links es) k) i 0) ≡ g (get_or (links (signal_links es) k) i 0)) →
    clocks_step es f k ≡ clocks_step es g k
unfolding clocks_step
clocks_same es f g k same =
    ap (λ (c : List ℕ). cond (is_input (at es k).kind) ((at es k).clock ∷ []) c) (each (links (signal_links es) k) same)
  where
    each : (xs : List ℕ) → ((i : ℕ) → i < length xs → f (get_or xs i 0) ≡ g (get_or xs i 0)) → flat_map f xs ≡ flat_map g xs
    each [] h = refl
    each (x ∷ xs) h = ap (λ (ys : List ℕ). ys ++ flat_map f xs) (h 0 (omega arith)) ∙ ap (λ (ys : List ℕ). g x ++ ys) (each xs (λ i b. h (suc i) (omega arith)))

cluster_more : (es : List Entity) (n k : ℕ) → has_walk (signal_links es) n k ≡ false → cluster_within n es k ≡ cluster_within (suc n) es k
unfolding cluster_within has_walk
cluster_more es zero k e = absurd (cc)
cluster_more es (suc n) k e =
    cluster_same es (cluster_within n es) (cluster_within (suc n) es) k (λ i b. cluster_more es n _ (shorter (signal_links es) n k i e b))

clocks_more : (es : List Entity) (n k : ℕ) → has_walk (signal_links es) n k ≡ false → clocks_within n es k ≡ clocks_within (suc n) es k
unfolding clocks_within has_walk
clocks_more es zero k e = absurd (cc)
clocks_more es (suc n) k e =
    clocks_same es (clocks_within n es) (clocks_within (suc n) es) k (λ i b. clocks_more es n _ (shorter (signal_links es) n k i e b))

-- so each cluster is the step from those of the sources
pub cluster_is : (es : List Entity) (k : ℕ) → has_walk (signal_links es) (length es) k ≡ false → cluster_of es k ≡ cluster_step es (cluster_of es) k
unfolding cluster_of cluster_within
cluster_is es k e = cluster_more es (length es) k e

pub clocks_are : (es : List Entity) (k : ℕ) → has_walk (signal_links es) (length es) k ≡ false → clocks_of es k ≡ clocks_step es (clocks_of es) k
unfolding clocks_of clocks_within
clocks_are es k e = clocks_more es (length es) k e

pub more_links : MoreLinksChangeNothing
more_links es n k e zero = rw (zero-add n) (refl, refl)
more_links es n k e (suc more) =
    let r = more_links es n k e more in
    let none = no_longer (signal_links es) more n k e in
    rw (suc-add more n)
    (sym (cluster_more es (more + n) k none) ∙ r.0, sym (clocks_more es (more + n) k none) ∙ r.1)
