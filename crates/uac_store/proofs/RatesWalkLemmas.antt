-- More steps change no rate where no walk of clock source links is that long.
use Rattle.std.proofs.Common.{◌≡◌, ℕ, ◌+◌, ◌-◌, ◌<◌, ◌≤◌, zero, suc, not, ◌==◌, nat_lt, ℤ, pos, negsuc, List, [], ◌∷◌, map, length, Option, None, Some, slice_get, slice_index_or, Bool, true, false, if◌then◌else◌, refl, ap, sym, ◌∙◌, arith, ◌⊎◌, inl, inr}
use Rattle.std.specs.Option.{option_and_then, option_map}
use Rattle.std.specs.List.{list_any}
use Rattle.std.proofs.lemmas.Bool.{true≢false, cases_lt}
use Rattle.std.proofs.lemmas.List.{get_or_past, length-map}
use Rattle.std.proofs.lemmas.Option.{get_or_from_slice_get, slice_get-map, slice_get_within}
use Rattle.uac_topology_rules.specs.Walk.{links, has_walk}
use Rattle.uac_topology_rules.proofs.WalkLemmas.{none_at}
use Rattle.uac_entities.specs.EntityInterfaces.{entity_by_id}
use Rattle.uac_entities.specs.declared.entity.Entity.{Entity}
use Rattle.uac_entities.specs.declared.entity.EntityKind.{EntityKind}
use Rattle.uac_entities.specs.declared.entity.EntityKind.TheVariants as kind
use Rattle.uac_topology_rules.specs.Table.{index_of}
use Rattle.uac_topology_rules.specs.Links.{clock_sources, clock_links, is_clock}
use Rattle.uac_store.specs.declared.keys.Key.{Key}
use Rattle.uac_store.specs.Rates.{value_at, source_on_pin, chosen_source, multiplier_rate, rate_by, rate_step, rate_within, rate_of, EndsWithin, IsClockTree}

-- the links of the first entity with an id are those of its index
links_at_index : (f : Entity → List ℕ) (xs : List Entity) (id : ℕ) (e : Entity) → entity_by_id xs id ≡ Some e → slice_index_or (map f xs) (index_of xs id) [] ≡ f e
unfolding entity_by_id index_of
links_at_index f [] id e is = cc
links_at_index f (x ∷ xs) id e is = from (x.id == id) is (λ h. links_at_index f xs id e h) where
  from : (b : Bool) → (if b then Some x else entity_by_id xs id) ≡ Some e → (entity_by_id xs id ≡ Some e → slice_index_or (map f xs) (index_of xs id) [] ≡ f e)
      → slice_index_or (f x ∷ map f xs) (if not b then 1 + index_of xs id else 0) [] ≡ f e
  from true here rest = let i : x ≡ e = cc in ap f i
  from false other rest =
      let next : 1 + index_of xs id ≡ suc (index_of xs id) = omega arith in
      ap (λ m. slice_index_or (f x ∷ map f xs) m []) next ∙ rest other

-- what no element passes, none of them does
pub none_passes : {X : Type 0} (p : X → Bool) (xs : List X) (i : ℕ) (s : X) → list_any p xs ≡ false → slice_get xs i ≡ Some s → p s ≡ false
none_passes p xs i s none is = ap p (sym (get_or_from_slice_get xs i s s is)) ∙ none_at p xs i s (slice_get_within xs i s is) none

-- from a source of a clock entity the walks are shorter
sources_end : (all : List Entity) (id n : ℕ) (e : Entity) (i s : ℕ) → entity_by_id all id ≡ Some e → is_clock e.kind ≡ true
    → EndsWithin (suc n) all id → slice_get e.sources i ≡ Some s → EndsWithin n all s
unfolding has_walk clock_sources
sources_end all id n e i s is clock ends at =
    let graph = clock_links all in
    let named_links : links graph (index_of all id) ≡ map (index_of all) e.sources =
    links_at_index (λ x. map (index_of all) (clock_sources x)) all id e is
    ∙ ap (λ (b : Bool). map (index_of all) (if b then e.sources else [])) clock in
    none_passes (has_walk graph n) (map (index_of all) e.sources) i (index_of all s)
    (ap (list_any (has_walk graph n)) (sym named_links) ∙ ends) (slice_get-map (index_of all) e.sources i ∙ ap (option_map (index_of all)) at)

-- the source that is chosen is one of the sources
chosen_is_source : (controls : List (Key × ℤ)) (e : Entity) (s : ℕ) → chosen_source controls e ≡ Some s → (i : ℕ) × (slice_get e.sources i ≡ Some s)
unfolding chosen_source
chosen_is_source controls e s is = from (value_at controls e.id 1) is where
  pin : (n : ℕ) (b : Bool) → (if b then slice_get e.sources (n - 1) else None) ≡ Some s → (i : ℕ) × (slice_get e.sources i ≡ Some s)
  pin n true is = (n - 1, is)
  pin n false is = cc

  from : (o : Option ℤ) → option_and_then (source_on_pin e.sources) o ≡ Some s → (i : ℕ) × (slice_get e.sources i ≡ Some s)
  from None is = cc
  from (Some (pos n)) is = pin n (nat_lt 0 n) is
  from (Some (negsuc n)) is = cc

-- rates that agree at the sources agree at an entity
module _ (controls : List (Key × ℤ)) (f g : ℕ → Option ℕ) (e : Entity) (agree : (i s : ℕ) → is_clock e.kind ≡ true → slice_get e.sources i ≡ Some s → f s ≡ g s) where
  agree_at : (k : EntityKind) → e.kind ≡ k → rate_by controls f e k ≡ rate_by controls g e k
  agree_at kind.ClockSource is = refl
  agree_at kind.ClockSelector is = from (chosen_source controls e) refl where
    from : (o : Option ℕ) → chosen_source controls e ≡ o → option_and_then f o ≡ option_and_then g o
    from None at = refl
    from (Some s) at = let there = chosen_is_source controls e s at in agree there.0 s (ap is_clock is) there.1
  agree_at kind.ClockMultiplier is = ap (option_and_then (multiplier_rate controls e.id)) (from (slice_get e.sources 0) refl) where
    from : (o : Option ℕ) → slice_get e.sources 0 ≡ o → option_and_then f o ≡ option_and_then g o
    from None at = refl
    from (Some s) at = agree 0 s (ap is_clock is) at
  agree_at kind.InputTerminal is = refl
  agree_at kind.OutputTerminal is = refl
  agree_at kind.Mixer is = refl
  agree_at kind.Selector is = refl
  agree_at kind.Feature is = refl
  agree_at kind.Effect is = refl

step_agrees : (all : List Entity) (controls : List (Key × ℤ)) (f g : ℕ → Option ℕ) (id : ℕ)
    → ((e : Entity) (i s : ℕ) → entity_by_id all id ≡ Some e → is_clock e.kind ≡ true → slice_get e.sources i ≡ Some s → f s ≡ g s)
    → rate_step all controls f id ≡ rate_step all controls g id
unfolding rate_step
step_agrees all controls f g id agree = from (entity_by_id all id) refl where
  from : (o : Option Entity) → entity_by_id all id ≡ o → option_and_then (λ e. rate_by controls f e e.kind) o ≡ option_and_then (λ e. rate_by controls g e e.kind) o
  from None is = refl
  from (Some e) is = agree_at controls f g e (λ i s. agree e i s is) e.kind refl

pub settles : (all : List Entity) (controls : List (Key × ℤ)) (id n more : ℕ) → EndsWithin n all id → rate_within (n + more) all controls id ≡ rate_within n all controls id
unfolding rate_within has_walk
settles all controls id zero more ends = absurd (true≢false ends)
settles all controls id (suc n) more ends =
    let e : suc n + more ≡ suc (n + more) = omega arith in
    ap (λ m. rate_within m all controls id) e
    ∙ step_agrees all controls (rate_within (n + more) all controls) (rate_within n all controls) id
    (λ e i s is clock at. settles all controls s n more (sources_end all id n e i s is clock ends at))

-- an entity that is not there has no walk
ends_at_once : (all : List Entity) (m index : ℕ) → length all ≤ index → has_walk (clock_links all) (suc m) index ≡ false
unfolding has_walk
ends_at_once all m index past =
    ap (list_any (has_walk (clock_links all) m)) (get_or_past (clock_links all) index [] (omega (arith, past, length-map all (λ e. map (index_of all) (clock_sources e)))))

pub follows : (all : List Entity) (controls : List (Key × ℤ)) (id : ℕ) → IsClockTree all → rate_of all controls id ≡ rate_step all controls (rate_of all controls) id
unfolding rate_of rate_within rate_step entity_by_id
follows [] controls id tree = refl
follows (x ∷ xs) controls id tree =
    sym (settles (x ∷ xs) controls id (length (x ∷ xs)) 1 (ends (cases_lt (index_of (x ∷ xs) id) (length (x ∷ xs)))))
    ∙ (let e : length (x ∷ xs) + 1 ≡ suc (length (x ∷ xs)) = omega arith in ap (λ m. rate_within m (x ∷ xs) controls id) e)
  where
    ends : (index_of (x ∷ xs) id < length (x ∷ xs)) ⊎ (length (x ∷ xs) ≤ index_of (x ∷ xs) id) → EndsWithin (length (x ∷ xs)) (x ∷ xs) id
    ends (inl within) = tree (index_of (x ∷ xs) id) within
    ends (inr past) = ends_at_once (x ∷ xs) (length xs) (index_of (x ∷ xs) id) past
