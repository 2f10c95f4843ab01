-- The units that a domain needs are as many as the units in its order: both lists have each of them once.
use Rattle.std.proofs.Common.{◌≡◌, ◌∙◌, sym, ap, subst, refl, arith, ℕ, zero, suc, ◌==◌, ◌+◌, ◌<◌, ◌≤◌, Bool, true, false, ◌&&◌, ◌||◌, eqb, cond, if◌then◌else◌, List, [], ◌∷◌, length, get_or, map, drop, inl, inr}
use Rattle.std.specs.Prelude.{filter}
use Rattle.std.specs.List.{All, AllByRecursion, IsDistinct, list_any}
use Rattle.std.proofs.Math.Bool.{or-true}
use Rattle.std.proofs.lemmas.Bool.{cases_Bool, eq-eqb, eqb-true, ne_eqb}
use Rattle.std.proofs.lemmas.Cmp.{nat_eq_equiv}
use Rattle.std.proofs.lemmas.List.{drop_all, drop_more, get_or-map, length-map}
use Rattle.std.proofs.lemmas.List.Folds.{list_any_at}
use Rattle.std.proofs.lemmas.List.Sums.{count_by-le-length, length-filter}
use Rattle.std.proofs.lemmas.Map.Keys.{IsDistinct-cons, IsDistinct-from_apart, IsDistinct-head, IsDistinct-tail}
use Rattle.std.proofs.lemmas.Map.Made.{length-from_same_keys}
use Rattle.std.proofs.lemmas.Map.Views.{any-filter_same}
use Rattle.uac_topology_rules.specs.Walk.{has_walk}
use Rattle.uac_entities.specs.declared.entity.Entity.{Entity}
use Rattle.uac_entities.specs.declared.entity.EntityKind.{EntityKind}
use Rattle.uac_entities.specs.declared.entity.EntityKind.TheVariants as kind
use Rattle.uac_topology_rules.specs.Links.{is_clock, signal_links, signal_sources}
use Rattle.uac_topology_rules.specs.Table.{at, nothing, index_of}
use Rattle.uac_topology_rules.proofs.ListFindLemmas.{any_at}
use Rattle.uac_graph.specs.Fitness.{IsSignalGraph}
use Rattle.uac_graph.specs.Meaning.{entity}
use Rattle.uac_graph.specs.Needs.{depends_on, is_unit, needed_units, reaches, unit_count}
use Rattle.uac_graph.specs.Orders.{IsOrderOf}
use Rattle.uac_graph.proofs.LinksLemmas.{source_ends}
use Rattle.uac_graph.proofs.WiringLemmas.{id_at}
use Rattle.uac_graph.proofs.MeaningReachLemmas.{links_some}
use Rattle.uac_graph.proofs.WiringTerminalLemmas.{entity_itself}
use Rattle.uac_graph.proofs.WiringWireLemmas.{signal_below}

-- ---- lists of numbers, each once

all_kept : (P : ℕ → Type 0) (p : ℕ → Bool) (ns : List ℕ) → AllByRecursion P ns → AllByRecursion P (filter p ns)
all_kept P p [] all = tt
all_kept P p (n ∷ ns) all =
    elim (cases_Bool (p n)) [ inl passes ↦ rw passes ((all.0, all_kept P p ns all.1)) | inr fails ↦ rw fails (all_kept P p ns all.1) ]

distinct_kept : (p : ℕ → Bool) (ns : List ℕ) → IsDistinct eqb ns → IsDistinct eqb (filter p ns)
distinct_kept p [] once = once
distinct_kept p (n ∷ ns) once =
    let rest = distinct_kept p ns (IsDistinct-tail eqb n ns once) in
    elim (cases_Bool (p n)) [
      | inl passes ↦ rw passes (IsDistinct-cons eqb n (filter p ns) (all_kept (λ m. eqb n m ≡ false) p ns (IsDistinct-head eqb n ns once)) rest)
      | inr fails ↦ rw fails rest
    ]

-- numbers of things that differ
distinct_by : {X : Type 0} (f : X → ℕ) (xs : List X) (d : X) → ((i j : ℕ) → i < j → j < length xs → f (get_or xs i d) ≡ f (get_or xs j d) → ⊥)
    → IsDistinct eqb (map f xs)
distinct_by f xs d apart =
    IsDistinct-from_apart eqb (map f xs) (λ i j e before within.
    let below : j < length xs = omega (arith, within, length-map xs f) in
    let early : i < length xs = omega (arith, before, below) in
    ne_eqb (get_or (map f xs) i e) (get_or (map f xs) j e)
    (λ same. apart i j before below (sym (get_or-map f xs i d e early) ∙ same ∙ get_or-map f xs j d e below)))

-- what passes by its number
filter_mapped : {X : Type 0} (t : ℕ → Bool) (f : X → ℕ) (u : X → Bool) (xs : List X) → AllByRecursion (λ x. t (f x) ≡ u x) xs
    → filter t (map f xs) ≡ map f (filter u xs)
filter_mapped t f u [] same = refl
filter_mapped t f u (x ∷ xs) same =
    ap (λ (b : Bool). cond b (f x ∷ filter t (map f xs)) (filter t (map f xs))) same.0
    ∙ by_test (u x) (filter_mapped t f u xs same.1)
  where
    by_test : (b : Bool) → filter t (map f xs) ≡ map f (filter u xs)
        → cond b (f x ∷ filter t (map f xs)) (filter t (map f xs)) ≡ map f (cond b (x ∷ filter u xs) (filter u xs))
    by_test true rest = ap (λ ns. f x ∷ ns) rest
    by_test false rest = rest

any_map : {X : Type 0} (p : ℕ → Bool) (f : X → ℕ) (xs : List X) → list_any p (map f xs) ≡ list_any (λ x. p (f x)) xs
any_map p f [] = refl
any_map p f (x ∷ xs) = ap (λ (b : Bool). p (f x) || b) (any_map p f xs)

-- a number is among those that pass
any_kept : (t : ℕ → Bool) (q : ℕ) (ns : List ℕ) → list_any (eqb q) (filter t ns) ≡ (t q && list_any (eqb q) ns)
any_kept t q ns = any-filter_same (eqb q) t (t q) (λ n same. ap t (sym (eqb-true q n same))) ns

-- ---- the units of an order

-- how many units stand in the order from an index on
abbrev pub units_left : List Entity → List ℕ → ℕ → ℕ
units_left entities indices from = length (filter (λ index. is_unit (at entities index).kind) (drop from indices))

more : {X : Type 0} (u : X → Bool) (x : X) (xs : List X) → length (filter u (x ∷ xs)) ≡ (if u x then 1 else 0) + length (filter u xs)
more u x xs = by_test (u x)
  where
    by_test : (b : Bool) → length (cond b (x ∷ filter u xs) (filter u xs)) ≡ (if b then 1 else 0) + length (filter u xs)
    by_test true = omega arith
    by_test false = omega arith

-- the next of them, and those after it
pub units_next : (entities : List Entity) (indices : List ℕ) (i : ℕ) → i < length indices
    → units_left entities indices i ≡ unit_count (at entities (get_or indices i 0)).kind + units_left entities indices (i + 1)
units_next entities indices i below =
    let u : ℕ → Bool = λ index. is_unit (at entities index).kind in
    ap (λ (ps : List ℕ). length (filter u ps)) (drop_more indices i 0 below) ∙ more u (get_or indices i 0) (drop (i + 1) indices)

-- ---- the ids of the needed units

-- a unit is no clock
unit_signal : (k : EntityKind) → is_unit k ≡ true → is_clock k ≡ false
unit_signal kind.Mixer e = refl
unit_signal kind.Selector e = refl
unit_signal kind.Feature e = refl
unit_signal kind.Effect e = refl
unit_signal _ e = absurd (cc)

module _ (entities : List Entity) (domain : ℕ) (sound : IsSignalGraph entities) where
  abbrev unit_named : ℕ → Bool
  unit_named id = is_unit (entity entities id).kind

  abbrev needed_named : ℕ → Bool
  needed_named id = unit_named id && depends_on entities domain id

  abbrev ids : List ℕ
  ids = map (λ (e : Entity). e.id) entities

  ids_once : IsDistinct eqb ids
  unfolding at
  ids_once =
      distinct_by (λ (e : Entity). e.id) entities nothing (λ i j before below same.
      let one = sym (sound.distinct i (omega (arith, before, below))) ∙ ap (index_of entities) same ∙ sound.distinct j below in
      absurd (omega (arith, one, before)))

  -- a unit's id is an entity's
  unit_there : (id : ℕ) → unit_named id ≡ true → list_any (eqb id) ids ≡ true
  unfolding at
  unit_there id unit =
      let below = signal_below entities id (unit_signal (entity entities id).kind unit) in
      any_map (eqb id) (λ (e : Entity). e.id) entities
      ∙ list_any_at (λ (e : Entity). eqb id e.id) entities (index_of entities id) nothing below
      (eq-eqb id (at entities (index_of entities id)).id (sym (id_at entities id below)))

  each_entity : (xs : List Entity) → ((k : ℕ) → k < length xs → entity entities (get_or xs k nothing).id ≡ get_or xs k nothing)
      → AllByRecursion (λ (e : Entity). needed_named e.id ≡ (is_unit e.kind && depends_on entities domain e.id)) xs
  each_entity [] itself = tt
  each_entity (e ∷ xs) itself = (
    ap (λ (f : Entity). is_unit f.kind && depends_on entities domain e.id) (itself 0 (omega arith)),
    each_entity xs (λ k below. itself (suc k) (omega arith)),
  )

  needed_ids : filter needed_named ids ≡ needed_units entities domain
  unfolding needed_units at
  needed_ids =
      filter_mapped needed_named (λ (e : Entity). e.id) (λ e. is_unit e.kind && depends_on entities domain e.id) entities
      (each_entity entities (λ k below. entity_itself entities k sound below))

  any_needed : (id : ℕ) → list_any (eqb id) (filter needed_named ids) ≡ needed_named id
  any_needed id = any_kept needed_named id ids ∙ by_unit (unit_named id) (depends_on entities domain id) (list_any (eqb id) ids) (unit_there id)
    where
      by_unit : (a b c : Bool) → (a ≡ true → c ≡ true) → ((a && b) && c) ≡ (a && b)
      by_unit false b c there = refl
      by_unit true false c there = refl
      by_unit true true c there = there refl

  -- the needed units are those on which the domain depends
  needed_members : (id : ℕ) → list_any (λ n. n == id) (needed_units entities domain) ≡ needed_named id
  needed_members id =
      (λ j. list_any (λ n. nat_eq_equiv.symm n id j) (needed_units entities domain))
      ∙ ap (list_any (eqb id)) (sym needed_ids) ∙ any_needed id

  needed_once : IsDistinct eqb (needed_units entities domain)
  needed_once = subst (IsDistinct eqb) needed_ids (distinct_kept needed_named ids ids_once)

pub needed_are : (entities : List Entity) (domain id : ℕ) → IsSignalGraph entities
    → list_any (λ n. n == id) (needed_units entities domain) ≡ (is_unit (entity entities id).kind && depends_on entities domain id)
needed_are entities domain id sound = needed_members entities domain sound id

pub needed_apart : (entities : List Entity) (domain : ℕ) → IsSignalGraph entities → IsDistinct eqb (needed_units entities domain)
needed_apart entities domain sound = needed_once entities domain sound

-- ---- the same along the domain's order

module _ (entities : List Entity) (domain : ℕ) (indices : List ℕ) (sound : IsSignalGraph entities) (order : IsOrderOf entities domain indices) where
  abbrev id_of : ℕ → ℕ
  id_of index = (at entities index).id

  abbrev unit_id : ℕ → Bool
  unit_id id = is_unit (entity entities id).kind

  abbrev ordered : List ℕ
  ordered = map id_of indices

  ordered_once : IsDistinct eqb ordered
  ordered_once =
      distinct_by id_of indices 0 (λ i j before below same.
      order.order.apart i j before below
      (sym (sound.distinct (get_or indices i 0) (order.order.inside i 0 (omega (arith, before, below))))
      ∙ ap (index_of entities) same ∙ sound.distinct (get_or indices j 0) (order.order.inside j 0 below)))

  -- an id is in the order exactly where the domain depends on it
  ordered_depended : (id : ℕ) → list_any (eqb id) ordered ≡ depends_on entities domain id
  ordered_depended id =
      any_map (eqb id) id_of indices
      ∙ (λ j. list_any (λ index. nat_eq_equiv.symm id (id_of index) j) indices)
      ∙ order.all id

  same_units : (id : ℕ) → list_any (eqb id) (filter unit_id ordered) ≡ list_any (eqb id) (needed_units entities domain)
  same_units id =
      any_kept unit_id id ordered ∙ ap (λ (b : Bool). unit_id id && b) (ordered_depended id)
      ∙ sym (any_needed entities domain sound id) ∙ ap (list_any (eqb id)) (needed_ids entities domain sound)

  each_index : (xs : List ℕ) → All (λ index. index < length entities) xs
      → AllByRecursion (λ index. unit_id (id_of index) ≡ is_unit (at entities index).kind) xs
  each_index [] inside = tt
  each_index (index ∷ xs) inside = (
    ap (λ (e : Entity). is_unit e.kind) (entity_itself entities index sound (inside 0 0 (omega arith))),
    each_index xs (λ k d below. inside (suc k) d (omega arith)),
  )

  -- the units in a domain's order are as many as the domain needs
  needed_count : units_left entities indices 0 ≡ length (needed_units entities domain)
  needed_count =
      let u : ℕ → Bool = λ index. is_unit (at entities index).kind in
      sym (length-map (filter u indices) id_of)
      ∙ ap length (sym (filter_mapped unit_id id_of u indices (each_index indices order.order.inside)))
      ∙ length-from_same_keys nat_eq_equiv (filter unit_id ordered) (needed_units entities domain) (distinct_kept unit_id ordered ordered_once)
      (needed_once entities domain sound) same_units

-- how many units the order has
pub all_units : (entities : List Entity) (domain : ℕ) (indices : List ℕ) → IsSignalGraph entities → IsOrderOf entities domain indices
    → units_left entities indices 0 ≡ length (needed_units entities domain)
all_units entities domain indices sound order = needed_count entities domain indices sound order

-- none is left past its end
pub units_end : (entities : List Entity) (indices : List ℕ) (i : ℕ) → length indices ≤ i → units_left entities indices i ≡ 0
units_end entities indices i past = ap (λ (ps : List ℕ). length (filter (λ index. is_unit (at entities index).kind) ps)) (drop_all i indices past)

-- a domain needs no more units than there are entities
pub needed_few : (entities : List Entity) (domain : ℕ) → length (needed_units entities domain) ≤ length entities
unfolding needed_units
needed_few entities domain =
    let n : Entity → Bool = λ e. is_unit e.kind && depends_on entities domain e.id in
    omega (arith, length-map (filter n entities) (λ (e : Entity). e.id), length-filter n entities, count_by-le-length n entities)

-- ---- walks of any number of links

-- a source is no clock
source_loud : (entities : List Entity) (id k : ℕ) → IsSignalGraph entities → is_clock (entity entities id).kind ≡ false
    → k < length (signal_sources (entity entities id)) → is_clock (entity entities (get_or (signal_sources (entity entities id)) k 0)).kind ≡ false
unfolding entity
source_loud entities id k sound signal below = sound.heard (index_of entities id) (signal_below entities id signal) k 0 below

-- where no walk of so many links leads on, none reaches further
reached_within : (entities : List Entity) (m n id other : ℕ) → IsSignalGraph entities → is_clock (entity entities id).kind ≡ false
    → has_walk (signal_links entities) m (index_of entities id) ≡ false → reaches entities n id other ≡ true → reaches entities m id other ≡ true
unfolding reaches
reached_within entities zero n id other sound signal ends reached = absurd (let none = links_some (signal_links entities) 0 (index_of entities id) ends in omega arith)
reached_within entities (suc m) zero id other sound signal ends reached =
    ap (λ (b : Bool). b || list_any (λ s. reaches entities m s other) (signal_sources (entity entities id))) reached
reached_within entities (suc m) (suc n) id other sound signal ends reached =
    elim (cases_Bool (eqb id other)) [
      | inl same ↦ ap (λ (b : Bool). b || list_any (λ s. reaches entities m s other) (signal_sources (entity entities id))) same
      | inr differs ↦
          (let sources = signal_sources (entity entities id) in
          let later : list_any (λ s. reaches entities n s other) sources ≡ true =
          ap (λ (b : Bool). b || list_any (λ s. reaches entities n s other) sources) (sym differs) ∙ reached in
          let found = any_at (λ s. reaches entities n s other) sources later in
          let source = get_or sources found.0 0 in
          let heard : is_clock (entity entities source).kind ≡ false = source_loud entities id found.0 sound signal found.1 in
          let on = reached_within entities m n source other sound heard (source_ends entities m id found.0 ends found.1) found.2 in
          ap (λ (b : Bool). eqb id other || b) (list_any_at (λ s. reaches entities m s other) sources found.0 0 found.1 on) ∙ or-true (eqb id other))
    ]

-- a walk of any number of links is found among those of at most as many as there are entities
pub reached_by_any : (entities : List Entity) (n id other : ℕ) → IsSignalGraph entities → is_clock (entity entities id).kind ≡ false
    → reaches entities n id other ≡ true → reaches entities (length entities) id other ≡ true
reached_by_any entities n id other sound signal =
    reached_within entities (length entities) n id other sound signal (sound.acyclic (index_of entities id) (signal_below entities id signal))

-- an id of those that pass is one of which the test holds
of_passing : (test : ℕ → Bool) (kind : Entity → Bool) (id : ℕ) (entities : List Entity)
    → list_any (λ n. n == id) (map (λ e. e.id) (filter (λ e. kind e && test e.id) entities)) ≡ true → test id ≡ true
of_passing test kind id [] e = absurd (cc)
of_passing test kind id (x ∷ xs) e = step (kind x) (test x.id) refl e (of_passing test kind id xs)
  where
    named : (t : Bool) → (x.id == id) ≡ t → test x.id ≡ true → (t || list_any (λ n. n == id) (map (λ e. e.id) (filter (λ e. kind e && test e.id) xs))) ≡ true
        → (list_any (λ n. n == id) (map (λ e. e.id) (filter (λ e. kind e && test e.id) xs)) ≡ true → test id ≡ true) → test id ≡ true
    named true same holds e more = subst (λ (n : ℕ). test n ≡ true) (eqb-true x.id id same) holds
    named false same holds e more = more e

    step : (a b : Bool) → test x.id ≡ b
        → list_any (λ n. n == id) (map (λ e. e.id) (cond (a && b) (x ∷ filter (λ e. kind e && test e.id) xs) (filter (λ e. kind e && test e.id) xs))) ≡ true
        → (list_any (λ n. n == id) (map (λ e. e.id) (filter (λ e. kind e && test e.id) xs)) ≡ true → test id ≡ true) → test id ≡ true
    step true true holds e more = named (x.id == id) refl holds e more
    step true false fails e more = more e
    step false b q e more = more e

pub needed_depended : (entities : List Entity) (domain id : ℕ) → list_any (λ n. n == id) (needed_units entities domain) ≡ true → depends_on entities domain id ≡ true
unfolding needed_units
needed_depended entities domain id e = of_passing (depends_on entities domain) (λ x. is_unit x.kind) id entities e
