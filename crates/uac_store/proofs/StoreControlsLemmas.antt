-- The controls at the start are exactly those that the entities have, each with a value that it takes.
use Rattle.std.proofs.Common.{◌≡◌, ℕ, ◌/◌, ◌%◌, ◌==◌, ◌&&◌, ◌≤◌, nat_lt, nat_le, nat_eq, ℤ, pos, negsuc, List, [], ◌∷◌, map, length, Option, None, Some, is_some, if◌then◌else◌, Bool, true, false, refl, ap, sym, subst, ◌∙◌, arith, rules}
use Rattle.std.specs.Option.{option_or, option_and_then, option_map_or}
use Rattle.std.specs.List.{flat_map, AllByRecursion, IsDistinct}
use Rattle.std.proofs.lemmas.Bool.{and_parts, eqb-true, eqb-false, ltb-true, ltb-false, le-leb, leb-true, leb-false}
use Rattle.uac_clock.specs.Nominal.{is_listed}
use Rattle.uac_gain.specs.Gain.{gain_of}
use Rattle.uac_entities.specs.EntityInterfaces.{entity_by_id}
use Rattle.uac_entities.specs.declared.entity.EntityKind.{EntityKind}
use Rattle.uac_entities.specs.declared.entity.EntityKind.TheVariants as kind
use Rattle.uac_entities.specs.declared.entity.Entity.{Entity}
use Rattle.uac_topology_rules.proofs.LinksLemmas.{option_or-none}
use Rattle.uac_topology.specs.FunctionKept.{has_pins, HasPins, HavePins}
use Rattle.uac_store.specs.declared.keys.Key.{Key}
use Rattle.uac_store.specs.Keyed.{value_of}
use Rattle.uac_store.specs.ControlTable.{selectors_of, start_by, takes_by}
use Rattle.uac_store.specs.StoreControls.{start_of, start_at, count_of, pins_of, node_start, channel_within, controls_of, initial_controls, has_on, has_control, takes, takes_on, IsStoreOf}
use Rattle.uac_store.proofs.ControlTableLemmas.{at_each}
use Rattle.uac_store.proofs.StoreControlsIdLemmas.{all_named}
use Rattle.uac_store.proofs.KeyedStartLemmas.{value_of-append, controls_miss_channel, controls_miss_entity, selectors_miss, selectors_have, entities_miss}

-- what one entity gives a key
unfoldable start_on : List Entity → Key → Entity → Option ℤ
start_on all k e = if has_on all k e then Some (start_of all e k.selector k.channel) else None

controls_value : (all : List Entity) (e : Entity) (k : Key) → k.entity ≡ e.id → value_of (controls_of all e) k ≡ start_on all k e
unfolding start_on has_on controls_of
controls_value all e k i = from (nat_lt 0 k.selector) (nat_le k.selector (selectors_of e.kind)) (nat_lt k.channel (count_of all e)) refl refl refl where
  start : Bool → Bool → Bool → Option ℤ
  start low high has = if low && high && has then Some (start_of all e k.selector k.channel) else None

  from : (low high has : Bool) → nat_lt 0 k.selector ≡ low → nat_le k.selector (selectors_of e.kind) ≡ high → nat_lt k.channel (count_of all e) ≡ has
      → value_of (controls_of all e) k ≡ start (nat_lt 0 k.selector) (nat_le k.selector (selectors_of e.kind)) (nat_lt k.channel (count_of all e))
  from true true true l h c =
      let lo = ltb-true 0 k.selector l in
      let hi = leb-true k.selector (selectors_of e.kind) h in
      let few = ltb-true k.channel (count_of all e) c in
      selectors_have all e k 1 (selectors_of e.kind) i (omega (arith, lo)) (omega (arith, hi)) few ∙ sym (λ j. start (l j) (h j) (c j))
  from false high has l h c =
      let zeroth = ltb-false 0 k.selector l in
      selectors_miss all e k 1 (selectors_of e.kind) (λ s lo hi is. omega (arith, zeroth))
      ∙ sym (λ j. start (l j) (nat_le k.selector (selectors_of e.kind)) (nat_lt k.channel (count_of all e)))
  from true false has l h c =
      let past = leb-false k.selector (selectors_of e.kind) h in
      selectors_miss all e k 1 (selectors_of e.kind) (λ s lo hi is. omega (arith, past))
      ∙ sym (λ j. start (l j) (h j) (nat_lt k.channel (count_of all e)))
  from true true false l h c =
      controls_miss_channel all e k (ltb-false k.channel (count_of all e) c) ∙ sym (λ j. start (l j) (h j) (c j))

-- the entities after one of this id have other ids
others_apart : (id : ℕ) (xs : List Entity) → AllByRecursion (λ y. nat_eq id y ≡ false) (map (λ e. e.id) xs) → AllByRecursion (λ e. id ≡ e.id → ⊥) xs
others_apart id [] h = tt
others_apart id (x ∷ xs) h = (eqb-false id x.id h.0, others_apart id xs h.1)

found_among : (all xs : List Entity) (k : Key) → IsDistinct nat_eq (map (λ e. e.id) xs)
    → value_of (flat_map (controls_of all) xs) k ≡ option_and_then (start_on all k) (entity_by_id xs k.entity)
unfolding entity_by_id value_of IsDistinct
found_among all [] k h = refl
found_among all (x ∷ xs) k h = value_of-append (controls_of all x) (flat_map (controls_of all) xs) k ∙ from (x.id == k.entity) refl (found_among all xs k h.1) where
  rest : Option ℤ
  rest = value_of (flat_map (controls_of all) xs) k

  from : (b : Bool) → (x.id == k.entity) ≡ b → rest ≡ option_and_then (start_on all k) (entity_by_id xs k.entity)
      → option_or (value_of (controls_of all x) k) rest ≡ option_and_then (start_on all k) (if b then Some x else entity_by_id xs k.entity)
  from true here others =
      let i : k.entity ≡ x.id = sym (eqb-true x.id k.entity here) in
      let none : rest ≡ None = entities_miss all xs k (subst (λ id. AllByRecursion (λ (e : Entity). id ≡ e.id → ⊥) xs) (sym i) (others_apart x.id xs h.0)) in
      ap (λ o. option_or (value_of (controls_of all x) k) o) none ∙ option_or-none (value_of (controls_of all x) k) ∙ controls_value all x k i
  from false other others =
      ap (λ o. option_or o rest) (controls_miss_entity all x k (λ i. eqb-false x.id k.entity other (sym i))) ∙ others

-- each key finds what its control has at the start
pub initial_value : (all : List Entity) (k : Key) → IsDistinct nat_eq (map (λ e. e.id) all) → value_of (initial_controls all) k ≡ start_at all k
unfolding initial_controls start_at start_on
initial_value all k h = found_among all all k h

-- a key is found exactly where there is a control
found_where_there : (all : List Entity) (k : Key) (o : Option Entity)
    → is_some (option_and_then (start_on all k) o) ≡ option_map_or (has_on all k) o false
unfolding start_on
found_where_there all k None = refl
found_where_there all k (Some e) = from (has_on all k e) where
  from : (b : Bool) → is_some (if b then Some (start_of all e k.selector k.channel) else None) ≡ b
  from true = refl
  from false = refl

-- what an entity's control has at the start is a value that it takes: its first control, its second, and either
start_first : (k : EntityKind) (pins : List ℕ) (outputs sources attributes channel : ℕ) → (has_pins k ≡ true → 1 ≤ sources) → nat_le 1 (selectors_of k) ≡ true
    → takes_by k sources attributes 1 (start_by k 1 (node_start pins outputs channel)) ≡ true
unfolding node_start
start_first kind.ClockSource pins outputs sources attributes channel pin there = from (nat_lt (attributes % 4) 2) where
  from : (b : Bool) → (if b then 48000 == 48000 else is_listed 48000) ≡ true
  from true = refl
  from false = refl
start_first kind.ClockSelector pins outputs sources attributes channel pin there = le-leb 1 sources (pin refl)
start_first kind.ClockMultiplier pins outputs sources attributes channel pin there = refl
start_first kind.InputTerminal pins outputs sources attributes channel pin there = cc
start_first kind.OutputTerminal pins outputs sources attributes channel pin there = cc
start_first kind.Mixer pins outputs sources attributes channel pin there =
    from (channel_within pins (channel / outputs) == channel % outputs) where
      from : (b : Bool) → is_some (gain_of (if b then pos 0 else negsuc 32767)) ≡ true
      from true = refl
      from false = refl
start_first kind.Selector pins outputs sources attributes channel pin there = le-leb 1 sources (pin refl)
start_first kind.Feature pins outputs sources attributes channel pin there = refl
start_first kind.Effect pins outputs sources attributes channel pin there = refl

start_second : (k : EntityKind) (pins : List ℕ) (outputs sources attributes channel : ℕ) → nat_le 2 (selectors_of k) ≡ true
    → takes_by k sources attributes 2 (start_by k 2 (node_start pins outputs channel)) ≡ true
unfolding node_start
start_second kind.ClockSource pins outputs sources attributes channel there = cc
start_second kind.ClockSelector pins outputs sources attributes channel there = cc
start_second kind.ClockMultiplier pins outputs sources attributes channel there = refl
start_second kind.InputTerminal pins outputs sources attributes channel there = cc
start_second kind.OutputTerminal pins outputs sources attributes channel there = cc
start_second kind.Mixer pins outputs sources attributes channel there = cc
start_second kind.Selector pins outputs sources attributes channel there = cc
start_second kind.Feature pins outputs sources attributes channel there = refl
start_second kind.Effect pins outputs sources attributes channel there = cc

start_taken : (k : EntityKind) (pins : List ℕ) (outputs sources attributes selector channel : ℕ) (has : Bool)
    → (has_pins k ≡ true → 1 ≤ sources) → (nat_lt 0 selector && nat_le selector (selectors_of k) && has) ≡ true
    → takes_by k sources attributes selector (start_by k selector (node_start pins outputs channel)) ≡ true
start_taken k pins outputs sources attributes selector channel has pin there =
    let some : nat_lt 0 selector ≡ true = search (rules, there, and_parts) in
    let low : nat_le selector (selectors_of k) ≡ true = search (rules, there, and_parts) in
    at_each k (λ s. takes_by k sources attributes s (start_by k s (node_start pins outputs channel)) ≡ true) selector some low
    (start_first k pins outputs sources attributes channel pin) (start_second k pins outputs sources attributes channel)

-- the controls at the start are those of the entities
pub initial_is_store : (all : List Entity) → IsDistinct nat_eq (map (λ e. e.id) all) → HavePins all → IsStoreOf all (initial_controls all)
unfolding has_control takes start_at start_on has_on takes_on start_of
initial_is_store all distinct have = record {
  keys = λ k. ap is_some (initial_value all k distinct) ∙ found_where_there all k (entity_by_id all k.entity);
  values = λ k v is. from k v (entity_by_id all k.entity) refl (sym (initial_value all k distinct) ∙ is);
} where
  from : (k : Key) (v : ℤ) (o : Option Entity) → entity_by_id all k.entity ≡ o → option_and_then (start_on all k) o ≡ Some v
      → option_map_or (takes_on k.selector v) o false ≡ true
  from k v None is starts = cc
  from k v (Some e) is starts = given (has_on all k e) refl starts where
    given : (b : Bool) → has_on all k e ≡ b → (if b then Some (start_of all e k.selector k.channel) else None) ≡ Some v → takes_on k.selector v e ≡ true
    given true there starts =
        let i : start_of all e k.selector k.channel ≡ v = cc in
        subst (λ w. takes_on k.selector w e ≡ true) i
        (start_taken e.kind (pins_of all e) e.cluster.channels (length e.sources) e.attributes k.selector k.channel (nat_lt k.channel (count_of all e))
        (all_named HasPins all k.entity e have is).0 there)
    given false other starts = cc
