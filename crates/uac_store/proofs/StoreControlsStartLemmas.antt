-- The values at the start, one control after the other.
use Rattle.std.proofs.Common.{◌≡◌, ℕ, ◌+◌, ◌*◌, ◌<◌, ◌≤◌, zero, suc, nat_eq, false, ℤ, List, [], ◌∷◌, ◌++◌, map, length, take, sum, sum_by, get_or, None, ap, sym, subst, ◌∙◌, arith, append-nil, append_assoc, take_all}
use Rattle.std.specs.List.{flat_map, range_with_len, AllByRecursion, IsDistinct}
use Rattle.std.proofs.lemmas.Bool.{eqb-false}
use Rattle.std.proofs.lemmas.List.FromFn.{map-range_with_len_more}
use Rattle.std.proofs.lemmas.List.Sums.{sum-map, sum_by_more_le}
use Rattle.uac_entities.specs.declared.entity.Entity.{Entity}
use Rattle.indexmap.specs.IndexMap.{IndexMap, insert_entry}
use Rattle.indexmap.proofs.CallerLemmas.{insert_entry-new}
use Rattle.uac_store.specs.declared.keys.Key.{Key}
use Rattle.uac_store.specs.Keyed.{key_of, same_key, value_of}
use Rattle.uac_store.specs.ControlTable.{count_by, selectors_of, start_by}
use Rattle.uac_entities.specs.EntityInterfaces.{channels_of}
use Rattle.uac_store.specs.StoreControls.{pins_of, node_start, start_of, count_of, first_channels, channel_controls, controls_of, initial_controls}
use Rattle.uac_store.proofs.KeyedStartLemmas.{none_of_both, channels_miss_channel, selectors_miss, entities_miss}

-- the channels of the next pin are among those of all
pub inputs_within : (all : List Entity) (e : Entity) (items : List ℕ) (i : ℕ) → items ≡ e.sources → i < length items
    → sum (pins_of all e) ≤ 256 → sum_by (channels_of all) (take i items) + channels_of all (get_or items i 0) ≤ 256
unfolding pins_of
inputs_within all e items i same within few =
    let total : sum (map (channels_of all) e.sources) ≡ sum_by (channels_of all) items =
    sum-map (channels_of all) e.sources ∙ ap (sum_by (channels_of all)) (sym same) in
    omega (arith, few, total, sum_by_more_le (channels_of all) items i 0 within)

-- a channel that is counted, by the channels of the pins
pub below_count : (all : List Entity) (e : Entity) (channel : ℕ) (pins : List ℕ) → pins ≡ pins_of all e → channel < count_of all e
    → channel < count_by e.kind (sum pins * e.cluster.channels) e.cluster.channels
unfolding count_of
below_count all e channel pins is_pins below =
    subst (λ ps. channel < count_by e.kind (sum ps * e.cluster.channels) e.cluster.channels) (sym is_pins) below

module _ (all : List Entity) (e : Entity) (before : List (Key × ℤ)) where
  pub no_channels : (s : ℕ) → before ≡ before ++ first_channels all e s 0
  unfolding first_channels
  no_channels s = sym (append-nil before)

  -- one channel more
  pub channel_more : {S : Type 0} (s n : ℕ) (m : IndexMap Key ℤ S) (v : ℤ) (pins : List ℕ)
      → ((c : ℕ) → value_of before (key_of e.id s c) ≡ None) → pins ≡ pins_of all e
      → v ≡ start_by e.kind s (node_start pins e.cluster.channels n)
      → m.entries ≡ before ++ first_channels all e s n
      → insert_entry same_key m.entries (key_of e.id s n) v ≡ before ++ first_channels all e s (n + 1)
  unfolding value_of start_of first_channels
  channel_more s n m v pins absent is_pins is_start now =
      let k : Key = key_of e.id s n in
      let none : value_of m.entries k ≡ None =
      ap (λ es. value_of es k) now ∙ none_of_both before (first_channels all e s n) k (absent n) (channels_miss_channel all e k s n (omega arith)) in
      let value : v ≡ start_of all e s n = is_start ∙ ap (λ ps. start_by e.kind s (node_start ps e.cluster.channels n)) is_pins in
      insert_entry-new same_key m k v none
      ∙ (λ j. now j ++ (k, value j) ∷ [])
      ∙ append_assoc before (first_channels all e s n) ((k, start_of all e s n) ∷ [])
      ∙ ap (λ xs. before ++ xs) (sym (map-range_with_len_more (λ c. (key_of e.id s c, start_of all e s c)) 0 n n (omega arith)))

  pub all_channels : (s n : ℕ) (m : List (Key × ℤ)) → n ≡ count_of all e
      → m ≡ before ++ first_channels all e s n → m ≡ before ++ channel_controls all e s
  unfolding channel_controls
  all_channels s n m is_count now = now ∙ ap (λ c. before ++ first_channels all e s c) is_count

  -- the next selector has no control yet
  pub selector_absent : (below c : ℕ) (m : List (Key × ℤ))
      → ((s c : ℕ) → value_of before (key_of e.id s c) ≡ None)
      → m ≡ before ++ flat_map (channel_controls all e) (range_with_len 1 below)
      → value_of m (key_of e.id (below + 1) c) ≡ None
  selector_absent below c m absent now =
      let k : Key = key_of e.id (below + 1) c in
      ap (λ es. value_of es k) now
      ∙ none_of_both before (flat_map (channel_controls all e) (range_with_len 1 below)) k (absent (below + 1) c)
      (selectors_miss all e k 1 below (λ s lo hi is. omega arith))

  pub all_selectors : (n : ℕ) (m : List (Key × ℤ)) → n ≡ selectors_of e.kind
      → m ≡ before ++ flat_map (channel_controls all e) (range_with_len 1 n) → m ≡ before ++ controls_of all e
  unfolding controls_of
  all_selectors n m is now = now ∙ ap (λ c. before ++ flat_map (channel_controls all e) (range_with_len 1 c)) is

-- an id differs from those of the entities before it
earlier_apart : (es : List Entity) (i : ℕ) (d : Entity) → IsDistinct nat_eq (map (λ e. e.id) es) → i < length es
    → AllByRecursion (λ e. (get_or es i d).id ≡ e.id → ⊥) (take i es)
unfolding IsDistinct
earlier_apart es zero d h l = tt
earlier_apart [] (suc i) d h l = absurd (omega arith)
earlier_apart (x ∷ xs) (suc i) d h l =
    let e : suc i ≡ i + 1 = omega arith in
    (away xs i h.0 (omega arith), earlier_apart xs i d h.1 (omega arith))
  where
    away : (ys : List Entity) (j : ℕ) → AllByRecursion (λ y. nat_eq x.id y ≡ false) (map (λ e. e.id) ys) → j < length ys → (get_or ys j d).id ≡ x.id → ⊥
    away [] j a m s = absurd (omega arith)
    away (y ∷ ys) zero a m s = eqb-false x.id y.id a.0 (sym s)
    away (y ∷ ys) (suc j) a m s = away ys j a.1 (omega arith) s

-- the next entity has no control yet
pub entity_absent : (all items : List Entity) (i : ℕ) (e : Entity) (s c : ℕ) (m : List (Key × ℤ)) → items ≡ all
    → IsDistinct nat_eq (map (λ e. e.id) all) → i < length items → e ≡ get_or items i e → m ≡ flat_map (controls_of all) (take i all)
    → value_of m (key_of e.id s c) ≡ None
entity_absent all items i e s c m same distinct within is now =
    let here : e ≡ get_or all i e = is ∙ ap (λ xs. get_or xs i e) same in
    let below : i < length all = subst (λ (xs : List Entity). i < length xs) same within in
    let k : Key = key_of (get_or all i e).id s c in
    ap (λ (x : Entity). value_of m (key_of x.id s c)) here
    ∙ ap (λ es. value_of es k) now ∙ entities_miss all (take i all) k (earlier_apart all i e distinct below)

pub all_entities : (all items : List Entity) (i : ℕ) (m : List (Key × ℤ)) → items ≡ all → length items ≤ i
    → m ≡ flat_map (controls_of all) (take i all) → m ≡ initial_controls all
unfolding initial_controls
all_entities all items i m same past now =
    let beyond : length all ≤ i = subst (λ (xs : List Entity). length xs ≤ i) same past in
    now ∙ ap (flat_map (controls_of all)) (take_all i all beyond)
