-- Values that are sent to controls which a host may set.
use Rattle.std.proofs.Common.{◌≡◌, ◌∙◌, ℕ, ◌==◌, ◌≤◌, nat_lt, nat_le, Bool, true, false, List, Option, Some, None, IsSome, is_some, ℤ, pos, negsuc, refl, subst, inl, inr, rules, arith, length, w32, FitsSigned, ◌%◌, if◌then◌else◌}
use Rattle.std.proofs.lemmas.Bool.{cases_Bool, cases_lt}
use Rattle.uac_entities.specs.EntityInterfaces.{entity_by_id}
use Rattle.uac_entities.specs.declared.entity.Entity.{Entity}
use Rattle.uac_entities.specs.declared.entity.EntityKind.{EntityKind}
use Rattle.uac_entities.specs.declared.entity.EntityKind.TheVariants as kind
use Rattle.uac_store.specs.declared.keys.Key.{Key}
use Rattle.uac_store.specs.ControlTable.{is_frequency, selectors_of, takes_by}
use Rattle.uac_store.specs.StoreControls.{IsStoreOf, count_of, has_control, has_on, takes, takes_on}
use Rattle.uac_store.specs.StoreValues.{is_legal}
use Rattle.uac_clock.specs.Nominal.{is_listed}
use Rattle.uac_store.specs.Keyed.{value_of}
use Rattle.uac_request.specs.Requests.{entity_width, is_writable_on}

-- a frequency has at most four bytes, and any other control that can be set at most two
abbrev IsNarrow : EntityKind → ℕ → Type 0
IsNarrow kind.ClockSource w = w ≤ 4
IsNarrow _ w = w ≤ 2

-- what is so of a control of a kind that can be set: it keeps a value, in so few bytes
abbrev IsKeptAt : EntityKind → ℕ → ℕ → Type 0
IsKeptAt k selector w = (nat_le selector (selectors_of k) ≡ true) × (w ≤ 4) × IsNarrow k w

first_kept : (k : EntityKind) (e : Entity) (channel w : ℕ) → entity_width k 1 ≡ Some w → is_writable_on k e 1 channel ≡ true → IsKeptAt k 1 w
first_kept kind.ClockSource e channel w wide can = search rules
first_kept kind.ClockSelector e channel w wide can = search rules
first_kept kind.ClockMultiplier e channel w wide can = search rules
first_kept kind.InputTerminal e channel w wide can = cc
first_kept kind.OutputTerminal e channel w wide can = cc
first_kept kind.Mixer e channel w wide can = search rules
first_kept kind.Selector e channel w wide can = search rules
first_kept kind.Feature e channel w wide can = search rules
first_kept kind.Effect e channel w wide can = search rules

second_kept : (k : EntityKind) (e : Entity) (channel w : ℕ) → entity_width k 2 ≡ Some w → is_writable_on k e 2 channel ≡ true → IsKeptAt k 2 w
second_kept kind.ClockSource e channel w wide can = cc
second_kept kind.ClockSelector e channel w wide can = cc
second_kept kind.ClockMultiplier e channel w wide can = search rules
second_kept kind.InputTerminal e channel w wide can = cc
second_kept kind.OutputTerminal e channel w wide can = cc
second_kept kind.Mixer e channel w wide can = cc
second_kept kind.Selector e channel w wide can = cc
second_kept kind.Feature e channel w wide can = search rules
second_kept kind.Effect e channel w wide can = cc

kept_at : (k : EntityKind) (e : Entity) (selector channel w : ℕ) → 1 ≤ selector → selector ≤ 2 → entity_width k selector ≡ Some w → is_writable_on k e selector channel ≡ true → IsKeptAt k selector w
kept_at k e selector channel w some low wide can = elim (cases_lt selector 2) [
  | inl below ↦ (let is : 1 ≡ selector = omega arith in subst (λ n. entity_width k n ≡ Some w → is_writable_on k e n channel ≡ true → IsKeptAt k n w) is (first_kept k e channel w) wide can)
  | inr above ↦ (let is : 2 ≡ selector = omega arith in subst (λ n. entity_width k n ≡ Some w → is_writable_on k e n channel ≡ true → IsKeptAt k n w) is (second_kept k e channel w) wide can)
]

pub at_most_four : (k : EntityKind) (e : Entity) (selector channel w : ℕ) → 1 ≤ selector → selector ≤ 2 → entity_width k selector ≡ Some w → is_writable_on k e selector channel ≡ true → w ≤ 4
at_most_four k e selector channel w some low wide can = (kept_at k e selector channel w some low wide can).1

-- the store has a control that can be set
pub is_held : (entities : List Entity) (controls : List (Key × ℤ)) (e : Entity) (k : Key) (w : ℕ) → IsStoreOf entities controls → entity_by_id entities k.entity ≡ Some e → 1 ≤ k.selector → k.selector ≤ 2 → entity_width e.kind k.selector ≡ Some w → is_writable_on e.kind e k.selector k.channel ≡ true → nat_lt k.channel (count_of entities e) ≡ true → IsSome (value_of controls k)
unfolding has_control has_on
is_held entities controls e k w store is some low wide can within =
    let kept = kept_at e.kind e k.selector k.channel w some low wide can in
    let above : nat_lt 0 k.selector ≡ true = grind arith in
    let there : is_some (value_of controls k) ≡ true = store.keys k ∙ rw (is, above, kept.0, within) refl in
    there

-- a frequency that a clock source takes is one of 32 bits
frequency_fits : (attributes : ℕ) (v : ℤ) → is_frequency attributes v ≡ true → FitsSigned w32 v
frequency_fits attributes (negsuc n) taken = cc
frequency_fits attributes (pos n) taken = elim (cases_Bool (nat_lt (attributes % 4) 2)) [
  | inl fixed ↦ (let is : (n == 48000) ≡ true = rw fixed at taken in let few : n ≤ 192000 = grind arith in search rules)
  | inr listed ↦ (let is : is_listed n ≡ true = rw listed at taken in let few : n ≤ 192000 = grind arith in search rules)
]

-- what a clock source takes is a frequency
frequency_taken : (pins attributes selector : ℕ) (v : ℤ) → 1 ≤ selector → selector ≤ 2 → takes_by kind.ClockSource pins attributes selector v ≡ true → is_frequency attributes v ≡ true
frequency_taken pins attributes selector v some low taken = elim (cases_lt selector 2) [
  | inl below ↦ (let is : 1 ≡ selector = omega arith in subst (λ n. takes_by kind.ClockSource pins attributes n v ≡ true → is_frequency attributes v ≡ true) is (λ t. t) taken)
  | inr above ↦ (let is : 2 ≡ selector = omega arith in subst (λ n. takes_by kind.ClockSource pins attributes n v ≡ true → is_frequency attributes v ≡ true) is (λ t. absurd (let no : false ≡ true = t in cc)) taken)
]

-- a value that is taken is one of 32 bits, where two bytes hold only such
taken_fits : (k : EntityKind) (pins attributes selector w : ℕ) (v : ℤ) → 1 ≤ selector → selector ≤ 2 → IsNarrow k w → (w ≤ 2 → FitsSigned w32 v) → takes_by k pins attributes selector v ≡ true → FitsSigned w32 v
taken_fits kind.ClockSource pins attributes selector w v some low narrow short taken = frequency_fits attributes v (frequency_taken pins attributes selector v some low taken)
taken_fits kind.ClockSelector pins attributes selector w v some low narrow short taken = short narrow
taken_fits kind.ClockMultiplier pins attributes selector w v some low narrow short taken = short narrow
taken_fits kind.InputTerminal pins attributes selector w v some low narrow short taken = short narrow
taken_fits kind.OutputTerminal pins attributes selector w v some low narrow short taken = short narrow
taken_fits kind.Mixer pins attributes selector w v some low narrow short taken = short narrow
taken_fits kind.Selector pins attributes selector w v some low narrow short taken = short narrow
taken_fits kind.Feature pins attributes selector w v some low narrow short taken = short narrow
taken_fits kind.Effect pins attributes selector w v some low narrow short taken = short narrow

-- a legal value is one of 32 bits
pub legal_fits : (entities : List Entity) (controls : List (Key × ℤ)) (e : Entity) (k : Key) (w : ℕ) (v : ℤ) → entity_by_id entities k.entity ≡ Some e → 1 ≤ k.selector → k.selector ≤ 2 → entity_width e.kind k.selector ≡ Some w → is_writable_on e.kind e k.selector k.channel ≡ true → (w ≤ 2 → FitsSigned w32 v) → is_legal entities controls k v ≡ true → FitsSigned w32 v
unfolding is_legal takes takes_on
legal_fits entities controls e k w v is some low wide can short legal =
    let kept = kept_at e.kind e k.selector k.channel w some low wide can in
    elim (cases_Bool (takes_by e.kind (length e.sources) e.attributes k.selector v)) [
      | inl taken ↦ taken_fits e.kind (length e.sources) e.attributes k.selector w v some low kept.2 short taken
      | inr not_taken ↦ (let no : false ≡ true = rw (is, not_taken) at legal in cc)
    ]

-- where a value isn't one of 32 bits none is legal
pub none_where_unfit : (legal : Bool) (v : ℤ) (narrow : Option ℤ) → (legal ≡ true → FitsSigned w32 v) → (FitsSigned w32 v → IsSome narrow) → narrow ≡ None → None ≡ (if legal then Some v else None)
none_where_unfit true v narrow fits some none = (let there : false ≡ true = subst IsSome none (some (fits refl)) in cc)
none_where_unfit false v narrow fits some none = refl
