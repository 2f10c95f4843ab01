-- Requests that address a control by its key.
use Rattle.std.proofs.Common.{◌≡◌, ◌∙◌, sym, ap, refl, ℕ, ◌+◌, ◌*◌, ◌/◌, ◌%◌, ◌<◌, ◌==◌, nat_lt, nat_le, true, false, List, [], length, take, Option, Some, None, is_some, unwrap_or, ℤ, pos, inl, inr, if◌then◌else◌, eq-eqb, arith}
use Rattle.std.specs.Option.{option_map_or}
use Rattle.std.proofs.Math.Seq.{take-length}
use Rattle.std.proofs.lemmas.Bool.{cases_Bool}
use Rattle.uac_entities.specs.EntityInterfaces.{entity_by_id}
use Rattle.uac_entities.specs.declared.entity.Entity.{Entity}
use Rattle.uac_entities.specs.declared.entity.EntityKind.{EntityKind}
use Rattle.uac_entities.specs.declared.entity.EntityKind.TheVariants as kind
use Rattle.uac_topology.specs.Function.{FunctionFields}
use Rattle.uac_topology.specs.Topology.{IsSoundFunction}
use Rattle.uac_topology.proofs.FunctionKeptNumberLemmas.{are_numbered}
use Rattle.uac_alt.specs.declared.settings.InterfaceSetting.{InterfaceSetting}
use Rattle.uac_store.specs.declared.keys.Key.{Key}
use Rattle.uac_store.specs.ControlTable.{control_of, selectors_of}
use Rattle.uac_store.specs.StoreControls.{IsStoreOf}
use Rattle.uac_store.specs.Keyed.{value_of, with_value}
use Rattle.uac_store.proofs.ControlTableLemmas.{at_each}
use Rattle.uac_request.specs.declared.setup.Setup.{Setup}
use Rattle.uac_request.specs.RequestElements.{get_of, is_present, set_of, is_signed_at, width_at}
use Rattle.uac_request.specs.Requests.{after_request, unbroken_reply, by_entity, control_bytes, controls_set, cur_bytes, cur_named, entity_bytes, entity_width, first_broken, has_interface, RequestState, request_state, high, is_declared_on, is_done, is_signed, is_stalled, kept_bytes, key_named, left_by, low, Owner, owner_of, reply_of, sent_value, value_bytes, value_from, with_bytes}
use Rattle.uac_request.proofs.RequestsRuleLemmas.{answered_cur, answered_set, first_cur, left_cur, left_set}
use Rattle.uac_request.proofs.RequestElementsValueLemmas.{few_channels, IsKept, kept_in}
use Rattle.uac_request.proofs.RequestsByteLemmas.{length_value}
use Rattle.uac_request.proofs.RequestsSetLemmas.{IsTaken, is_taken}

-- the two bytes of a number
high_byte : (a b : ℕ) → b < 256 → (256 * a + b) / 256 ≡ a
high_byte a b few = omega arith

low_byte : (a b : ℕ) → b < 256 → (256 * a + b) % 256 ≡ b
low_byte a b few = omega arith

take_all : (n : ℕ) (xs : List ℕ) → length xs ≡ n → take n xs ≡ xs
take_all n xs is = ap (λ m. take m xs) (sym is) ∙ take-length xs

-- a control that keeps a value answers with it
abbrev Tells : EntityKind → Entity → List (Key × ℤ) → Key → ℕ → Type 0
Tells k e controls key selector = option_map_or (λ c. control_bytes c e controls key) (control_of k selector) [] ≡ kept_bytes controls key (unwrap_or (entity_width k selector) 0)

first_tells : (k : EntityKind) (e : Entity) (controls : List (Key × ℤ)) (key : Key) → nat_le 1 (selectors_of k) ≡ true → Tells k e controls key 1
first_tells kind.ClockSource e controls key low = refl
first_tells kind.ClockSelector e controls key low = refl
first_tells kind.ClockMultiplier e controls key low = refl
first_tells kind.InputTerminal e controls key low = cc
first_tells kind.OutputTerminal e controls key low = cc
first_tells kind.Mixer e controls key low = refl
first_tells kind.Selector e controls key low = refl
first_tells kind.Feature e controls key low = refl
first_tells kind.Effect e controls key low = refl

second_tells : (k : EntityKind) (e : Entity) (controls : List (Key × ℤ)) (key : Key) → nat_le 2 (selectors_of k) ≡ true → Tells k e controls key 2
second_tells kind.ClockSource e controls key low = cc
second_tells kind.ClockSelector e controls key low = cc
second_tells kind.ClockMultiplier e controls key low = refl
second_tells kind.InputTerminal e controls key low = cc
second_tells kind.OutputTerminal e controls key low = cc
second_tells kind.Mixer e controls key low = cc
second_tells kind.Selector e controls key low = cc
second_tells kind.Feature e controls key low = refl
second_tells kind.Effect e controls key low = cc

pub kept_value : (k : EntityKind) (e : Entity) (controls : List (Key × ℤ)) (key : Key) → nat_lt 0 key.selector ≡ true → nat_le key.selector (selectors_of k) ≡ true → entity_bytes k e controls key ≡ kept_bytes controls key (unwrap_or (entity_width k key.selector) 0)
kept_value k e controls key some low = at_each k (Tells k e controls key) key.selector some low (first_tells k e controls key) (second_tells k e controls key)

first_has_width : (k : EntityKind) → nat_le 1 (selectors_of k) ≡ true → is_some (entity_width k 1) ≡ true
first_has_width kind.ClockSource low = refl
first_has_width kind.ClockSelector low = refl
first_has_width kind.ClockMultiplier low = refl
first_has_width kind.InputTerminal low = cc
first_has_width kind.OutputTerminal low = cc
first_has_width kind.Mixer low = refl
first_has_width kind.Selector low = refl
first_has_width kind.Feature low = refl
first_has_width kind.Effect low = refl

second_has_width : (k : EntityKind) → nat_le 2 (selectors_of k) ≡ true → is_some (entity_width k 2) ≡ true
second_has_width kind.ClockSource low = cc
second_has_width kind.ClockSelector low = cc
second_has_width kind.ClockMultiplier low = refl
second_has_width kind.InputTerminal low = cc
second_has_width kind.OutputTerminal low = cc
second_has_width kind.Mixer low = cc
second_has_width kind.Selector low = cc
second_has_width kind.Feature low = refl
second_has_width kind.Effect low = cc

has_width : (k : EntityKind) (selector : ℕ) → nat_lt 0 selector ≡ true → nat_le selector (selectors_of k) ≡ true → is_some (entity_width k selector) ≡ true
has_width k selector some low = at_each k (λ s. is_some (entity_width k s) ≡ true) selector some low (first_has_width k) (second_has_width k)

module _ (function : FunctionFields) (own : function.control_interface < 256) (k : Key) (few : k.channel < 256) (p : Setup) (value : p.value ≡ 256 * k.selector + k.channel) (index : p.index ≡ 256 * k.entity + function.control_interface) where
  value_high : high p.value ≡ k.selector
  value_high = ap high value ∙ high_byte k.selector k.channel few

  value_low : low p.value ≡ k.channel
  value_low = ap low value ∙ low_byte k.selector k.channel few

  index_high : high p.index ≡ k.entity
  index_high = ap high index ∙ high_byte k.entity function.control_interface own

  index_low : low p.index ≡ function.control_interface
  index_low = ap low index ∙ low_byte k.entity function.control_interface own

  key_is : key_named p ≡ k
  key_is = λ j. record { entity = index_high j; selector = value_high j; channel = value_low j }

  module _ (e : Entity) (kept : IsKept function.entities k e) where
    owner_is : owner_of function p.index ≡ Some (by_entity e)
    unfolding owner_of
    owner_is =
        let own_number : (low p.index == function.control_interface) ≡ true = eq-eqb (low p.index) function.control_interface index_low in
        let found : entity_by_id function.entities (high p.index) ≡ Some e = ap (entity_by_id function.entities) index_high ∙ kept.is in
        rw (own_number, found) refl

    has_is : has_interface function (low p.index) ≡ true
    has_is = (let own_number : (low p.index == function.control_interface) ≡ true = eq-eqb (low p.index) function.control_interface index_low in rw own_number refl)

    get_none : (held : RequestState) → p.request_type ≡ 161 → p.request ≡ 1 → is_declared_on e.kind e k.selector k.channel ≡ true → first_broken function held p [] ≡ None
    get_none held type number declared =
        first_cur function held p [] (by_entity e) has_is owner_is type number
        ∙ rw (value_high, value_low, has_width e.kind k.selector kept.some kept.low, kept.within, declared) refl

    cur_is : (controls : List (Key × ℤ)) (v : ℤ) (held : RequestState) → held.controls ≡ controls → value_of controls k ≡ Some v → cur_named function held p ≡ value_bytes (width_at function.entities k) v
    unfolding cur_bytes
    cur_is controls v held same is =
        let wide : width_at function.entities k ≡ unwrap_or (entity_width e.kind k.selector) 0 = ap (λ o. option_map_or (λ (x : Entity). unwrap_or (entity_width x.kind k.selector) 0) o 0) kept.is in
        let by_owner : cur_named function held p ≡ entity_bytes e.kind e held.controls (key_named p) = ap (λ o. option_map_or (cur_bytes function held p) o []) owner_is in
        let by_key : entity_bytes e.kind e held.controls (key_named p) ≡ entity_bytes e.kind e controls k = λ j. entity_bytes e.kind e (same j) (key_is j) in
        let by_kind : entity_bytes e.kind e controls k ≡ kept_bytes controls k (unwrap_or (entity_width e.kind k.selector) 0) = kept_value e.kind e controls k kept.some kept.low in
        let by_value : kept_bytes controls k (unwrap_or (entity_width e.kind k.selector) 0) ≡ value_bytes (width_at function.entities k) v = λ j. value_bytes (sym wide j) (unwrap_or (is j) (pos 0)) in
        by_owner ∙ by_key ∙ by_kind ∙ by_value

    controls_are : (held : RequestState) (sent : List ℕ) → controls_set function held p sent ≡ with_value held.controls k (value_from (is_signed_at function.entities k) sent)
    controls_are held sent =
        let signed : is_signed_at function.entities k ≡ is_signed e.kind k.selector = ap (λ o. option_map_or (λ (x : Entity). is_signed x.kind k.selector) o false) kept.is in
        ap (λ o. option_map_or (λ (owner : Owner). with_value held.controls (key_named p) (sent_value owner (high p.value) sent)) o held.controls) owner_is
        ∙ (λ j. with_value held.controls (key_is j) (value_from (is_signed e.kind (value_high j)) sent))
        ∙ (λ j. with_value held.controls k (value_from (sym signed j) sent))

-- ---- what the laws say

-- a control that keeps a value and is declared answers with its value
pub element_answered : (function : FunctionFields) (controls : List (Key × ℤ)) (settings : List InterfaceSetting) (k : Key) (v : ℤ) → IsSoundFunction function → IsStoreOf function.entities controls → is_present function.entities k ≡ true → value_of controls k ≡ Some v
    → reply_of function (request_state controls settings) (get_of function k) [] ≡ with_bytes (value_bytes (width_at function.entities k) v)
unfolding reply_of get_of
element_answered function controls settings k v sound store present is =
    let own : function.control_interface < 256 = (are_numbered function sound).control in
    let found = kept_in function.entities controls k v store is in
    let e : Entity = found.0 in
    let kept : IsKept function.entities k e = found.1 in
    let few : k.channel < 256 = few_channels function k e sound kept in
    let held : RequestState = request_state controls settings in
    let wide : ℕ = width_at function.entities k in
    let declared : is_declared_on e.kind e k.selector k.channel ≡ true = ap (λ o. option_map_or (λ (x : Entity). is_declared_on x.kind x k.selector k.channel) o false) (sym kept.is) ∙ present in
    let none = get_none function own k few (get_of function k) refl refl e kept held refl refl declared in
    let cur = cur_is function own k few (get_of function k) refl refl e kept controls v held refl is in
    ap (λ o. option_map_or is_stalled o (unbroken_reply function held (get_of function k))) none
    ∙ answered_cur function held (get_of function k) refl refl
    ∙ ap (λ xs. with_bytes (take wide xs)) cur
    ∙ ap (λ xs. with_bytes xs) (take_all wide (value_bytes wide v) (length_value wide v))

-- and nothing changes
pub element_keeps : (function : FunctionFields) (held : RequestState) (k : Key) → after_request function held (get_of function k) [] ≡ held
unfolding after_request get_of
element_keeps function held k = elim (cases_Bool (is_some (first_broken function held (get_of function k) []))) [
  | inl stalled ↦ rw stalled refl
  | inr answers ↦ rw answers (left_cur function held (get_of function k) [] refl)
]

not_stalled : (broken : Option ℕ) → option_map_or is_stalled broken is_done ≡ is_done → broken ≡ None
not_stalled None done = refl
not_stalled (Some rule) done = cc

-- a control whose request to set it is done holds the value that the bytes are
element_set : (function : FunctionFields) (controls : List (Key × ℤ)) (settings : List InterfaceSetting) (k : Key) (v : ℤ) (sent : List ℕ) → IsSoundFunction function → IsStoreOf function.entities controls → value_of controls k ≡ Some v
    → reply_of function (request_state controls settings) (set_of function k) sent ≡ is_done
    → (after_request function (request_state controls settings) (set_of function k) sent ≡ request_state (with_value controls k (value_from (is_signed_at function.entities k) sent)) settings) × (length sent ≡ width_at function.entities k)
unfolding reply_of after_request get_of set_of
element_set function controls settings k v sent sound store is done =
    let own : function.control_interface < 256 = (are_numbered function sound).control in
    let found = kept_in function.entities controls k v store is in
    let e : Entity = found.0 in
    let kept : IsKept function.entities k e = found.1 in
    let few : k.channel < 256 = few_channels function k e sound kept in
    let held : RequestState = request_state controls settings in
    let p : Setup = set_of function k in
    let none : first_broken function held p sent ≡ None = not_stalled (first_broken function held p sent) (ap (option_map_or is_stalled (first_broken function held p sent)) (sym (answered_set function held p refl refl)) ∙ done) in
    let taken : IsTaken function held p sent (by_entity e) = is_taken function held p sent (by_entity e) (has_is function own k few p refl refl e kept) (owner_is function own k few p refl refl e kept) refl refl none in
    let high_is : high p.value ≡ k.selector = value_high function own k few p refl refl in
    let wide : unwrap_or (entity_width e.kind (high p.value)) 0 ≡ width_at function.entities k = (λ j. unwrap_or (entity_width e.kind (high_is j)) 0) ∙ ap (λ o. option_map_or (λ (x : Entity). unwrap_or (entity_width x.kind k.selector) 0) o 0) (sym kept.is) in (
      ap (λ o. if is_some o then held else left_by function held p sent) none ∙ left_set function held p sent refl refl
          ∙ (λ j. record held { controls = controls_are function own k few p refl refl e kept held sent j }),
      taken.whole ∙ wide,
    )

pub set_holds : (function : FunctionFields) (controls : List (Key × ℤ)) (settings : List InterfaceSetting) (k : Key) (v : ℤ) (sent : List ℕ) → IsSoundFunction function → IsStoreOf function.entities controls → value_of controls k ≡ Some v → reply_of function (request_state controls settings) (set_of function k) sent ≡ is_done → after_request function (request_state controls settings) (set_of function k) sent ≡ request_state (with_value controls k (value_from (is_signed_at function.entities k) sent)) settings
set_holds function controls settings k v sent sound store is done = (element_set function controls settings k v sent sound store is done).0

pub set_has_width : (function : FunctionFields) (controls : List (Key × ℤ)) (settings : List InterfaceSetting) (k : Key) (v : ℤ) (sent : List ℕ) → IsSoundFunction function → IsStoreOf function.entities controls → value_of controls k ≡ Some v → reply_of function (request_state controls settings) (set_of function k) sent ≡ is_done → length sent ≡ width_at function.entities k
set_has_width function controls settings k v sent sound store is done = (element_set function controls settings k v sent sound store is done).1
