-- What every request leaves: the store and the settings of the function, settings that are valid, and rates while a stream runs.
use Rattle.std.proofs.Common.{◌≡◌, ◌∙◌, sym, ap, subst, refl, ℕ, ◌≤◌, ◌==◌, ◌&&◌, ◌||◌, ◌⊎◌, not, nat_le, Bool, true, false, List, [], ◌∷◌, map, take, unwrap_or, Option, Some, None, IsSome, is_some, ℤ, inl, inr, if◌then◌else◌, eqb-true, eq-eqb, arith}
use Rattle.std.specs.List.{list_any}
use Rattle.std.specs.Option.{option_map, option_map_or}
use Rattle.std.proofs.lemmas.Bool.{and_parts, cases_Bool, cases_eq}
use Rattle.uac_entities.specs.EntityInterfaces.{entity_by_id}
use Rattle.uac_entities.specs.declared.entity.Entity.{Entity}
use Rattle.uac_entities.specs.declared.entity.EntityKind.{EntityKind}
use Rattle.uac_entities.specs.declared.stream.Setting.{Setting}
use Rattle.uac_entities.specs.declared.stream.StreamInterface.{StreamInterface}
use Rattle.uac_topology_rules.specs.Links.{is_clock}
use Rattle.uac_topology.specs.Function.{FunctionFields, interface_in}
use Rattle.uac_store.specs.declared.keys.Key.{Key}
use Rattle.uac_store.specs.StoreControls.{IsStoreOf, takes}
use Rattle.uac_store.specs.Keyed.{value_of, with_value}
use Rattle.uac_store.specs.Rates.{rate_of}
use Rattle.uac_store.specs.StoreValues.{is_legal}
use Rattle.uac_store.proofs.KeyedLemmas.{kept_by_set}
use Rattle.uac_alt.specs.AltSettings.{in_first, initial_settings, is_running, setting_of, with_setting}
use Rattle.uac_alt.specs.declared.settings.InterfaceSetting.{InterfaceSetting}
use Rattle.uac_alt.proofs.AltSettingsLemmas.{setting_of_changed}
use Rattle.uac_store.specs.declared.controls.Control.{Control}
use Rattle.uac_store.specs.declared.controls.Facts.{Facts}
use Rattle.uac_store.specs.ControlTable.{control_of, facts_of}
use Rattle.uac_store.proofs.ControlTableLemmas.{one_or_two}
use Rattle.uac_request.specs.declared.setup.Setup.{Setup}
use Rattle.uac_request.specs.Requests.{after_request, unbroken_reply, AreSettingsOf, AreValidSettings, by_entity, by_streaming_interface, can_hold, controls_set, cur_named, entity_width, first_broken, gets_cur, gets_descriptor, gets_interface, gets_range, has_interface, has_setting, has_value, RequestState, request_state, high, is_done, is_empty, is_request, is_stalled, is_to_control, is_valid, key_named, left_by, low, Owner, owner_of, ranges_named, reply_of, sent_value, sets_cur, sets_interface, AnswerFields, with_bytes, with_descriptor}
use Rattle.uac_request.proofs.RequestsRuleLemmas.{first_set_interface, no_interface, no_owner}
use Rattle.uac_request.proofs.RequestsOwnerLemmas.{entity_named}
use Rattle.uac_request.proofs.RequestsSentLemmas.{is_held}
use Rattle.uac_request.proofs.KeyedLemmas.{held_alike, same_by_kind, same_by_value, SameClocks, same_rate, valid_alike}
use Rattle.uac_request.proofs.RequestsSetLemmas.{are_met, IsTaken, is_taken, not_false}

-- ---- which requests change anything

named_by : (type number : ℕ) (p : Setup) → is_request type number p ≡ true → (p.request_type ≡ type) × (p.request ≡ number)
named_by type number p is =
    let parts = and_parts (p.request_type == type) (p.request == number) is in
    (eqb-true p.request_type type parts.0, eqb-true p.request number parts.1)

module _ (function : FunctionFields) (held : RequestState) (p : Setup) (sent : List ℕ) where
  pub changes : (P : RequestState → Type 0) → P held
      → (p.request_type ≡ 33 → p.request ≡ 1 → first_broken function held p sent ≡ None → P (record held { controls = controls_set function held p sent }))
      → (p.request_type ≡ 1 → p.request ≡ 11 → first_broken function held p sent ≡ None → P (record held { settings = with_setting held.settings p.index p.value }))
      → P (after_request function held p sent)
  unfolding after_request left_by
  changes P here set interface = from (first_broken function held p sent) refl where
    left : first_broken function held p sent ≡ None → (s i : Bool) → sets_cur p ≡ s → sets_interface p ≡ i
        → P (if s then record held { controls = controls_set function held p sent } else if i then record held { settings = with_setting held.settings p.index p.value } else held)
    left none true i is_set is_interface = (let addressed = named_by 33 1 p is_set in set addressed.0 addressed.1 none)
    left none false true is_set is_interface = (let addressed = named_by 1 11 p is_interface in interface addressed.0 addressed.1 none)
    left none false false is_set is_interface = here

    from : (o : Option ℕ) → first_broken function held p sent ≡ o → P (if is_some o then held else left_by function held p sent)
    from (Some rule) is = here
    from None is = left is (sets_cur p) (sets_interface p) refl refl

-- ---- a control that is set

-- a control that has bytes has selector 1 or 2
wide_at : (k : EntityKind) (selector : ℕ) → is_some (entity_width k selector) ≡ true → (selector ≡ 1) ⊎ (selector ≡ 2)
wide_at k selector wide = one_or_two k selector (from (control_of k selector) wide) where
  from : (o : Option Control) → is_some (option_map (λ (f : Facts). f.width) (option_map facts_of o)) ≡ true → is_some o ≡ true
  from None is = cc
  from (Some c) is = refl

selector_some : (k : EntityKind) (selector : ℕ) → is_some (entity_width k selector) ≡ true → 1 ≤ selector
selector_some k selector wide = elim (wide_at k selector wide) [
  | inl one ↦ omega (arith, one)
  | inr two ↦ omega (arith, two)
]

selector_low : (k : EntityKind) (selector : ℕ) → is_some (entity_width k selector) ≡ true → selector ≤ 2
selector_low k selector wide = elim (wide_at k selector wide) [
  | inl one ↦ omega (arith, one)
  | inr two ↦ omega (arith, two)
]

some_of : {A : Type 0} (o : Option A) → is_some o ≡ true → (a : A) × (o ≡ Some a)
some_of None there = cc
some_of (Some a) there = (a, refl)

-- what is so of a request to set a control that breaks no rule
pub record IsSet (function : FunctionFields) (held : RequestState) (p : Setup) (sent : List ℕ) : Type 0 where
  pub e : Entity
  pub owner : owner_of function p.index ≡ Some (by_entity e)
  pub is : entity_by_id function.entities (high p.index) ≡ Some e
  pub taken : IsTaken function held p sent (by_entity e)
  pub there : IsSome (value_of held.controls (key_named p))

pub is_set : (function : FunctionFields) (held : RequestState) (p : Setup) (sent : List ℕ) → IsStoreOf function.entities held.controls → p.request_type ≡ 33 → p.request ≡ 1 → first_broken function held p sent ≡ None → IsSet function held p sent
is_set function held p sent store type number none = of_interface (has_interface function (low p.index)) refl where
  control : is_to_control p ≡ true
  control = rw (type, number) refl

  from : (owner : Owner) → owner_of function p.index ≡ Some owner → IsTaken function held p sent owner → IsSet function held p sent
  from (by_streaming_interface s) of taken = absurd (let no : false ≡ true = taken.writable in cc)
  from (by_entity e) of taken =
      let is = entity_named function p.index e of in
      let width = some_of (entity_width e.kind (high p.value)) taken.wide in
      record {
        e = e;
        owner = of;
        is = is;
        taken = taken;
        there = is_held function.entities held.controls e (key_named p) width.0 store is (selector_some e.kind (high p.value) taken.wide) (selector_low e.kind (high p.value) taken.wide) width.1 taken.writable taken.within;
      }

  of_owner : has_interface function (low p.index) ≡ true → (o : Option Owner) → owner_of function p.index ≡ o → IsSet function held p sent
  of_owner has None is = absurd (let no : Some 3 ≡ None = sym (no_owner function held p sent control has is) ∙ none in cc)
  of_owner has (Some owner) is = from owner is (is_taken function held p sent owner has is type number none)

  of_interface : (b : Bool) → has_interface function (low p.index) ≡ b → IsSet function held p sent
  of_interface false is = absurd (let no : Some 2 ≡ None = sym (no_interface function held p sent control is) ∙ none in cc)
  of_interface true is = of_owner is (owner_of function p.index) refl

-- it leaves the control with the value
pub set_leaves : (function : FunctionFields) (held : RequestState) (p : Setup) (sent : List ℕ) (e : Entity) → owner_of function p.index ≡ Some (by_entity e)
    → controls_set function held p sent ≡ with_value held.controls (key_named p) (sent_value (by_entity e) (high p.value) sent)
set_leaves function held p sent e of =
    ap (λ o. option_map_or (λ (owner : Owner). with_value held.controls (key_named p) (sent_value owner (high p.value) sent)) o held.controls) of

legal_taken : (entities : List Entity) (controls : List (Key × ℤ)) (k : Key) (v : ℤ) → is_legal entities controls k v ≡ true → takes entities k v ≡ true
unfolding is_legal
legal_taken entities controls k v legal = (and_parts _ _ legal).0

-- the clocks under it, while some setting isn't 0
same_clocks : (function : FunctionFields) (held : RequestState) (p : Setup) (sent : List ℕ) (set : IsSet function held p sent) → is_running held.settings ≡ true → SameClocks function.entities held.controls (with_value held.controls (key_named p) (sent_value (by_entity set.e) (high p.value) sent))
same_clocks function held p sent set running = elim (cases_Bool (is_clock set.e.kind)) [
  | inl clock ↦ (
      let alike : not (has_value held.controls (key_named p) (sent_value (by_entity set.e) (high p.value) sent)) ≡ false = rw (clock, running) at set.taken.still in
      same_by_value function.entities held.controls (key_named p) (sent_value (by_entity set.e) (high p.value) sent)
      (held_alike (value_of held.controls (key_named p)) (sent_value (by_entity set.e) (high p.value) sent) (not_false _ alike)))
  | inr other ↦ same_by_kind function.entities held.controls (key_named p) (sent_value (by_entity set.e) (high p.value) sent) set.e set.there set.is other
]

-- ---- the store

pub store_stays : (function : FunctionFields) (held : RequestState) (p : Setup) (sent : List ℕ) → IsStoreOf function.entities held.controls → IsStoreOf function.entities (after_request function held p sent).controls
store_stays function held p sent store =
    changes function held p sent (λ h. IsStoreOf function.entities h.controls) store
    (λ type number none.
    let set = is_set function held p sent store type number none in
    subst (λ controls. IsStoreOf function.entities controls) (sym (set_leaves function held p sent set.e set.owner))
    (kept_by_set function.entities held.controls (key_named p) (sent_value (by_entity set.e) (high p.value) sent) set.there store
    (legal_taken function.entities held.controls (key_named p) (sent_value (by_entity set.e) (high p.value) sent) set.taken.legal)))
    (λ type number none. store)

-- ---- rates

pub rates_stay : (function : FunctionFields) (held : RequestState) (p : Setup) (sent : List ℕ) → IsStoreOf function.entities held.controls → is_running held.settings ≡ true → (id : ℕ) → rate_of function.entities (after_request function held p sent).controls id ≡ rate_of function.entities held.controls id
rates_stay function held p sent store running id =
    changes function held p sent (λ h. rate_of function.entities h.controls id ≡ rate_of function.entities held.controls id) refl
    (λ type number none.
    let set = is_set function held p sent store type number none in
    subst (λ controls. rate_of function.entities controls id ≡ rate_of function.entities held.controls id) (sym (set_leaves function held p sent set.e set.owner))
    (same_rate function.entities held.controls (with_value held.controls (key_named p) (sent_value (by_entity set.e) (high p.value) sent)) (same_clocks function held p sent set running) id))
    (λ type number none. refl)

-- ---- settings

-- what is so of a request to set an interface's setting that breaks no rule
pub record IsHeld (function : FunctionFields) (held : RequestState) (p : Setup) : Type 0 where
  pub interface : has_interface function p.index ≡ true
  pub has : has_setting function p.index p.value ≡ true
  pub can : can_hold function held.controls p.index p.value ≡ true

is_taken_up : (function : FunctionFields) (held : RequestState) (p : Setup) (sent : List ℕ) → p.request_type ≡ 1 → p.request ≡ 11 → first_broken function held p sent ≡ None → IsHeld function held p
is_taken_up function held p sent type number none =
    let met = are_met
    ((2, not (has_interface function p.index)) ∷ (8, not (p.length == 0 && is_empty sent)) ∷ (11, not (has_setting function p.index p.value)) ∷ (12, not (can_hold function held.controls p.index p.value)) ∷ [])
    (sym (first_set_interface function held p sent type number) ∙ none) in
    record { interface = not_false _ met.0; has = not_false _ met.1.1.0; can = not_false _ met.1.1.1.0 }

-- the setting of each interface then
new_setting : (function : FunctionFields) (settings : List InterfaceSetting) (interface setting : ℕ) → AreSettingsOf function settings → has_interface function interface ≡ true → (n : ℕ) → setting_of (with_setting settings interface setting) n ≡ (if n == interface then Some setting else setting_of settings n)
new_setting function settings interface setting are has n = setting_of_changed settings interface setting n (are interface ∙ has)

pub settings_stay : (function : FunctionFields) (held : RequestState) (p : Setup) (sent : List ℕ) → AreSettingsOf function held.settings → AreSettingsOf function (after_request function held p sent).settings
settings_stay function held p sent are =
    changes function held p sent (λ h. AreSettingsOf function h.settings) are (λ type number none. are)
    (λ type number none n.
    let taken = is_taken_up function held p sent type number none in
    ap is_some (new_setting function held.settings p.index p.value are taken.interface n) ∙ elim (cases_eq n p.index) [
      | inl same ↦ rw (eq-eqb n p.index same) (sym (ap (has_interface function) same ∙ taken.interface))
      | inr other ↦ (let apart : (n == p.index) ≡ false = grind arith in rw apart (are n))
    ])

-- where no setting isn't 0, each is 0
at_rest : (settings : List InterfaceSetting) (interface setting : ℕ) → is_running settings ≡ false → setting_of settings interface ≡ Some setting → (setting == 0) ≡ true
unfolding setting_of
at_rest [] interface setting rest is = cc
at_rest (s ∷ settings) interface setting rest is = elim (cases_Bool (s.setting == 0)) [
  | inl first_rests ↦ elim (cases_Bool (s.interface == interface)) [
    | inl same ↦ (let here : Some s.setting ≡ Some setting = rw same at is in let is_it : s.setting ≡ setting = cc in ap (λ n. n == 0) (sym is_it) ∙ first_rests)
    | inr other ↦ at_rest settings interface setting (rw first_rests at rest) (rw other at is)
  ]
  | inr runs ↦ (let no : true ≡ false = rw runs at rest in cc)
]

or_true : (b : Bool) → (b || true) ≡ true
or_true true = refl
or_true false = refl

-- a setting that is taken up is valid
valid_from : (function : FunctionFields) (controls : List (Key × ℤ)) (interface setting : ℕ) → has_setting function interface setting ≡ true → can_hold function controls interface setting ≡ true
    → (setting == 0 || option_map_or (λ s. is_valid function controls s setting) (interface_in function interface) false) ≡ true
unfolding has_setting
valid_from function controls interface setting has can = elim (cases_Bool (interface == function.control_interface)) [
  | inl own ↦ (let rests : (setting == 0) ≡ true = rw own at has in rw rests refl)
  | inr other ↦ (
      let stream : option_map_or (λ (s : StreamInterface). list_any (λ (t : Setting). t.number == setting) s.settings) (interface_in function interface) false ≡ true = rw other at has in
      from (interface_in function interface) stream can)
] where
  from : (o : Option StreamInterface) → option_map_or (λ (s : StreamInterface). list_any (λ (t : Setting). t.number == setting) s.settings) o false ≡ true → option_map_or (λ s. is_valid function controls s setting) o true ≡ true → (setting == 0 || option_map_or (λ s. is_valid function controls s setting) o false) ≡ true
  from None stream can = cc
  from (Some s) stream can = rw can (or_true (setting == 0))

pub valid_stays : (function : FunctionFields) (held : RequestState) (p : Setup) (sent : List ℕ) → IsStoreOf function.entities held.controls → AreSettingsOf function held.settings → AreValidSettings function held → AreValidSettings function (after_request function held p sent)
valid_stays function held p sent store are valid =
    changes function held p sent (λ h. AreValidSettings function h) valid
    (λ type number none.
    let set = is_set function held p sent store type number none in
    subst (λ controls. AreValidSettings function (request_state controls held.settings)) (sym (set_leaves function held p sent set.e set.owner)) (λ interface setting is. elim (cases_Bool (is_running held.settings)) [
      | inl running ↦ (
          let after : List (Key × ℤ) = with_value held.controls (key_named p) (sent_value (by_entity set.e) (high p.value) sent) in
          let rates : (id : ℕ) → rate_of function.entities after id ≡ rate_of function.entities held.controls id = same_rate function.entities held.controls after (same_clocks function held p sent set running) in
          (λ j. setting == 0 || option_map_or (λ s. valid_alike function held.controls after rates s setting j) (interface_in function interface) false) ∙ valid interface setting is)
      | inr rests ↦ rw (at_rest held.settings interface setting rests is) refl
    ]))
    (λ type number none interface setting is.
    let taken = is_taken_up function held p sent type number none in
    let new : (if interface == p.index then Some p.value else setting_of held.settings interface) ≡ Some setting = sym (new_setting function held.settings p.index p.value are taken.interface interface) ∙ is in
    elim (cases_eq interface p.index) [
      | inl same ↦ (
          let here : Some p.value ≡ Some setting = rw (eq-eqb interface p.index same) at new in
          let is_it : p.value ≡ setting = cc in
          subst (λ n. (setting == 0 || option_map_or (λ s. is_valid function held.controls s setting) (interface_in function n) false) ≡ true) (sym same)
          (subst (λ n. (n == 0 || option_map_or (λ s. is_valid function held.controls s n) (interface_in function p.index) false) ≡ true) is_it
          (valid_from function held.controls p.index p.value taken.has taken.can)))
      | inr other ↦ (let apart : (interface == p.index) ≡ false = grind arith in valid interface setting (rw apart at new))
    ])

-- at the start each is 0
starts_at_rest : (numbers : List ℕ) (interface setting : ℕ) → setting_of (map in_first numbers) interface ≡ Some setting → (setting == 0) ≡ true
unfolding setting_of
starts_at_rest [] interface setting is = cc
starts_at_rest (n ∷ numbers) interface setting is = elim (cases_Bool (n == interface)) [
  | inl same ↦ (let here : Some 0 ≡ Some setting = rw same at is in let is_it : 0 ≡ setting = cc in ap (λ m. m == 0) (sym is_it))
  | inr other ↦ starts_at_rest numbers interface setting (rw other at is)
]

pub valid_at_start : (function : FunctionFields) (controls : List (Key × ℤ)) → AreValidSettings function (request_state controls (initial_settings function))
unfolding initial_settings
valid_at_start function controls interface setting is = rw (starts_at_rest (function.control_interface ∷ map (λ s. s.number) function.streams) interface setting is) refl

-- ---- stalls and descriptors

-- what holds of every answer that is no stall
each_answer : (T : AnswerFields → Type 0) (function : FunctionFields) (held : RequestState) (p : Setup) → ((bytes : List ℕ) → T (with_bytes bytes)) → T (with_descriptor 0 (if nat_le p.length function.total then p.length else function.total)) → T is_done → T (unbroken_reply function held p)
unfolding unbroken_reply
each_answer T function held p bytes descriptor done = from (gets_cur p) (gets_range p) (gets_descriptor p) (gets_interface p) where
  from : (a b c d : Bool) → T (
      if a then with_bytes (take p.length (cur_named function held p))
      else if b then with_bytes (take p.length (ranges_named function p))
      else if c then with_descriptor 0 (if nat_le p.length function.total then p.length else function.total)
      else if d then with_bytes (take p.length (unwrap_or (setting_of held.settings p.index) 0 ∷ []))
      else is_done)
  from true b c d = bytes _
  from false true c d = bytes _
  from false false true d = descriptor
  from false false false true = bytes _
  from false false false false = done

pub stall_leaves_all : (function : FunctionFields) (held : RequestState) (p : Setup) (sent : List ℕ) (rule : ℕ) → reply_of function held p sent ≡ is_stalled rule → after_request function held p sent ≡ held
unfolding reply_of after_request
stall_leaves_all function held p sent rule stalled = from (first_broken function held p sent) stalled where
  from : (o : Option ℕ) → option_map_or is_stalled o (unbroken_reply function held p) ≡ is_stalled rule → (if is_some o then held else left_by function held p sent) ≡ held
  from None is = absurd (each_answer (λ t. t ≡ is_stalled rule → ⊥) function held p (λ bytes e. cc) (λ e. cc) (λ e. cc) is)
  from (Some broken) is = refl

lesser : (a b : ℕ) → (if nat_le a b then a else b) ≤ b
lesser a b = grind arith

descriptor_within : (function : FunctionFields) (held : RequestState) (p : Setup) (sent : List ℕ) (start end : ℕ) → reply_of function held p sent ≡ with_descriptor start end → (start ≡ 0) × (end ≤ function.total)
unfolding reply_of
descriptor_within function held p sent start end is = from (first_broken function held p sent) is where
  piece : with_descriptor 0 (if nat_le p.length function.total then p.length else function.total) ≡ with_descriptor start end → (start ≡ 0) × (end ≤ function.total)
  piece is =
      let begins : 0 ≡ start = cc in
      let ends : (if nat_le p.length function.total then p.length else function.total) ≡ end = cc in
      (sym begins, subst (λ n. n ≤ function.total) ends (lesser p.length function.total))

  from : (o : Option ℕ) → option_map_or is_stalled o (unbroken_reply function held p) ≡ with_descriptor start end → (start ≡ 0) × (end ≤ function.total)
  from None is = each_answer (λ t. t ≡ with_descriptor start end → (start ≡ 0) × (end ≤ function.total)) function held p (λ bytes e. absurd (cc)) piece (λ e. absurd (cc)) is
  from (Some broken) is = cc

pub begins_at_0 : (function : FunctionFields) (held : RequestState) (p : Setup) (sent : List ℕ) (from to : ℕ) → reply_of function held p sent ≡ with_descriptor from to → from ≡ 0
begins_at_0 function held p sent from to is = (descriptor_within function held p sent from to is).0

pub ends_within : (function : FunctionFields) (held : RequestState) (p : Setup) (sent : List ℕ) (from to : ℕ) → reply_of function held p sent ≡ with_descriptor from to → to ≤ function.total
ends_within function held p sent from to is = (descriptor_within function held p sent from to is).1
