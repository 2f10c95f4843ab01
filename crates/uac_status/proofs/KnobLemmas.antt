-- What the request of a knob changes of the controls.
use Rattle.std.proofs.Common.{◌≡◌, ◌∙◌, refl, ap, sym, subst, ℕ, Bool, true, false, if◌then◌else◌, ℤ, List, Option, Some, None, is_some, unwrap_or}
use Rattle.std.specs.Option.{option_map_or}
use Rattle.std.specs.Ordering.{int_eq}
use Rattle.std.proofs.lemmas.Bool.Decides.{Decides-int_eq}
use Rattle.std.proofs.lemmas.List.Elements.{All-contains, All-from_recursion}
use Rattle.std.proofs.lemmas.Map.Steps.{set_value_same}
use Rattle.uac_entities.specs.declared.entity.Entity.{Entity}
use Rattle.uac_topology.specs.Function.{FunctionFields}
use Rattle.uac_topology.specs.Topology.{IsSoundFunction}
use Rattle.uac_store.specs.declared.keys.Key.{Key}
use Rattle.uac_store.specs.StoreControls.{IsStoreOf}
use Rattle.uac_store.specs.Keyed.{same_key, value_of, with_value}
use Rattle.uac_store.proofs.StoreControlsSoundLemmas.{keyed}
use Rattle.uac_request.specs.RequestElements.{get_of, set_of, is_signed_at, width_at}
use Rattle.uac_request.specs.Requests.{RequestState, after_request, entity_width, has_value, is_done, is_signed, is_stalled, left_by, request_state, reply_of, unbroken_reply, value_bytes, value_from}
use Rattle.uac_request.proofs.RequestsRuleLemmas.{answered_set}
use Rattle.uac_request.proofs.RequestElementsLemmas.{set_holds}
use Rattle.uac_mixer.specs.MixerElements.{element_list, fits_element, is_gain, width_of}
use Rattle.uac_mixer.specs.declared.element.Element.{Element}
use Rattle.uac_mixer.proofs.AgreementLemmas.{IsHeldAs, held_as}
use Rattle.uac_mixer.proofs.MixerElementsByteLemmas.{comes_back}
use Rattle.uac_mixer.proofs.MixerElementsLemmas.{Agrees, agrees}
use Rattle.uac_mixer.proofs.MixerElementsListLemmas.{IsElementOf, all_listed}
use Rattle.uac_status.specs.Knobs.{IsKnob, knob_bytes, knob_rule, knob_outcome, outcome_by, controls_turned}

-- the key of a knob is an element's of the function
pub an_element : (f : FunctionFields) (k : Key) (value : ℤ) → IsSoundFunction f → (knob : IsKnob f.entities k value) → IsElementOf f.entities knob.element
an_element f k value sound knob =
    All-contains (IsElementOf f.entities) (element_list f.entities) knob.element
    (All-from_recursion (IsElementOf f.entities) (element_list f.entities) (all_listed f.entities (keyed f sound).apart)) knob.listed

-- ---- what an element's key tells of its bytes

module _ (entities : List Entity) (x : Element) (m : IsElementOf entities x) where
  kinds : Agrees m.entity.kind x.key.selector x.kind
  kinds = agrees m.entity.kind x.key.selector x.kind m.shows

  pub width_is : width_at entities x.key ≡ width_of x.kind
  width_is =
      ap (λ (o : Option Entity). option_map_or (λ (e : Entity). unwrap_or (entity_width e.kind x.key.selector) 0) o 0) m.found
      ∙ ap (λ (o : Option ℕ). unwrap_or o 0) kinds.width

  pub signed_is : is_signed_at entities x.key ≡ is_gain x.kind
  signed_is = ap (λ (o : Option Entity). option_map_or (λ (e : Entity). is_signed e.kind x.key.selector) o false) m.found ∙ kinds.signed

  pub bytes_back : (value : ℤ) → fits_element x.kind value ≡ true → value_from (is_signed_at entities x.key) (value_bytes (width_at entities x.key) value) ≡ value
  bytes_back value fits =
      ap (λ (b : Bool). value_from b (value_bytes (width_at entities x.key) value)) signed_is
      ∙ ap (λ (n : ℕ). value_from (is_gain x.kind) (value_bytes n value)) width_is
      ∙ comes_back x.kind value fits

-- ---- the request

-- a knob that breaks no rule is done
unbroken_done : (f : FunctionFields) (h : RequestState) (k : Key) (value : ℤ) → knob_rule f h k value ≡ None → reply_of f h (set_of f k) (knob_bytes f k value) ≡ is_done
unfolding reply_of set_of get_of
unbroken_done f h k value none =
    ap (λ (o : Option ℕ). option_map_or is_stalled o (unbroken_reply f h (set_of f k))) none ∙ answered_set f h (set_of f k) refl refl

-- its reply is by its rule
pub knob_reply : (f : FunctionFields) (h : RequestState) (k : Key) (value : ℤ) → reply_of f h (set_of f k) (knob_bytes f k value) ≡ option_map_or is_stalled (knob_rule f h k value) is_done
unfolding reply_of set_of get_of
knob_reply f h k value = ap (option_map_or is_stalled (knob_rule f h k value)) (answered_set f h (set_of f k) refl refl)

held_by : (f : FunctionFields) (h : RequestState) (x : Element) (value : ℤ) → IsSoundFunction f → IsStoreOf f.entities h.controls → IsElementOf f.entities x → fits_element x.kind value ≡ true
    → knob_rule f h x.key value ≡ None → after_request f h (set_of f x.key) (knob_bytes f x.key value) ≡ request_state (with_value h.controls x.key value) h.settings
held_by f h x value sound store m fits none =
    let was : IsHeldAs f.entities h.controls x = held_as f.entities h.controls x store m in
    set_holds f h.controls h.settings x.key was.value (knob_bytes f x.key value) sound store was.is (unbroken_done f h x.key value none)
    ∙ ap (λ (v : ℤ). request_state (with_value h.controls x.key v) h.settings) (bytes_back f.entities x m value fits)

-- a stalled one leaves all
knob_left : (f : FunctionFields) (h : RequestState) (k : Key) (value : ℤ) (rule : ℕ) → knob_rule f h k value ≡ Some rule → after_request f h (set_of f k) (knob_bytes f k value) ≡ h
unfolding after_request
knob_left f h k value rule is = ap (λ (o : Option ℕ). if is_some o then h else left_by f h (set_of f k) (knob_bytes f k value)) is

-- a control that has the value keeps it
has_it : (o : Option ℤ) (value : ℤ) → option_map_or (int_eq value) o false ≡ true → o ≡ Some value
has_it None value is = absurd (cc)
has_it (Some v) value is = ap (λ (x : ℤ). Some x) (sym ((Decides-int_eq value v).0 is))

set_again : (controls : List (Key × ℤ)) (k : Key) (value : ℤ) → has_value controls k value ≡ true → with_value controls k value ≡ controls
unfolding value_of with_value
set_again controls k value is = set_value_same (same_key k) controls value (has_it (value_of controls k) value is)

-- what the device keeps after a knob on an element
pub after_knob_on : (f : FunctionFields) (h : RequestState) (x : Element) (value : ℤ) → IsSoundFunction f → IsStoreOf f.entities h.controls → IsElementOf f.entities x → fits_element x.kind value ≡ true
    → after_request f h (set_of f x.key) (knob_bytes f x.key value) ≡ request_state (controls_turned (knob_outcome f h x.key value) x.key value h.controls) h.settings
after_knob_on f h x value sound store m fits = by (knob_rule f h x.key value) refl (has_value h.controls x.key value) refl where
  by : (o : Option ℕ) → knob_rule f h x.key value ≡ o → (b : Bool) → has_value h.controls x.key value ≡ b
      → after_request f h (set_of f x.key) (knob_bytes f x.key value) ≡ request_state (controls_turned (outcome_by o b) x.key value h.controls) h.settings
  by (Some rule) is b has = knob_left f h x.key value rule is
  by None is true has = held_by f h x value sound store m fits is ∙ ap (λ (c : List (Key × ℤ)). request_state c h.settings) (set_again h.controls x.key value has)
  by None is false has = held_by f h x value sound store m fits is

-- and after one of a key
pub after_knob : (f : FunctionFields) (h : RequestState) (k : Key) (value : ℤ) → IsSoundFunction f → IsStoreOf f.entities h.controls → IsKnob f.entities k value
    → after_request f h (set_of f k) (knob_bytes f k value) ≡ request_state (controls_turned (knob_outcome f h k value) k value h.controls) h.settings
after_knob f h k value sound store knob =
    subst (λ (l : Key). after_request f h (set_of f l) (knob_bytes f l value) ≡ request_state (controls_turned (knob_outcome f h l value) l value h.controls) h.settings) knob.keyed
    (after_knob_on f h knob.element value sound store (an_element f k value sound knob) knob.fits)
