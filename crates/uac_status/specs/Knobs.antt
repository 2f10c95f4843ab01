-- A knob on a device: it is a request of the device's own to set a control (Audio Class 2.0, 5.2.1), and where that changes the control a
-- message of it waits (6.1).
use Rattle.std.specs.Prelude.{◌≡◌, ℕ, ◌++◌, Bool, true, false, if◌then◌else◌, ℤ, List, [], ◌∷◌, Contains, Option, None, Some}
use Rattle.std.specs.List.{list_any}
use Rattle.uac_entities.specs.declared.entity.Entity.{Entity}
use Rattle.uac_topology.specs.Function.{FunctionFields}
use Rattle.uac_store.specs.declared.keys.Key.{Key}
use Rattle.uac_store.specs.Keyed.{same_key, with_value}
use Rattle.uac_request.specs.RequestElements.{set_of, width_at}
use Rattle.uac_request.specs.Requests.{RequestState, first_broken, has_value, value_bytes}
use Rattle.uac_mixer.specs.MixerElements.{element_list, fits_element}
use Rattle.uac_mixer.specs.declared.element.Element.{Element}

-- the key is that of an element of these entities, and the value fits its bytes
pub record IsKnob (entities : List Entity) (k : Key) (value : ℤ) : Type 0 where
  pub element : Element
  pub listed : Contains (element_list entities) element
  pub keyed : element.key ≡ k
  pub fits : fits_element element.kind value ≡ true

-- what the request sends
abbrev pub knob_bytes : FunctionFields → Key → ℤ → List ℕ
knob_bytes function k value = value_bytes (width_at function.entities k) value

-- the rule by which it is stalled, if it is
abbrev pub knob_rule : FunctionFields → RequestState → Key → ℤ → Option ℕ
knob_rule function held k value = first_broken function held (set_of function k) (knob_bytes function k value)

-- what comes of a knob: the rule by which it is stalled; nothing, where the control has that value; or the control changes
pub data KnobOutcome : Type 0 where
  knob_stalls : ℕ → KnobOutcome
  knob_rests : KnobOutcome
  knob_changes : KnobOutcome

-- by the rule, and whether the control has the value
abbrev pub outcome_by : Option ℕ → Bool → KnobOutcome
outcome_by (Some rule) has = knob_stalls rule
outcome_by None true = knob_rests
outcome_by None false = knob_changes

abbrev pub knob_outcome : FunctionFields → RequestState → Key → ℤ → KnobOutcome
knob_outcome function held k value = outcome_by (knob_rule function held k value) (has_value held.controls k value)

-- the controls after it: the value is held where the control changes
abbrev pub controls_turned : KnobOutcome → Key → ℤ → List (Key × ℤ) → List (Key × ℤ)
controls_turned (knob_stalls rule) k value controls = controls
controls_turned knob_rests k value controls = controls
controls_turned knob_changes k value controls = with_value controls k value

-- ---- the keys whose messages wait, each once, the oldest first

abbrev pub is_pending : List Key → Key → Bool
is_pending pending k = list_any (λ l. same_key l k) pending

-- a key waits last, unless it waits already
unfoldable pub with_pending : Key → List Key → List Key
with_pending k pending = if is_pending pending k then pending else pending ++ k ∷ []

-- the keys that wait after a knob
abbrev pub pending_turned : KnobOutcome → Key → List Key → List Key
pending_turned (knob_stalls rule) k pending = pending
pending_turned knob_rests k pending = pending
pending_turned knob_changes k pending = with_pending k pending
