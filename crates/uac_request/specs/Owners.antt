-- What the code has of a request: what keeps the control that it names, which of the six it is, and of the twelve rules those that are left
-- where the control that it names is kept by something.
use Rattle.std.specs.Prelude.{◌≡◌, ℕ, ◌==◌, ◌&&◌, ◌||◌, not, Bool, List, [], ◌∷◌, length, is_some}
use Rattle.uac_topology.specs.Function.{FunctionFields}
use Rattle.uac_store.specs.StoreValues.{is_legal}
use Rattle.uac_alt.specs.AltSettings.{is_running}
use Rattle.uac_request.specs.declared.owner.Owner as declared
use Rattle.uac_request.specs.declared.owner.Owner.TheVariants as owner
use Rattle.uac_request.specs.declared.request.Request.{Request}
use Rattle.uac_request.specs.declared.request.Request.TheVariants as ask
use Rattle.uac_request.specs.declared.setup.Setup.{Setup}
use Rattle.uac_request.specs.Requests.{RequestState, Owner, by_entity, by_streaming_interface, bytes_of, has_range, has_value, high}
use Rattle.uac_request.specs.Requests.{is_clock_control}
use Rattle.uac_request.specs.Requests.{is_declared, is_empty, is_in_range, is_writable, key_named, low, sent_value, width_of}

abbrev pub owner_fields : declared.Owner → Owner
owner_fields (owner.Entity e) = by_entity e.now
owner_fields (owner.Interface s) = by_streaming_interface s.now

abbrev pub IsAsked : Request → Setup → Type 0
IsAsked ask.GetCur p = (p.request_type ≡ 161) × (p.request ≡ 1)
IsAsked ask.GetRange p = (p.request_type ≡ 161) × (p.request ≡ 2)
IsAsked ask.SetCur p = (p.request_type ≡ 33) × (p.request ≡ 1)
IsAsked ask.GetDescriptor p = (p.request_type ≡ 128) × (p.request ≡ 6)
IsAsked ask.GetInterface p = (p.request_type ≡ 129) × (p.request ≡ 10)
IsAsked ask.SetInterface p = (p.request_type ≡ 1) × (p.request ≡ 11)

-- the rules for its value or its ranges
abbrev pub get_rules : FunctionFields → Setup → List ℕ → Owner → Bool → List (ℕ × Bool)
get_rules function p sent o range =
    (4, not (is_some (width_of o (high p.value))) || (range && not (has_range o (high p.value))))
    ∷ (5, is_in_range function.entities o (low p.value) && not (is_declared o (high p.value) (low p.value)))
    ∷ (6, not (is_in_range function.entities o (low p.value)))
    ∷ (8, not (is_empty sent))
    ∷ []

-- the rules to set it
abbrev pub set_rules : FunctionFields → RequestState → Setup → List ℕ → Owner → List (ℕ × Bool)
set_rules function held p sent o =
    (4, not (is_some (width_of o (high p.value))))
    ∷ (5, is_in_range function.entities o (low p.value) && not (is_declared o (high p.value) (low p.value)))
    ∷ (6, not (is_in_range function.entities o (low p.value)))
    ∷ (7, not (is_writable o (high p.value) (low p.value)))
    ∷ (8, not (p.length == bytes_of o (high p.value) && length sent == bytes_of o (high p.value)))
    ∷ (9, not (is_legal function.entities held.controls (key_named p) (sent_value o (high p.value) sent)))
    ∷ (
      10,
      is_clock_control o
          && (is_running held.settings && not (has_value held.controls (key_named p) (sent_value o (high p.value) sent))),
    )
    ∷ []
