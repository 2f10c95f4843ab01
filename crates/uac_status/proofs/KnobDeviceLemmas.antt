-- What a knob leaves of the device.
use Rattle.std.proofs.Common.{◌≡◌, ◌∙◌, refl, ap, sym, subst, ℕ, ◌&&◌, Bool, false, if◌then◌else◌, ℤ, List, Option}
use Rattle.std.specs.Option.{option_map_or}
use Rattle.uac_topology.specs.Function.{FunctionFields}
use Rattle.uac_topology.specs.Topology.{IsSoundFunction}
use Rattle.uac_alt.specs.declared.settings.InterfaceSetting.{InterfaceSetting}
use Rattle.uac_store.specs.declared.keys.Key.{Key}
use Rattle.uac_store.specs.StoreControls.{IsStoreOf}
use Rattle.uac_request.specs.RequestElements.{get_of, set_of, width_at}
use Rattle.uac_request.specs.Requests.{RequestState, AnswerFields, after_request, has_value, is_done, is_done_answer, is_stalled, request_state, reply_of, sets_interface, value_bytes}
use Rattle.uac_request.specs.declared.setup.Setup.{Setup}
use Rattle.uac_device.specs.DeviceWorld.{DeviceWorld, after_control, after_restart, stream_in_setting}
use Rattle.uac_device.specs.DeviceKept.{DeviceFields, DeviceStands, IsControlled}
use Rattle.uac_status.specs.Knobs.{IsKnob, KnobOutcome, knob_bytes, knob_rule, knob_outcome, outcome_by, controls_turned}
use Rattle.uac_status.specs.PanelCalls.{IsTurned}
use Rattle.uac_status.proofs.KnobLemmas.{after_knob, knob_reply}

-- the world where this is held
abbrev with_held : DeviceWorld → RequestState → DeviceWorld
with_held w after = record w { controls = after.controls; settings = after.settings }

-- a request that sets no interface changes what is held
controlled_held : (p : Setup) (bytes : List ℕ) (w : DeviceWorld) → sets_interface p ≡ false
    → after_control p bytes w ≡ with_held w (after_request w.function (request_state w.controls w.settings) p bytes)
unfolding after_control
controlled_held p bytes w other =
    let held = request_state w.controls w.settings in
    let asked = with_held w (after_request w.function held p bytes) in
    ap (λ (b : Bool). if b && is_done_answer (reply_of w.function held p bytes)
    then after_restart p.index (stream_in_setting w.function w.controls p.index p.value) asked else asked) other

knob_sets_none : (f : FunctionFields) (k : Key) → sets_interface (set_of f k) ≡ false
unfolding set_of get_of
knob_sets_none f k = refl

-- what is held in the world of a device is what the device holds
same_left : (d : DeviceFields) (w : DeviceWorld) (p : Setup) (bytes : List ℕ) → DeviceStands d w
    → after_request w.function (request_state w.controls w.settings) p bytes ≡ after_request d.function (request_state d.controls d.settings) p bytes
same_left d w p bytes stands =
    sym (ap (λ (f : FunctionFields). after_request f (request_state d.controls d.settings) p bytes) stands.function
    ∙ ap (λ (c : List (Key × ℤ)). after_request w.function (request_state c d.settings) p bytes) stands.controls
    ∙ ap (λ (s : List InterfaceSetting). after_request w.function (request_state w.controls s) p bytes) stands.settings)

pub device_turned : (old new : DeviceFields) (k : Key) (value : ℤ) (p : Setup) (sent : List ℕ) (told : AnswerFields) → IsSoundFunction old.function → IsStoreOf old.function.entities old.controls
    → IsKnob old.function.entities k value → p ≡ set_of old.function k → sent ≡ knob_bytes old.function k value → IsControlled p sent told old new
    → IsTurned (knob_outcome old.function (request_state old.controls old.settings) k value) k value old new
device_turned old new k value p sent told sound store knob setup bytes made =
    let outcome : KnobOutcome = knob_outcome old.function (request_state old.controls old.settings) k value in
    let left : after_request old.function (request_state old.controls old.settings) p sent ≡ request_state (controls_turned outcome k value old.controls) old.settings =
    ap (λ (q : Setup). after_request old.function (request_state old.controls old.settings) q sent) setup
    ∙ ap (after_request old.function (request_state old.controls old.settings) (set_of old.function k)) bytes
    ∙ after_knob old.function (request_state old.controls old.settings) k value sound store knob in
    record {
      function = made.function;
      settings = ap (λ (h : RequestState). h.settings) (made.held ∙ left);
      controls = ap (λ (h : RequestState). h.controls) (made.held ∙ left);
      stands = λ w stands.
          let here : DeviceStands new (with_held w (after_request w.function (request_state w.controls w.settings) p sent)) =
          subst (λ (v : DeviceWorld). DeviceStands new v) (controlled_held p sent w (ap sets_interface setup ∙ knob_sets_none old.function k)) (made.stands w stands) in
          let is : after_request w.function (request_state w.controls w.settings) p sent ≡ request_state (controls_turned outcome k value w.controls) w.settings =
          same_left old w p sent stands ∙ left
          ∙ ap (λ (c : List (Key × ℤ)). request_state (controls_turned outcome k value c) old.settings) stands.controls
          ∙ ap (λ (s : List InterfaceSetting). request_state (controls_turned outcome k value w.controls) s) stands.settings in
          subst (λ (h : RequestState). DeviceStands new (with_held w h)) is here;
    }

-- what the device answers it
pub device_told : (old new : DeviceFields) (k : Key) (value : ℤ) (p : Setup) (sent : List ℕ) (told : AnswerFields) → p ≡ set_of old.function k → sent ≡ knob_bytes old.function k value
    → IsControlled p sent told old new → told ≡ option_map_or is_stalled (knob_rule old.function (request_state old.controls old.settings) k value) is_done
device_told old new k value p sent told setup bytes made =
    made.answer
    ∙ ap (λ (q : Setup). reply_of old.function (request_state old.controls old.settings) q sent) setup
    ∙ ap (reply_of old.function (request_state old.controls old.settings) (set_of old.function k)) bytes
    ∙ knob_reply old.function (request_state old.controls old.settings) k value

-- what comes of a knob, by what the device answers and by whether it had the value
pub turned_told : (old new : DeviceFields) (k : Key) (value : ℤ) (p : Setup) (sent : List ℕ) (told : AnswerFields) (o : KnobOutcome) (has : Bool)
    → p ≡ set_of old.function k → sent ≡ knob_bytes old.function k value → IsControlled p sent told old new → has ≡ has_value old.controls k value
    → ((broken : Option ℕ) → told ≡ option_map_or is_stalled broken is_done → o ≡ outcome_by broken has)
    → o ≡ knob_outcome old.function (request_state old.controls old.settings) k value
turned_told old new k value p sent told o has setup bytes made had came =
    let rule : Option ℕ = knob_rule old.function (request_state old.controls old.settings) k value in
    came rule (device_told old new k value p sent told setup bytes made) ∙ ap (outcome_by rule) had

-- what a knob sends, from its parts
pub bytes_sent : (f g : FunctionFields) (k : Key) (value : ℤ) (width : ℕ) (made sent : List ℕ) → g ≡ f → width ≡ width_at g.entities k → made ≡ value_bytes width value → sent ≡ made
    → sent ≡ knob_bytes f k value
bytes_sent f g k value width made sent same wide is all =
    all ∙ is ∙ ap (λ (n : ℕ). value_bytes n value) (wide ∙ ap (λ (h : FunctionFields). width_at h.entities k) same)

pub setup_made : (f g : FunctionFields) (k : Key) (p : Setup) → g ≡ f → p ≡ set_of g k → p ≡ set_of f k
setup_made f g k p same is = is ∙ ap (λ (h : FunctionFields). set_of h k) same
