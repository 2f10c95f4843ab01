-- Why what isn't a SET that is done leaves all of the device as it was.
use Rattle.std.proofs.Common.{◌≡◌, ◌∙◌, sym, ap, subst, refl, ℕ, ◌==◌, Bool, true, false, ◌&&◌, if◌then◌else◌, is_some, List, Option, Some, None}
use Rattle.std.specs.Option.{option_map_or}
use Rattle.std.proofs.lemmas.Bool.{and_parts, eqb-true, true≢false}
use Rattle.uac_topology.specs.Function.{FunctionFields}
use Rattle.uac_alt.specs.AltSettings.{with_setting}
use Rattle.uac_request.specs.Requests.{AnswerFields, RequestState, after_request, controls_set, first_broken, is_done_answer, is_stalled, left_by, reply_of, request_state, sets_cur, sets_interface, unbroken_reply}
use Rattle.uac_request.specs.declared.setup.Setup.{Setup}
use Rattle.uac_request.proofs.RequestsRuleLemmas.{answered_set, answered_set_interface}
use Rattle.uac_device.specs.DeviceWorld.{DeviceWorld, after_control, after_restart, stream_in_setting}
use Rattle.uac_device.specs.DeviceKept.{DeviceFields, DeviceStands, IsControlled}
use Rattle.uac_mixer.specs.Agreement.{OnlySetsChangeTheDevice}

-- what isn't answered that it is done leaves what is held
unset_left : (function : FunctionFields) (held : RequestState) (p : Setup) (sent : List ℕ) → is_done_answer (unbroken_reply function held p) ≡ false
    → left_by function held p sent ≡ held
unfolding left_by
unset_left function held p sent undone = from (sets_cur p) refl (sets_interface p) refl where
  both : (type number : ℕ) → (p.request_type == type && p.request == number) ≡ true → (p.request_type ≡ type) × (p.request ≡ number)
  both type number is = let parts = and_parts _ _ is in (eqb-true p.request_type type parts.0, eqb-true p.request number parts.1)

  from : (a : Bool) → sets_cur p ≡ a → (b : Bool) → sets_interface p ≡ b
      → (if a then record held { controls = controls_set function held p sent } else if b then record held { settings = with_setting held.settings p.index p.value } else held) ≡ held
  from true is b _ =
      let same = both 33 1 is in
      absurd (true≢false (sym (ap is_done_answer (answered_set function held p same.0 same.1)) ∙ undone))
  from false _ true is =
      let same = both 1 11 is in
      absurd (true≢false (sym (ap is_done_answer (answered_set_interface function held p same.0 same.1)) ∙ undone))
  from false _ false _ = refl

unset_held : (function : FunctionFields) (held : RequestState) (p : Setup) (sent : List ℕ) → is_done_answer (reply_of function held p sent) ≡ false
    → after_request function held p sent ≡ held
unfolding reply_of after_request
unset_held function held p sent undone = from (first_broken function held p sent) undone where
  from : (o : Option ℕ) → is_done_answer (option_map_or is_stalled o (unbroken_reply function held p)) ≡ false
      → (if is_some o then held else left_by function held p sent) ≡ held
  from None other = unset_left function held p sent other
  from (Some rule) other = refl

-- the world is the same, too
unset_world : (p : Setup) (sent : List ℕ) (w : DeviceWorld) → is_done_answer (reply_of w.function (request_state w.controls w.settings) p sent) ≡ false
    → after_control p sent w ≡ w
unfolding after_control
unset_world p sent w undone =
    let held = request_state w.controls w.settings in
    let asked : RequestState → DeviceWorld = λ h. record w { controls = h.controls; settings = h.settings } in
    let next = asked (after_request w.function held p sent) in
    ap (λ (b : Bool). if b then after_restart p.index (stream_in_setting w.function w.controls p.index p.value) next else next) (unset (sets_interface p) _ undone)
    ∙ ap asked (unset_held w.function held p sent undone) where
      unset : (a b : Bool) → b ≡ false → (a && b) ≡ false
      unset true b is = is
      unset false b is = refl

same_reply : (p : Setup) (sent : List ℕ) (told : AnswerFields) (old new : DeviceFields) (w : DeviceWorld) → IsControlled p sent told old new → DeviceStands old w
    → told ≡ reply_of w.function (request_state w.controls w.settings) p sent
same_reply p sent told old new w is stands =
    is.answer ∙ ap (λ f. reply_of f (request_state old.controls old.settings) p sent) stands.function
    ∙ ap (λ c. reply_of w.function (request_state c old.settings) p sent) stands.controls
    ∙ ap (λ s. reply_of w.function (request_state w.controls s) p sent) stands.settings

pub only_sets_change : OnlySetsChangeTheDevice
only_sets_change p sent told old new w is undone stands =
    let world = unset_world p sent w (sym (ap is_done_answer (same_reply p sent told old new w is stands)) ∙ undone) in
    let held = is.held ∙ unset_held old.function (request_state old.controls old.settings) p sent (sym (ap is_done_answer is.answer) ∙ undone) in (
      record { function = is.function; controls = ap (λ h. h.controls) held; settings = ap (λ h. h.settings) held },
      subst (λ v. DeviceStands new v) world (is.stands w stands),
    )
