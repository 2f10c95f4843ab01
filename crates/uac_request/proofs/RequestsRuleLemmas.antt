-- The rules of each request: of the twelve, those that speak of it.
use Rattle.std.proofs.Common.{◌≡◌, refl, ℕ, ◌==◌, ◌&&◌, not, nat_le, Bool, true, false, if◌then◌else◌, List, [], ◌∷◌, take, Some, None, unwrap_or, arith}
use Rattle.std.proofs.Math.Bool.{or-false}
use Rattle.uac_topology.specs.Function.{FunctionFields}
use Rattle.uac_alt.specs.AltSettings.{setting_of, with_setting}
use Rattle.uac_request.specs.declared.setup.Setup.{Setup}
use Rattle.uac_request.specs.Owners.{get_rules, set_rules}
use Rattle.uac_request.specs.Requests.{unbroken_reply, breaks_q1, breaks_q2, breaks_q3, breaks_q4, breaks_q5, breaks_q6, breaks_q7, breaks_q8, breaks_q9, breaks_q10, breaks_q11, breaks_q12, can_hold, controls_set, cur_named, first_broken, has_interface, has_setting, RequestState, is_done, is_empty, is_to_control, is_to_interface, least, left_by, low, owner_of, Owner, ranges_named, with_bytes, with_descriptor}

-- ---- answers, and what is left

module _ (function : FunctionFields) (held : RequestState) (p : Setup) where
  pub answered_cur : p.request_type ≡ 161 → p.request ≡ 1 → unbroken_reply function held p ≡ with_bytes (take p.length (cur_named function held p))
  unfolding unbroken_reply
  answered_cur type number = rw (type, number) refl

  pub answered_range : p.request_type ≡ 161 → p.request ≡ 2 → unbroken_reply function held p ≡ with_bytes (take p.length (ranges_named function p))
  unfolding unbroken_reply
  answered_range type number = rw (type, number) refl

  pub answered_set : p.request_type ≡ 33 → p.request ≡ 1 → unbroken_reply function held p ≡ is_done
  unfolding unbroken_reply
  answered_set type number = rw type refl

  pub answered_descriptor : p.request_type ≡ 128 → p.request ≡ 6 → unbroken_reply function held p ≡ with_descriptor 0 (if nat_le p.length function.total then p.length else function.total)
  unfolding unbroken_reply
  answered_descriptor type number = rw (type, number) refl

  pub answered_interface : p.request_type ≡ 129 → p.request ≡ 10 → unbroken_reply function held p ≡ with_bytes (take p.length (unwrap_or (setting_of held.settings p.index) 0 ∷ []))
  unfolding unbroken_reply
  answered_interface type number = rw (type, number) refl

  pub answered_set_interface : p.request_type ≡ 1 → p.request ≡ 11 → unbroken_reply function held p ≡ is_done
  unfolding unbroken_reply
  answered_set_interface type number = rw type refl

module _ (function : FunctionFields) (held : RequestState) (p : Setup) (sent : List ℕ) where
  pub left_cur : p.request_type ≡ 161 → left_by function held p sent ≡ held
  unfolding left_by
  left_cur type = rw type refl

  pub left_descriptor : p.request_type ≡ 128 → left_by function held p sent ≡ held
  unfolding left_by
  left_descriptor type = rw type refl

  pub left_interface : p.request_type ≡ 129 → left_by function held p sent ≡ held
  unfolding left_by
  left_interface type = rw type refl

  pub left_set : p.request_type ≡ 33 → p.request ≡ 1 → left_by function held p sent ≡ record held { controls = controls_set function held p sent }
  unfolding left_by
  left_set type number = rw (type, number) refl

  pub left_set_interface : p.request_type ≡ 1 → p.request ≡ 11 → left_by function held p sent ≡ record held { settings = with_setting held.settings p.index p.value }
  unfolding left_by
  left_set_interface type number = rw (type, number) refl

  -- ---- rules

  pub first_unknown : breaks_q1 p ≡ true → first_broken function held p sent ≡ Some 1
  unfolding first_broken
  first_unknown unknown = rw unknown refl

  pub first_descriptor : p.request_type ≡ 128 → p.request ≡ 6 → first_broken function held p sent ≡ least ((4, not (p.value == 512)) ∷ (8, not (is_empty sent)) ∷ [])
  unfolding first_broken breaks_q1 breaks_q2 breaks_q3 breaks_q4 breaks_q5 breaks_q6 breaks_q7 breaks_q8 breaks_q9 breaks_q10 breaks_q11 breaks_q12
  first_descriptor type number = rw (type, number) (simp or-false)

  pub first_interface : p.request_type ≡ 129 → p.request ≡ 10 → first_broken function held p sent ≡ least ((2, not (has_interface function p.index)) ∷ (8, not (is_empty sent)) ∷ [])
  unfolding first_broken breaks_q1 breaks_q2 breaks_q3 breaks_q4 breaks_q5 breaks_q6 breaks_q7 breaks_q8 breaks_q9 breaks_q10 breaks_q11 breaks_q12
  first_interface type number = rw (type, number) (simp or-false)

  pub first_set_interface : p.request_type ≡ 1 → p.request ≡ 11 → first_broken function held p sent
      ≡ least ((2, not (has_interface function p.index)) ∷ (8, not (p.length == 0 && is_empty sent)) ∷ (11, not (has_setting function p.index p.value)) ∷ (12, not (can_hold function held.controls p.index p.value)) ∷ [])
  unfolding first_broken breaks_q1 breaks_q2 breaks_q3 breaks_q4 breaks_q5 breaks_q6 breaks_q7 breaks_q8 breaks_q9 breaks_q10 breaks_q11 breaks_q12
  first_set_interface type number = rw (type, number) refl

  -- a request to a control, on no interface of the function, and of what isn't there
  not_both : is_to_control p ≡ true → is_to_interface p ≡ false
  not_both control = grind arith

  pub no_interface : is_to_control p ≡ true → has_interface function (low p.index) ≡ false → first_broken function held p sent ≡ Some 2
  unfolding first_broken breaks_q1 breaks_q2
  no_interface control none = rw (control, none) refl

  pub no_owner : is_to_control p ≡ true → has_interface function (low p.index) ≡ true → owner_of function p.index ≡ None → first_broken function held p sent ≡ Some 3
  unfolding first_broken breaks_q1 breaks_q2 breaks_q3
  no_owner control has none = rw (control, not_both control, has, none) refl

  -- of what is there
  module _ (o : Owner) (has : has_interface function (low p.index) ≡ true) (of : owner_of function p.index ≡ Some o) where
    pub first_cur : p.request_type ≡ 161 → p.request ≡ 1 → first_broken function held p sent ≡ least (get_rules function p sent o false)
    unfolding first_broken breaks_q1 breaks_q2 breaks_q3 breaks_q4 breaks_q5 breaks_q6 breaks_q7 breaks_q8 breaks_q9 breaks_q10 breaks_q11 breaks_q12
    first_cur type number = rw (type, number, has, of) (simp or-false)

    pub first_range : p.request_type ≡ 161 → p.request ≡ 2 → first_broken function held p sent ≡ least (get_rules function p sent o true)
    unfolding first_broken breaks_q1 breaks_q2 breaks_q3 breaks_q4 breaks_q5 breaks_q6 breaks_q7 breaks_q8 breaks_q9 breaks_q10 breaks_q11 breaks_q12
    first_range type number = rw (type, number, has, of) (simp or-false)

    pub first_get : (range : Bool) → p.request_type ≡ 161 → p.request ≡ (if range then 2 else 1) → first_broken function held p sent ≡ least (get_rules function p sent o range)
    first_get true type number = first_range type number
    first_get false type number = first_cur type number

    pub first_set : p.request_type ≡ 33 → p.request ≡ 1 → first_broken function held p sent ≡ least (set_rules function held p sent o)
    unfolding first_broken breaks_q1 breaks_q2 breaks_q3 breaks_q4 breaks_q5 breaks_q6 breaks_q7 breaks_q8 breaks_q9 breaks_q10 breaks_q11 breaks_q12
    first_set type number = rw (type, number, has, of) (simp or-false)
