-- What a request changes of the controls, and what it is told.
use Rattle.std.proofs.Common.{◌≡◌, ◌∙◌, refl, ap, sym, ℕ, ◌⊎◌, ◌==◌, Bool, true, false, if◌then◌else◌, List, Option, Some, None, is_some, inl, inr, take}
use Rattle.std.specs.Option.{option_map, option_map_or}
use Rattle.std.proofs.lemmas.Bool.{and_parts, cases_Bool, eqb-true}
use Rattle.uac_entities.specs.EntityInterfaces.{entity_by_id}
use Rattle.uac_entities.specs.declared.entity.Entity.{Entity}
use Rattle.uac_entities.specs.declared.stream.StreamInterface.{StreamInterface}
use Rattle.uac_topology.specs.Function.{FunctionFields, interface_in}
use Rattle.uac_store.specs.StoreControls.{IsStoreOf}
use Rattle.uac_store.specs.Keyed.{with_value}
use Rattle.uac_request.specs.Requests.{RequestState, after_request, unbroken_reply, by_entity, by_streaming_interface, controls_set, cur_named, first_broken, high, is_done, is_stalled, key_named, left_by, low, owner_of, reply_of, sent_value, sets_cur, sets_interface, with_bytes}
use Rattle.uac_request.specs.declared.setup.Setup.{Setup}
use Rattle.uac_alt.specs.AltSettings.{with_setting}
use Rattle.uac_request.proofs.RequestsRuleLemmas.{answered_cur, answered_set, left_cur, left_set}
use Rattle.uac_request.proofs.RequestsLemmas.{IsSet, is_set, set_leaves}

-- ---- what is set

-- a control of an entity was set
pub record WasSet (f : FunctionFields) (h : RequestState) (p : Setup) (sent : List ℕ) : Type 0 where
  pub type' : p.request_type ≡ 33
  pub number : p.request ≡ 1
  pub set : IsSet f h p sent
  pub controls : (after_request f h p sent).controls ≡ with_value h.controls (key_named p) (sent_value (by_entity set.e) (high p.value) sent)
  pub told : reply_of f h p sent ≡ is_done

-- no control was set; a request to set one was stalled
pub record WasLeft (f : FunctionFields) (h : RequestState) (p : Setup) (sent : List ℕ) : Type 0 where
  pub controls : (after_request f h p sent).controls ≡ h.controls
  pub told : p.request_type ≡ 33 → p.request ≡ 1 → (rule : ℕ) × (reply_of f h p sent ≡ is_stalled rule)

module _ (f : FunctionFields) (h : RequestState) (p : Setup) (sent : List ℕ) where
  -- a request that breaks a rule, and one that breaks none
  broken_after : (rule : ℕ) → first_broken f h p sent ≡ Some rule → after_request f h p sent ≡ h
  unfolding after_request
  broken_after rule is = ap (λ (o : Option ℕ). if is_some o then h else left_by f h p sent) is

  broken_told : (rule : ℕ) → first_broken f h p sent ≡ Some rule → reply_of f h p sent ≡ is_stalled rule
  unfolding reply_of
  broken_told rule is = ap (λ (o : Option ℕ). option_map_or is_stalled o (unbroken_reply f h p)) is

  met_after : first_broken f h p sent ≡ None → after_request f h p sent ≡ left_by f h p sent
  unfolding after_request
  met_after none = ap (λ (o : Option ℕ). if is_some o then h else left_by f h p sent) none

  met_told : first_broken f h p sent ≡ None → reply_of f h p sent ≡ unbroken_reply f h p
  unfolding reply_of
  met_told none = ap (λ (o : Option ℕ). option_map_or is_stalled o (unbroken_reply f h p)) none

  -- a request for a value leaves the controls, broken or not
  pub get_after : p.request_type ≡ 161 → (after_request f h p sent).controls ≡ h.controls
  unfolding after_request
  get_after type = from (is_some (first_broken f h p sent)) where
    from : (b : Bool) → (if b then h else left_by f h p sent).controls ≡ h.controls
    from true = refl
    from false = ap (λ (l : RequestState). l.controls) (left_cur f h p sent type)

  pub get_reply : p.request_type ≡ 161 → p.request ≡ 1 → reply_of f h p sent ≡ option_map_or is_stalled (first_broken f h p sent) (with_bytes (take p.length (cur_named f h p)))
  unfolding reply_of
  get_reply type number = ap (option_map_or is_stalled (first_broken f h p sent)) (answered_cur f h p type number)

  -- a request that sets one is done or stalled
  pub set_reply : p.request_type ≡ 33 → p.request ≡ 1 → (reply_of f h p sent ≡ is_done) ⊎ ((rule : ℕ) × (reply_of f h p sent ≡ is_stalled rule))
  set_reply type number = from (first_broken f h p sent) refl where
    from : (o : Option ℕ) → first_broken f h p sent ≡ o → (reply_of f h p sent ≡ is_done) ⊎ ((rule : ℕ) × (reply_of f h p sent ≡ is_stalled rule))
    from (Some rule) is = inr (rule, broken_told rule is)
    from None is = inl (met_told is ∙ answered_set f h p type number)

  named_by : sets_cur p ≡ true → (p.request_type ≡ 33) × (p.request ≡ 1)
  named_by is = (let parts = and_parts (p.request_type == 33) (p.request == 1) is in (eqb-true p.request_type 33 parts.0, eqb-true p.request 1 parts.1))

  -- what sets no control leaves them
  unset_left : sets_cur p ≡ false → (left_by f h p sent).controls ≡ h.controls
  unfolding left_by
  unset_left other = from (sets_cur p) (sets_interface p) other where
    from : (s i : Bool) → s ≡ false
        → (if s then record h { controls = controls_set f h p sent } else if i then record h { settings = with_setting h.settings p.index p.value } else h).controls ≡ h.controls
    from true i is = cc
    from false true is = refl
    from false false is = refl

  -- a request changes no control, or sets one of an entity
  pub changes : IsStoreOf f.entities h.controls → WasLeft f h p sent ⊎ WasSet f h p sent
  changes store = from (first_broken f h p sent) refl where
    unbroken : first_broken f h p sent ≡ None → (s : Bool) → sets_cur p ≡ s → WasLeft f h p sent ⊎ WasSet f h p sent
    unbroken none true is =
        let key_is = named_by is in
        let set : IsSet f h p sent = is_set f h p sent store key_is.0 key_is.1 none in
        inr (record {
          type' = key_is.0;
          number = key_is.1;
          set = set;
          controls = ap (λ (l : RequestState). l.controls) (met_after none ∙ left_set f h p sent key_is.0 key_is.1) ∙ set_leaves f h p sent set.e set.owner;
          told = met_told none ∙ answered_set f h p key_is.0 key_is.1;
        })
    unbroken none false is = inl (record {
      controls = ap (λ (l : RequestState). l.controls) (met_after none) ∙ unset_left is;
      told = λ type number. (let yes : sets_cur p ≡ true = rw (type, number) refl in let no : false ≡ true = sym is ∙ yes in cc);
    })

    from : (o : Option ℕ) → first_broken f h p sent ≡ o → WasLeft f h p sent ⊎ WasSet f h p sent
    from (Some rule) is = inl (record { controls = ap (λ (l : RequestState). l.controls) (broken_after rule is); told = λ type number. (rule, broken_told rule is) })
    from None is = unbroken is (sets_cur p) refl

-- ---- what keeps a control

by_stream_alone : (found : Option StreamInterface) (e : Entity) → option_map by_streaming_interface found ≡ Some (by_entity e) → false ≡ true
by_stream_alone (Some s) e same = cc
by_stream_alone None e same = cc

pub on_control : (f : FunctionFields) (index : ℕ) (e : Entity) → owner_of f index ≡ Some (by_entity e) → (low index == f.control_interface) ≡ true
unfolding owner_of
on_control f index e is = elim (cases_Bool (low index == f.control_interface)) [
  | inl own ↦ own
  | inr other ↦ elim (cases_Bool (high index == 0)) [
    | inl none_named ↦ (let stream : option_map by_streaming_interface (interface_in f (low index)) ≡ Some (by_entity e) = rw (other, none_named) at is in let no : false ≡ true = by_stream_alone (interface_in f (low index)) e stream in cc)
    | inr more ↦ (let none : None ≡ Some (by_entity e) = rw (other, more) at is in cc)
  ]
]

-- what keeps the control of an entity that is named on the control interface
pub owner_is : (f : FunctionFields) (index : ℕ) (e : Entity) → (low index == f.control_interface) ≡ true → entity_by_id f.entities (high index) ≡ Some e → owner_of f index ≡ Some (by_entity e)
unfolding owner_of
owner_is f index e own is = rw (own, is) refl
