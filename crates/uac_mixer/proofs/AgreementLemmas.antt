-- What is known of a device stays so.
use Rattle.std.proofs.Common.{◌≡◌, ◌∙◌, refl, ap, sym, subst, ℕ, ◌==◌, ◌&&◌, Bool, true, false, if◌then◌else◌, ℤ, pos, List, [], length, take, slice_index_or, Option, Some, None, is_some, unwrap_or, IfSome, arith, inl, inr, w32, FitsSigned}
use Rattle.std.specs.List.{All}
use Rattle.std.specs.Option.{option_map_or}
use Rattle.std.proofs.lemmas.Bool.{and_parts, cases_lt, eqb-true, eq-eqb}
use Rattle.std.proofs.lemmas.List.{take_all, length-take-le}
use Rattle.std.proofs.lemmas.List.Elements.{All-map}
use Rattle.uac_entities.specs.EntityInterfaces.{entity_by_id}
use Rattle.uac_entities.specs.declared.entity.Entity.{Entity}
use Rattle.uac_topology.specs.Function.{FunctionFields}
use Rattle.uac_store.specs.declared.keys.Key.{Key}
use Rattle.uac_store.specs.StoreControls.{IsStoreOf, has_control, has_on, takes, takes_on}
use Rattle.uac_store.specs.Keyed.{same_key, value_of}
use Rattle.uac_store.proofs.KeyedLemmas.{changed_alone, key_itself, one_key}
use Rattle.uac_request.specs.Requests.{RequestState, Owner, AnswerFields, after_request, by_entity, cur_bytes, cur_named, entity_width, first_broken, high, is_done, is_signed, is_stalled, key_named, low, owner_of, reply_of, sent_value, value_bytes, value_from, with_bytes, with_descriptor}
use Rattle.uac_request.specs.declared.setup.Setup.{Setup}
use Rattle.uac_mixer.specs.declared.element.Element.{Element}
use Rattle.uac_mixer.specs.MixerElements.{fits_element, is_gain, width_of}
use Rattle.uac_mixer.specs.ViewTransfers.{after_get, after_set, element_after, gets, is_for, sets, value_after, value_in, view_after}
use Rattle.uac_mixer.specs.ViewWorld.{ViewWorld}
use Rattle.uac_mixer.specs.Agreement.{IsAgreed, KnownValuesStay, StaysAgreed}
use Rattle.uac_mixer.specs.Readable.{IsReadable}
use Rattle.uac_mixer.proofs.MixerElementsByteLemmas.{comes_back, few, whole}
use Rattle.uac_mixer.proofs.MixerElementsLemmas.{Agrees, agrees, narrow}
use Rattle.uac_mixer.proofs.MixerElementsListLemmas.{IsElementOf, members}
use Rattle.uac_mixer.proofs.AgreementStartLemmas.{stays}
use Rattle.uac_mixer.proofs.RequestsLemmas.{WasSet, changes, get_after, get_reply, on_control, owner_is}

-- ---- keys

pub same_keys : (k l : Key) → k ≡ l → same_key k l ≡ true
same_keys k l is = subst (λ m. same_key k m ≡ true) is (key_itself k)

-- ---- an element's control

pub record IsHeldAs (entities : List Entity) (controls : List (Key × ℤ)) (x : Element) : Type 0 where
  pub value : ℤ
  pub is : value_of controls x.key ≡ Some value
  pub fits : fits_element x.kind value ≡ true

-- it has a value, which its bytes hold
pub held_as : (entities : List Entity) (controls : List (Key × ℤ)) (x : Element) → IsStoreOf entities controls → IsElementOf entities x → IsHeldAs entities controls x
unfolding has_control has_on takes takes_on
held_as entities controls x store m = from (value_of controls x.key) refl where
  kinds : Agrees m.entity.kind x.key.selector x.kind
  kinds = agrees m.entity.kind x.key.selector x.kind m.shows

  there : is_some (value_of controls x.key) ≡ true
  there = store.keys x.key ∙ rw (m.found, kinds.above, kinds.kept, m.channel) refl

  from : (o : Option ℤ) → value_of controls x.key ≡ o → IsHeldAs entities controls x
  from None is = (let no : false ≡ true = sym (ap is_some is) ∙ there in cc)
  from (Some v) is = record {
    value = v;
    is = is;
    fits = kinds.fits (length m.entity.sources) m.entity.attributes v (sym (ap (λ (o : Option Entity). option_map_or (takes_on x.key.selector v) o false) m.found) ∙ store.values x.key v is);
  }

-- ---- transfers of an element

pub record IsRequestFor (type control : ℕ) (p : Setup) (x : Element) : Type 0 where
  pub type' : p.request_type ≡ type
  pub request' : p.request ≡ 1
  pub on : (low p.index == control) ≡ true
  pub key' : x.key ≡ key_named p

pub is_request : (type control : ℕ) (p : Setup) (x : Element) → is_for type control p x ≡ true → IsRequestFor type control p x
unfolding is_for
is_request type control p x is =
    let a = and_parts (p.request_type == type) _ is in
    let b = and_parts (p.request == 1) _ a.1 in
    let c = and_parts (low p.index == control) _ b.1 in
    record {
      type' = eqb-true p.request_type type a.0;
      request' = eqb-true p.request 1 b.0;
      on = c.0;
      key' = one_key x.key (key_named p) c.1;
    }

pub all_four : (a b c d : Bool) → a ≡ true → b ≡ true → c ≡ true → d ≡ true → (a && (b && (c && d))) ≡ true
all_four a b c d i j k l = rw (i, j, k, l) refl

taken_whole : (n w : ℕ) (ys : List ℕ) → length ys ≡ w → length (take n ys) ≡ w → take n ys ≡ ys
taken_whole n w ys long short = elim (cases_lt n (length ys)) [
  | inl below ↦ (let l : length (take n ys) ≡ n = length-take-le n ys (omega arith) in absurd (omega arith))
  | inr past ↦ take_all n ys past
]

-- a known value stays where the control does
still_known : (o : Option ℤ) (a b : Option ℤ) → b ≡ a → IfSome o (λ v. a ≡ Some v) → IfSome o (λ v. b ≡ Some v)
still_known None a b same known = tt
still_known (Some v) a b same known = same ∙ known

-- ---- one element

module _ (f : FunctionFields) (h : RequestState) (p : Setup) (sent : List ℕ) (x : Element) (store : IsStoreOf f.entities h.controls) (m : IsElementOf f.entities x) where
  pub kinds : Agrees m.entity.kind x.key.selector x.kind
  kinds = agrees m.entity.kind x.key.selector x.kind m.shows

  abbrev pub held : IsHeldAs f.entities h.controls x
  held = held_as f.entities h.controls x store m

  -- its entity keeps the control that the request names
  own : (type : ℕ) → IsRequestFor type f.control_interface p x → owner_of f p.index ≡ Some (by_entity m.entity)
  own type r = owner_is f p.index m.entity r.on (subst (λ (k : Key). entity_by_id f.entities k.entity ≡ Some m.entity) r.key' m.found)

  -- the bytes of its control
  pub control_bytes : (type : ℕ) → IsRequestFor type f.control_interface p x → cur_named f h p ≡ value_bytes (width_of x.kind) held.value
  unfolding cur_bytes
  control_bytes type r =
      let value : value_of h.controls (key_named p) ≡ Some held.value = subst (λ (k : Key). value_of h.controls k ≡ Some held.value) r.key' held.is in
      ap (λ (o : Option Owner). option_map_or (cur_bytes f h p) o []) (own type r)
      ∙ kinds.told m.entity h.controls (key_named p) (sym (ap (λ (k : Key). k.selector) r.key'))
      ∙ ap (λ (o : Option ℤ). value_bytes (width_of x.kind) (unwrap_or o (pos 0))) value

  get_answered : (q : Option ℕ) (all bytes : List ℕ) → option_map_or is_stalled q (with_bytes all) ≡ with_bytes bytes → all ≡ bytes
  get_answered None all bytes is = cc
  get_answered (Some rule) all bytes is = cc

  -- a get that is answered with all bytes tells the value
  pub get_tells : (bytes : List ℕ) → gets f.control_interface p x ≡ true → reply_of f h p sent ≡ with_bytes bytes → length bytes ≡ width_of x.kind → value_in x bytes ≡ held.value
  get_tells bytes asks is long =
      let r = is_request 161 f.control_interface p x asks in
      let cut : take p.length (cur_named f h p) ≡ bytes =
      get_answered (first_broken f h p sent) (take p.length (cur_named f h p)) bytes (sym (get_reply f h p sent r.type' r.request') ∙ is) in
      let all : take p.length (value_bytes (width_of x.kind) held.value) ≡ bytes = ap (take p.length) (sym (control_bytes 161 r)) ∙ cut in
      let whole_one : take p.length (value_bytes (width_of x.kind) held.value) ≡ value_bytes (width_of x.kind) held.value =
      taken_whole p.length (width_of x.kind) (value_bytes (width_of x.kind) held.value) (whole x.kind held.value) (ap length all ∙ long) in
      ap (value_from (is_gain x.kind)) (sym all ∙ whole_one) ∙ comes_back x.kind held.value held.fits

  -- a get changes no control
  get_leaves : gets f.control_interface p x ≡ true → (after_request f h p sent).controls ≡ h.controls
  get_leaves asks = (let r = is_request 161 f.control_interface p x asks in get_after f h p sent r.type')

  -- a request that doesn't set it changes its control not
  unset : sets f.control_interface p x ≡ false → value_of (after_request f h p sent).controls x.key ≡ value_of h.controls x.key
  unfolding is_for
  unset other = elim (changes f h p sent store) [
    | inl same ↦ ap (λ (c : List (Key × ℤ)). value_of c x.key) same.controls
    | inr w ↦ ap (λ (c : List (Key × ℤ)). value_of c x.key) w.controls
        ∙ changed_alone h.controls (key_named p) (sent_value (by_entity w.set.e) (high p.value) sent) w.set.there x.key
        ∙ from w (same_key (key_named p) x.key) refl
  ] where
    from : (w : WasSet f h p sent) (b : Bool) → same_key (key_named p) x.key ≡ b
        → (if b then Some (sent_value (by_entity w.set.e) (high p.value) sent) else value_of h.controls x.key) ≡ value_of h.controls x.key
    from w false apart = refl
    from w true same =
        let key : x.key ≡ key_named p = sym (one_key (key_named p) x.key same) in
        let sets_it : sets f.control_interface p x ≡ true =
        all_four (p.request_type == 33) (p.request == 1) (low p.index == f.control_interface) (same_key x.key (key_named p)) (eq-eqb p.request_type 33 w.type') (eq-eqb p.request 1 w.number) (on_control f p.index w.set.e w.set.owner) (same_keys x.key (key_named p) key) in
        let no : false ≡ true = sym other ∙ sets_it in
        cc

  same_entity : (w : WasSet f h p sent) → IsRequestFor 33 f.control_interface p x → w.set.e ≡ m.entity
  same_entity w r = (let owner : Some (by_entity w.set.e) ≡ Some (by_entity m.entity) = sym w.set.owner ∙ own 33 r in cc)

  -- all bytes of its control are sent
  set_long : (w : WasSet f h p sent) → sets f.control_interface p x ≡ true → length sent ≡ width_of x.kind
  set_long w asks =
      let r = is_request 33 f.control_interface p x asks in
      let selector : high p.value ≡ x.key.selector = sym (ap (λ (k : Key). k.selector) r.key') in
      w.set.taken.whole
      ∙ ap (λ (o : Option ℕ). unwrap_or o 0) (ap (λ (e : Entity). entity_width e.kind (high p.value)) (same_entity w r) ∙ ap (entity_width m.entity.kind) selector ∙ kinds.width)

  -- a set that is done sets it
  set_by : (w : WasSet f h p sent) → sets f.control_interface p x ≡ true → value_of (after_request f h p sent).controls x.key ≡ Some (value_in x sent)
  set_by w asks =
      let r = is_request 33 f.control_interface p x asks in
      let entity : w.set.e ≡ m.entity = same_entity w r in
      let selector : high p.value ≡ x.key.selector = sym (ap (λ (k : Key). k.selector) r.key') in
      let signed : is_signed w.set.e.kind (high p.value) ≡ is_gain x.kind =
      ap (λ (e : Entity). is_signed e.kind (high p.value)) entity ∙ ap (is_signed m.entity.kind) selector ∙ kinds.signed in
      ap (λ (c : List (Key × ℤ)). value_of c x.key) w.controls
      ∙ changed_alone h.controls (key_named p) (sent_value (by_entity w.set.e) (high p.value) sent) w.set.there x.key
      ∙ ap (λ (b : Bool). if b then Some (sent_value (by_entity w.set.e) (high p.value) sent) else value_of h.controls x.key) (same_keys (key_named p) x.key (sym r.key'))
      ∙ ap (λ (b : Bool). Some (value_from b sent)) signed

  set_done : reply_of f h p sent ≡ is_done → sets f.control_interface p x ≡ true → value_of (after_request f h p sent).controls x.key ≡ Some (value_in x sent)
  set_done told asks = elim (changes f h p sent store) [
    | inl same ↦ (let r = is_request 33 f.control_interface p x asks in let stall = same.told r.type' r.request' in let no : is_done ≡ is_stalled stall.0 = sym told ∙ stall.1 in cc)
    | inr w ↦ set_by w asks
  ]

  done_long : reply_of f h p sent ≡ is_done → sets f.control_interface p x ≡ true → length sent ≡ width_of x.kind
  done_long told asks = elim (changes f h p sent store) [
    | inl same ↦ (let r = is_request 33 f.control_interface p x asks in let stall = same.told r.type' r.request' in let no : is_done ≡ is_stalled stall.0 = sym told ∙ stall.1 in cc)
    | inr w ↦ set_long w asks
  ]

  -- and its value is one of 32 bits
  done_fits : reply_of f h p sent ≡ is_done → sets f.control_interface p x ≡ true → FitsSigned w32 (value_in x sent)
  done_fits told asks =
      let after = held_as f.entities (after_request f h p sent).controls x (stays f h p sent store) m in
      let same : Some after.value ≡ Some (value_in x sent) = sym after.is ∙ set_done told asks in
      let value : after.value ≡ value_in x sent = cc in
      subst (FitsSigned w32) value (narrow x.kind after.value after.fits)

  -- a set that isn't done leaves it
  set_not_done : (t : AnswerFields) → (t ≡ is_done → false ≡ true) → reply_of f h p sent ≡ t → value_of (after_request f h p sent).controls x.key ≡ value_of h.controls x.key
  set_not_done t other told = elim (changes f h p sent store) [
    | inl same ↦ ap (λ (c : List (Key × ℤ)). value_of c x.key) same.controls
    | inr w ↦ (let no : false ≡ true = other (sym told ∙ w.told) in cc)
  ]

  get_known : (b : Bool) (bytes : List ℕ) → gets f.control_interface p x ≡ true → reply_of f h p sent ≡ with_bytes bytes → (length bytes == width_of x.kind) ≡ b
      → IfSome x.value (λ v. value_of h.controls x.key ≡ Some v)
      → IfSome (if b then Some (value_in x bytes) else x.value) (λ v. value_of (after_request f h p sent).controls x.key ≡ Some v)
  get_known true bytes asks told long known =
      ap (λ (c : List (Key × ℤ)). value_of c x.key) (get_leaves asks) ∙ held.is
      ∙ ap (λ (v : ℤ). Some v) (sym (get_tells bytes asks told (eqb-true (length bytes) (width_of x.kind) long)))
  get_known false bytes asks told short known =
      still_known x.value (value_of h.controls x.key) (value_of (after_request f h p sent).controls x.key) (ap (λ (c : List (Key × ℤ)). value_of c x.key) (get_leaves asks)) known

  set_known : (t : AnswerFields) → sets f.control_interface p x ≡ true → reply_of f h p sent ≡ t → IfSome x.value (λ v. value_of h.controls x.key ≡ Some v)
      → IfSome (after_set x sent (Some t)) (λ v. value_of (after_request f h p sent).controls x.key ≡ Some v)
  set_known (with_bytes bytes) asks told known = still_known x.value _ _ (set_not_done (with_bytes bytes) (λ no. cc) told) known
  set_known (with_descriptor from to) asks told known = still_known x.value _ _ (set_not_done (with_descriptor from to) (λ no. cc) told) known
  set_known is_done asks told known = set_done told asks
  set_known (is_stalled rule) asks told known = still_known x.value _ _ (set_not_done (is_stalled rule) (λ no. cc) told) known

  get_any_known : (t : AnswerFields) → gets f.control_interface p x ≡ true → reply_of f h p sent ≡ t → IfSome x.value (λ v. value_of h.controls x.key ≡ Some v)
      → IfSome (after_get x (Some t)) (λ v. value_of (after_request f h p sent).controls x.key ≡ Some v)
  get_any_known (with_bytes bytes) asks told known = get_known (length bytes == width_of x.kind) bytes asks told refl known
  get_any_known (with_descriptor from to) asks told known = still_known x.value _ _ (ap (λ (c : List (Key × ℤ)). value_of c x.key) (get_leaves asks)) known
  get_any_known is_done asks told known = still_known x.value _ _ (ap (λ (c : List (Key × ℤ)). value_of c x.key) (get_leaves asks)) known
  get_any_known (is_stalled rule) asks told known = still_known x.value _ _ (ap (λ (c : List (Key × ℤ)). value_of c x.key) (get_leaves asks)) known

  -- known is known, whatever came back
  pub answered_known : IfSome x.value (λ v. value_of h.controls x.key ≡ Some v)
      → IfSome (value_after f.control_interface p sent (Some (reply_of f h p sent)) x) (λ v. value_of (after_request f h p sent).controls x.key ≡ Some v)
  unfolding value_after
  answered_known known = by_kind (sets f.control_interface p x) (gets f.control_interface p x) refl refl where
    by_kind : (s g : Bool) → sets f.control_interface p x ≡ s → gets f.control_interface p x ≡ g
        → IfSome (if s then after_set x sent (Some (reply_of f h p sent)) else if g then after_get x (Some (reply_of f h p sent)) else x.value) (λ v. value_of (after_request f h p sent).controls x.key ≡ Some v)
    by_kind true g asks also = set_known (reply_of f h p sent) asks refl known
    by_kind false true other asks = get_any_known (reply_of f h p sent) asks refl known
    by_kind false false other neither = still_known x.value _ _ (unset other) known

  pub broken_known : (controls : List (Key × ℤ)) → (sets f.control_interface p x ≡ false → value_of controls x.key ≡ value_of h.controls x.key) → IfSome x.value (λ v. value_of h.controls x.key ≡ Some v)
      → IfSome (value_after f.control_interface p sent None x) (λ v. value_of controls x.key ≡ Some v)
  unfolding value_after
  broken_known controls same known = by_kind (sets f.control_interface p x) (gets f.control_interface p x) refl where
    by_kind : (s g : Bool) → sets f.control_interface p x ≡ s
        → IfSome (if s then after_set x sent None else if g then after_get x None else x.value) (λ v. value_of controls x.key ≡ Some v)
    by_kind true g asks = tt
    by_kind false true other = still_known x.value _ _ (same other) known
    by_kind false false other = still_known x.value _ _ (same other) known

  pub broken_after_known : IfSome x.value (λ v. value_of h.controls x.key ≡ Some v)
      → IfSome (value_after f.control_interface p sent None x) (λ v. value_of (after_request f h p sent).controls x.key ≡ Some v)
  broken_after_known known = broken_known (after_request f h p sent).controls unset known

-- ---- the view

mapped : (before after : List (Key × ℤ)) (f : FunctionFields) (p : Setup) (sent : List ℕ) (came : Option AnswerFields) (view : ViewWorld)
    → ((x : Element) → IsElementOf f.entities x → IfSome x.value (λ v. value_of before x.key ≡ Some v) → IfSome (value_after f.control_interface p sent came x) (λ v. value_of after x.key ≡ Some v))
    → All (IsElementOf f.entities) view.elements → IsAgreed before view → IsAgreed after (view_after f.control_interface p sent came view)
unfolding view_after
mapped before after f p sent came view each are agreed =
    All-map (λ x. IfSome x.value (λ v. value_of after x.key ≡ Some v)) (element_after f.control_interface p sent came) view.elements
    (λ k d within. each (slice_index_or view.elements k d) (are k d within) (agreed k d within))

pub agreement : (f : FunctionFields) (h : RequestState) (p : Setup) (sent : List ℕ) (view : ViewWorld) → IsStoreOf f.entities h.controls → All (IsElementOf f.entities) view.elements → IsAgreed h.controls view
    → StaysAgreed f h p sent view
agreement f h p sent view store are agreed = record {
  answered = mapped h.controls (after_request f h p sent).controls f p sent (Some (reply_of f h p sent)) view (λ x m known. answered_known f h p sent x store m known) are agreed;
  broken_after = mapped h.controls (after_request f h p sent).controls f p sent None view (λ x m known. broken_after_known f h p sent x store m known) are agreed;
  broken_before = mapped h.controls h.controls f p sent None view (λ x m known. broken_known f h p sent x store m h.controls (λ other. refl) known) are agreed;
}

pub stays_known : KnownValuesStay
stays_known f h p sent view sound store is agreed = agreement f h p sent view store (members f view sound is) agreed

-- ---- values that are read

pub readable : (f : FunctionFields) (h : RequestState) (p : Setup) (sent : List ℕ) (came : Option AnswerFields) (view : ViewWorld) → IsStoreOf f.entities h.controls → All (IsElementOf f.entities) view.elements
    → ((told : AnswerFields) → came ≡ Some told → told ≡ reply_of f h p sent) → All (IsReadable f.control_interface p sent came) view.elements
readable f h p sent came view store are tells = λ k d within. one (slice_index_or view.elements k d) (are k d within) where
  one : (x : Element) → IsElementOf f.entities x → IsReadable f.control_interface p sent came x
  one x m = record {
    short = λ asks is. (let long : length sent ≡ width_of x.kind = done_long f h p sent x store m (sym (tells is_done is)) asks in let most = few x.kind in omega arith);
    sent_fits = λ asks is. done_fits f h p sent x store m (sym (tells is_done is)) asks;
    told_fits = λ bytes asks is long. subst (FitsSigned w32) (sym (get_tells f h p sent x store m bytes asks (sym (tells (with_bytes bytes) is)) long)) (narrow x.kind (held f h p sent x store m).value (held f h p sent x store m).fits);
  }
