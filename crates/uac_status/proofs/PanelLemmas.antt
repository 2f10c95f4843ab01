-- What an event does to each element.
use Rattle.std.proofs.Common.{◌≡◌, ◌∙◌, refl, ap, sym, subst, ℕ, ◌<◌, ◌==◌, Bool, true, false, if◌then◌else◌, ℤ, List, [], ◌∷◌, length, slice_index_or, Option, Some, None, is_some, IfSome}
use Rattle.std.specs.List.{All, AllByRecursion}
use Rattle.std.specs.Option.{option_map_or}
use Rattle.std.specs.Str.{bytes_eq}
use Rattle.std.proofs.lemmas.Bool.{eq-eqb}
use Rattle.std.proofs.lemmas.List.Elements.{All-from_recursion, All-map, recursion_from_All}
use Rattle.uac_entities.specs.EntityInterfaces.{entity_by_id}
use Rattle.uac_entities.specs.declared.entity.Entity.{Entity}
use Rattle.uac_topology.specs.Function.{FunctionFields}
use Rattle.uac_store.specs.declared.keys.Key.{Key}
use Rattle.uac_store.specs.Keyed.{same_key, value_of, with_value}
use Rattle.uac_store.specs.StoreControls.{IsStoreOf}
use Rattle.uac_store.proofs.KeyedLemmas.{changed_alone, one_key}
use Rattle.uac_request.specs.RequestElements as keyed
use Rattle.uac_request.specs.Requests.{RequestState, AnswerFields, after_request, reply_of, value_bytes, with_bytes}
use Rattle.uac_request.specs.declared.setup.Setup.{Setup}
use Rattle.uac_mixer.specs.declared.element.Element.{Element}
use Rattle.uac_mixer.specs.declared.link.When.{When}
use Rattle.uac_mixer.specs.declared.link.When.TheVariants as when
use Rattle.uac_mixer.specs.MixerElements.{fits_element, width_of, kind_at, name_of}
use Rattle.uac_mixer.specs.ViewTransfers.{after_get, after_set, element_after, gets, sets, get_of, set_of, value_after, value_in, view_after}
use Rattle.uac_mixer.proofs.AgreementLemmas.{IsHeldAs, answered_known, broken_known, broken_after_known, get_tells, held_as}
use Rattle.uac_mixer.proofs.AgreementStartLemmas.{stays}
use Rattle.uac_mixer.proofs.MixerElementsByteLemmas.{whole}
use Rattle.uac_mixer.proofs.MixerElementsListLemmas.{IsElementOf, members}
use Rattle.uac_mixer.proofs.RequestsLemmas.{get_after}
use Rattle.uac_mixer.proofs.ViewLinksLemmas.{viewed}
use Rattle.uac_mixer.proofs.ViewTransfersLemmas.{IsNarrow, is_for_it, is_told, own_value, no_set}
use Rattle.uac_status.specs.Messages.{element_keyed}
use Rattle.uac_status.specs.Knobs.{KnobOutcome, knob_stalls, knob_rests, knob_changes, controls_turned, is_pending, knob_bytes, pending_turned}
use Rattle.uac_status.specs.Panels.{PanelWorld, panel_state, panel_comes_back, acts_on, panel_transfer, panel_got, panel_set, panel_breaking, panel_outcome, turned, followed_by, followed, goes_on, all_followed, named_in}
use Rattle.uac_status.specs.PanelLaws.{IsKnown, IsAgreedBut, IsOfBytes, IsPanel, IsKeyShown, IsAllKnown, WaitOnce, PanelEvent, reads, sets as sets_to, breaks_next, turns, follows, if_fits, after_event, after_events}
use Rattle.uac_status.proofs.KnobLemmas.{after_knob_on}
use Rattle.uac_status.proofs.PendingLemmas.{all_shown_after, each_shown, first_of, found_in, shown_turned, still_other, later_once, once_turned}

-- ---- one element and a transfer

module _ (f : FunctionFields) (h : RequestState) (p : Setup) (sent : List ℕ) (x : Element) (store : IsStoreOf f.entities h.controls) (m : IsElementOf f.entities x) where
  transfer_known : (o : Option When) → IsKnown h.controls x
      → IsKnown (acts_on o h.controls (after_request f h p sent).controls)
      (element_after f.control_interface p sent (if is_some o then None else Some (reply_of f h p sent)) x)
  transfer_known None known = answered_known f h p sent x store m known
  transfer_known (Some when.Before) known = broken_known f h p sent x store m h.controls (λ other. refl) known
  transfer_known (Some when.After) known = broken_after_known f h p sent x store m known

-- ---- one element and the get of an element with its key

same_shown : (f : FunctionFields) (x y : Element) → IsElementOf f.entities x → IsElementOf f.entities y → x.key ≡ y.key → x.kind ≡ y.kind
same_shown f x y a b key =
    let entity : Some a.entity ≡ Some b.entity = sym a.found ∙ ap (λ (k : Key). entity_by_id f.entities k.entity) key ∙ b.found in
    let e : a.entity ≡ b.entity = cc in
    let s : x.key.selector ≡ y.key.selector = ap (λ (k : Key). k.selector) key in
    let kinds : Some x.kind ≡ Some y.kind = sym a.shows ∙ ap (λ (e : Entity). kind_at e.kind x.key.selector) e ∙ ap (kind_at b.entity.kind) s ∙ b.shows in
    cc

same_get : (control : ℕ) (x y : Element) → x.key ≡ y.key → x.kind ≡ y.kind → get_of control x ≡ get_of control y
same_get control x y key kind = cc

narrow_of : (control : ℕ) (x : Element) → control < 256 → IsOfBytes x.key → IsNarrow control x
narrow_of control x below b = record { interface = below; entity = b.entity; selector = b.selector; channel = b.channel }

module _ (f : FunctionFields) (h : RequestState) (y : Element) (store : IsStoreOf f.entities h.controls) (m : IsElementOf f.entities y) (n : IsNarrow f.control_interface y) where
  got_by : (b : Bool) (bytes : List ℕ) → (length bytes == width_of y.kind) ≡ b → length bytes ≡ width_of y.kind → reply_of f h (get_of f.control_interface y) [] ≡ with_bytes bytes
      → IfSome (if b then Some (value_in y bytes) else y.value) (λ v. value_of (after_request f h (get_of f.control_interface y) []).controls y.key ≡ Some v)
  got_by true bytes test long told =
      let asks = is_for_it 161 f.control_interface y n in
      ap (λ (c : List (Key × ℤ)). value_of c y.key) (get_after f h (get_of f.control_interface y) [] refl)
      ∙ (held_as f.entities h.controls y store m).is
      ∙ ap (λ (v : ℤ). Some v) (sym (get_tells f h (get_of f.control_interface y) [] y store m bytes asks told long))
  got_by false bytes test long told = absurd (let no : false ≡ true = sym test ∙ eq-eqb (length bytes) (width_of y.kind) long in cc)

  -- it brings the device's value, whatever was known before
  got_known : IsKnown (after_request f h (get_of f.control_interface y) []).controls
      (element_after f.control_interface (get_of f.control_interface y) [] (Some (reply_of f h (get_of f.control_interface y) [])) y)
  unfolding value_after
  got_known = by (sets f.control_interface (get_of f.control_interface y) y) (gets f.control_interface (get_of f.control_interface y) y)
      (no_set f.control_interface y y) (is_for_it 161 f.control_interface y n) where
        bytes : List ℕ
        bytes = value_bytes (width_of y.kind) (own_value f h y store m n).value

        told : reply_of f h (get_of f.control_interface y) [] ≡ with_bytes bytes
        told = is_told f h y store m n

        by : (s g : Bool) → s ≡ false → g ≡ true
            → IfSome (if s then after_set y [] (Some (reply_of f h (get_of f.control_interface y) [])) else if g then after_get y (Some (reply_of f h (get_of f.control_interface y) [])) else y.value)
            (λ v. value_of (after_request f h (get_of f.control_interface y) []).controls y.key ≡ Some v)
        by false true a b =
            subst (λ (t : AnswerFields). IfSome (after_get y (Some t)) (λ v. value_of (after_request f h (get_of f.control_interface y) []).controls y.key ≡ Some v)) (sym told)
            (got_by (length bytes == width_of y.kind) bytes refl (whole y.kind (own_value f h y store m n).value) told)
        by true g a b = absurd (cc)
        by false false a b = absurd (cc)

-- ---- the panel

-- an element of the view: one of the function's, of bytes
pub record IsShown (w : PanelWorld) (x : Element) : Type 0 where
  pub member : IsElementOf w.function.entities x
  pub narrow : IsNarrow w.function.control_interface x
  pub listed : IsKeyShown w.view.elements x.key

shown_at : (w : PanelWorld) → IsPanel w → All (IsShown w) w.view.elements
shown_at w good = λ k d within. record {
  member = members w.function w.view good.sound good.of_function k d within;
  narrow = narrow_of w.function.control_interface (slice_index_or w.view.elements k d) good.interface (good.bytes k d within);
  listed = All-from_recursion (λ x. IsKeyShown w.view.elements x.key) w.view.elements (each_shown w.view.elements) k d within;
}

pub shown_all : (w : PanelWorld) → IsPanel w → AllByRecursion (IsShown w) w.view.elements
shown_all w good = recursion_from_All (IsShown w) w.view.elements (shown_at w good)

-- a transfer keeps a panel, where each element agrees with these keys waiting
carried : (w : PanelWorld) (p : Setup) (sent : List ℕ) (pending : List Key) → IsPanel w → AllByRecursion (IsKeyShown w.view.elements) pending → WaitOnce pending
    → ((x : Element) → IsShown w x → (is_pending w.pending x.key ≡ false → IsKnown w.controls x) → is_pending pending x.key ≡ false
    → IsKnown (panel_transfer p sent w).controls (element_after w.function.control_interface p sent (panel_comes_back p sent w) x))
    → IsPanel (record (panel_transfer p sent w) { pending = pending })
unfolding panel_transfer view_after
carried w p sent pending good listed once each = record {
  sound = good.sound;
  store = stored w.breaks;
  of_function = viewed w.function.control_interface p sent (panel_comes_back p sent w) w.function.entities w.view good.of_function;
  interface = good.interface;
  bytes = All-map (λ x. IsOfBytes x.key) (element_after w.function.control_interface p sent (panel_comes_back p sent w)) w.view.elements
      (λ k d within. good.bytes k d within);
  agreed = All-map (λ x. is_pending pending x.key ≡ false → IsKnown (panel_transfer p sent w).controls x)
      (element_after w.function.control_interface p sent (panel_comes_back p sent w)) w.view.elements
      (λ k d within. each (slice_index_or w.view.elements k d) (shown_at w good k d within) (good.agreed k d within));
  shown = all_shown_after (element_after w.function.control_interface p sent (panel_comes_back p sent w)) w.view.elements pending (λ x. refl) listed;
  once = once;
} where
  stored : (o : Option When) → IsStoreOf w.function.entities (acts_on o w.controls (after_request w.function (panel_state w) p sent).controls)
  stored None = stays w.function (panel_state w) p sent good.store
  stored (Some when.Before) = good.store
  stored (Some when.After) = stays w.function (panel_state w) p sent good.store

pub transfer_keeps : (w : PanelWorld) (p : Setup) (sent : List ℕ) → IsPanel w → IsPanel (panel_transfer p sent w)
unfolding panel_transfer
transfer_keeps w p sent good =
    carried w p sent w.pending good good.shown good.once (λ x shown agreed other. transfer_known w.function (panel_state w) p sent x good.store shown.member w.breaks (agreed other))

-- a break that is set
pub break_keeps : (after : Bool) (w : PanelWorld) → IsPanel w → IsPanel (panel_breaking after w)
unfolding panel_breaking
break_keeps after w good = record { sound = good.sound; store = good.store; of_function = good.of_function; interface = good.interface; bytes = good.bytes; agreed = good.agreed; shown = good.shown; once = good.once }

-- ---- a knob

-- another control stays
other_known : (controls : List (Key × ℤ)) (k : Key) (value held : ℤ) (y : Element) → value_of controls k ≡ Some held → same_key k y.key ≡ false → IsKnown controls y
    → IsKnown (with_value controls k value) y
other_known controls k value held y there other known = by y.value known where
  some : (o : Option ℤ) → o ≡ Some held → is_some o ≡ true
  some o is = ap is_some is

  stays_so : value_of (with_value controls k value) y.key ≡ value_of controls y.key
  stays_so =
      changed_alone controls k value (some (value_of controls k) there) y.key
      ∙ ap (λ (b : Bool). if b then Some value else value_of controls y.key) other

  by : (o : Option ℤ) → IfSome o (λ v. value_of controls y.key ≡ Some v) → IfSome o (λ v. value_of (with_value controls k value) y.key ≡ Some v)
  by None is = tt
  by (Some v) is = stays_so ∙ is

turned_agrees : (o : KnobOutcome) (w : PanelWorld) (x : Element) (value held : ℤ) → value_of w.controls x.key ≡ Some held → IsAgreedBut w.pending w.controls w.view.elements
    → IsAgreedBut (pending_turned o x.key w.pending) (controls_turned o x.key value w.controls) w.view.elements
turned_agrees (knob_stalls rule) w x value held there agreed = agreed
turned_agrees knob_rests w x value held there agreed = agreed
turned_agrees knob_changes w x value held there agreed = λ k d within other.
    let y : Element = slice_index_or w.view.elements k d in
    let apart = still_other y.key x.key w.pending other in
    other_known w.controls x.key value held y there apart.1 (agreed k d within apart.0)

pub turned_keeps : (x : Element) (value : ℤ) (w : PanelWorld) → IsShown w x → fits_element x.kind value ≡ true → IsPanel w → IsPanel (turned x.key value w)
unfolding turned
turned_keeps x value w shown fits good =
    let left = after_knob_on w.function (panel_state w) x value good.sound good.store shown.member fits in
    let was : IsHeldAs w.function.entities w.controls x = held_as w.function.entities w.controls x good.store shown.member in
    record {
      sound = good.sound;
      store = subst (λ (h : RequestState). IsStoreOf w.function.entities h.controls) left
          (stays w.function (panel_state w) (keyed.set_of w.function x.key) (knob_bytes w.function x.key value) good.store);
      of_function = good.of_function;
      interface = good.interface;
      bytes = good.bytes;
      agreed = turned_agrees (panel_outcome x.key value w) w x value was.value was.is good.agreed;
      shown = shown_turned (panel_outcome x.key value w) w.view.elements x.key w.pending good.shown shown.listed;
      once = once_turned (panel_outcome x.key value w) x.key w.pending good.once;
    }

-- ---- messages

-- the get of an element with the first key that waits
get_keeps : (w : PanelWorld) (k : Key) (later : List Key) (x : Element) (b : Bool) → is_some w.breaks ≡ b → w.pending ≡ k ∷ later → x.key ≡ k → IsShown w x
    → IsPanel w → IsPanel (followed_by b later (panel_got x w))
unfolding panel_transfer
get_keeps w k later x true broke first key shown good = transfer_keeps w (get_of w.function.control_interface x) [] good
get_keeps w k later x false came first key shown good =
    carried w (get_of w.function.control_interface x) [] later good (later_shown w.pending first good.shown) (later_once w.pending k later first good.once) (λ y is agreed other. by y is agreed other (same_key k y.key) refl) where
      later_shown : (ks : List Key) → ks ≡ k ∷ later → AllByRecursion (IsKeyShown w.view.elements) ks → AllByRecursion (IsKeyShown w.view.elements) later
      later_shown ks same all = (subst (AllByRecursion (IsKeyShown w.view.elements)) same all).1

      p : Setup
      p = get_of w.function.control_interface x

      none : w.breaks ≡ None
      none = no_break w.breaks came where
        no_break : (o : Option When) → is_some o ≡ false → o ≡ None
        no_break None e = refl
        no_break (Some at) e = absurd (cc)

      by : (y : Element) → IsShown w y → (is_pending w.pending y.key ≡ false → IsKnown w.controls y) → is_pending later y.key ≡ false
          → (b : Bool) → same_key k y.key ≡ b
          → IsKnown (panel_transfer p [] w).controls (element_after w.function.control_interface p [] (panel_comes_back p [] w) y)
      by y is agreed other false apart =
          transfer_known w.function (panel_state w) p [] y good.store is.member w.breaks
          (agreed (ap (λ (pending : List Key). is_pending pending y.key) first ∙ first_of k later y.key apart other))
      by y is agreed other true same =
          let key_is : x.key ≡ y.key = key ∙ one_key k y.key same in
          let setup : get_of w.function.control_interface y ≡ p = sym (same_get w.function.control_interface x y key_is (same_shown w.function x y shown.member is.member key_is)) in
          let known = got_known w.function (panel_state w) y good.store is.member is.narrow in
          subst (λ (o : Option When). IsKnown (acts_on o w.controls (after_request w.function (panel_state w) p []).controls)
          (element_after w.function.control_interface p [] (if is_some o then None else Some (reply_of w.function (panel_state w) p [])) y)) (sym none)
          (subst (λ (q : Setup). IsKnown (after_request w.function (panel_state w) q []).controls
          (element_after w.function.control_interface q [] (Some (reply_of w.function (panel_state w) q [])) y)) setup known)

pub all_keep : (pending : List Key) (w : PanelWorld) → w.pending ≡ pending → IsPanel w → IsPanel (all_followed pending w)
unfolding all_followed followed panel_transfer
all_keep [] w same good = good
all_keep (k ∷ later) w first good =
    by (element_keyed w.view.elements k) (found_in (IsShown w) (λ (x : Element). same_key x.key k) w.view.elements (shown_all w good))
    (λ x. all_keep later (followed_by false later (panel_got x w)) refl) where
      one : (x : Element) (b : Bool) → is_some w.breaks ≡ b → IsShown w x → x.key ≡ k
          → (IsPanel (followed_by false later (panel_got x w)) → IsPanel (all_followed later (followed_by false later (panel_got x w))))
          → IsPanel (goes_on b (followed_by b later (panel_got x w)) (all_followed later (followed_by b later (panel_got x w))))
      one x true broke shown key next = get_keeps w k later x true broke first key shown good
      one x false came shown key next = next (get_keeps w k later x false came first key shown good)

      by : (o : Option Element) → IfSome o (λ x. IsShown w x × (same_key x.key k ≡ true))
          → ((x : Element) → IsPanel (followed_by false later (panel_got x w)) → IsPanel (all_followed later (followed_by false later (panel_got x w))))
          → IsPanel (option_map_or (λ x. goes_on (is_some w.breaks) (followed x later w) (all_followed later (followed x later w))) o w)
      by None found next = good
      by (Some x) found next = one x (is_some w.breaks) refl found.0 (one_key x.key k found.1) (next x)

-- ---- events

fitting : (x : Element) (value : ℤ) (w next : PanelWorld) → IsPanel w → (fits_element x.kind value ≡ true → IsPanel next) → IsPanel (if_fits x value w next)
fitting x value w next good holds = by (fits_element x.kind value) refl where
  by : (b : Bool) → fits_element x.kind value ≡ b → IsPanel (if b then next else w)
  by true is = holds is
  by false is = good

named : (name : List ℕ) (w : PanelWorld) (step : Element → PanelWorld) → IsPanel w → ((x : Element) → IsShown w x → IsPanel (step x)) → IsPanel (option_map_or step (named_in w name) w)
unfolding named_in
named name w step good each = by (named_in w name) (found_in (IsShown w) _ w.view.elements (shown_all w good)) where
  by : (o : Option Element) → IfSome o (λ x. IsShown w x × (bytes_eq (name_of x) name ≡ true)) → IsPanel (option_map_or step o w)
  by None found = good
  by (Some x) found = each x found.0

event_keeps : (event : PanelEvent) (w : PanelWorld) → IsPanel w → IsPanel (after_event event w)
unfolding after_event
event_keeps (reads name) w good = named name w (λ x. panel_got x w) good (λ x shown. transfer_keeps w (get_of w.function.control_interface x) [] good)
event_keeps (sets_to name value) w good =
    named name w (λ x. if_fits x value w (panel_set x value w)) good
    (λ x shown. fitting x value w (panel_set x value w) good (λ fits. transfer_keeps w (set_of w.function.control_interface x) (value_bytes (width_of x.kind) value) good))
event_keeps (breaks_next after) w good = break_keeps after w good
event_keeps (turns name value) w good =
    named name w (λ x. if_fits x value w (turned x.key value w)) good
    (λ x shown. fitting x value w (turned x.key value w) good (λ fits. turned_keeps x value w shown fits good))
event_keeps follows w good = all_keep w.pending w refl good

pub events_keep : (events : List PanelEvent) (w : PanelWorld) → IsPanel w → IsPanel (after_events events w)
unfolding after_events
events_keep [] w good = good
events_keep (event ∷ more) w good = events_keep more (after_event event w) (event_keeps event w good)

-- ---- no message is left

none_left : (pending : List Key) (w : PanelWorld) → AllByRecursion (IsKeyShown w.view.elements) pending → w.pending ≡ pending → w.breaks ≡ None → (all_followed pending w).pending ≡ []
unfolding all_followed followed panel_transfer view_after
none_left [] w all same none = same
none_left (k ∷ later) w all same none =
    by (element_keyed w.view.elements k) all.0
    (λ x. none_left later (followed_by false later (panel_got x w))
    (all_shown_after (element_after w.function.control_interface (get_of w.function.control_interface x) [] (panel_comes_back (get_of w.function.control_interface x) [] w)) w.view.elements later (λ y. refl) all.1) refl refl) where
      one : (x : Element) (b : Bool) → is_some w.breaks ≡ b → (all_followed later (followed_by false later (panel_got x w))).pending ≡ []
          → (goes_on b (followed_by b later (panel_got x w)) (all_followed later (followed_by b later (panel_got x w)))).pending ≡ []
      one x true broke next = absurd (let no : false ≡ true = sym (ap is_some none) ∙ broke in cc)
      one x false came next = next

      by : (o : Option Element) → is_some o ≡ true
          → ((x : Element) → (all_followed later (followed_by false later (panel_got x w))).pending ≡ [])
          → (option_map_or (λ x. goes_on (is_some w.breaks) (followed x later w) (all_followed later (followed x later w))) o w).pending ≡ []
      by None is next = absurd (cc)
      by (Some x) is next = one x (is_some w.breaks) refl (next x)

pub messages_tell_all : (w : PanelWorld) → IsPanel w → w.breaks ≡ None → IsAllKnown (all_followed w.pending w)
messages_tell_all w good none =
    let after : PanelWorld = all_followed w.pending w in
    let kept = all_keep w.pending w refl good in
    let left = none_left w.pending w good.shown refl none in
    record { none = left; agreed = λ k d within. kept.agreed k d within (ap (λ (pending : List Key). is_pending pending (slice_index_or after.view.elements k d).key) left) }
