-- A transfer of a device with a front panel, and the world after it.
use Rattle.std.proofs.Common.{◌≡◌, ◌∙◌, refl, ap, sym, subst, ℕ, ◌<◌, Bool, true, false, if◌then◌else◌, ℤ, List, [], ◌∷◌, map, length, zero, suc, slice_get, Option, Some, None, is_some, unwrap_or, pos, position, Result, Ok, Err, IfOk, OnErr, OnOk, Contains, arith}
use Rattle.std.specs.List.{AllByRecursion, find}
use Rattle.std.specs.Option.{option_and_then}
use Rattle.uac_entities.specs.declared.entity.Entity.{Entity}
use Rattle.uac_topology.specs.Function.{FunctionFields}
use Rattle.uac_alt.specs.AltSettings.{initial_settings}
use Rattle.uac_alt.specs.declared.settings.InterfaceSetting.{InterfaceSetting}
use Rattle.uac_store.specs.declared.keys.Key.{Key}
use Rattle.uac_store.specs.Keyed.{value_of}
use Rattle.uac_store.specs.StoreControls.{initial_controls}
use Rattle.uac_request.specs.Requests.{RequestState, AnswerFields, after_request, first_broken, left_by, request_state, reply_of, sets_cur, sets_interface, controls_set}
use Rattle.uac_alt.specs.AltSettings.{with_setting}
use Rattle.uac_request.specs.declared.setup.Setup.{Setup}
use Rattle.uac_device.specs.DeviceKept.{DeviceFields, DeviceStands}
use Rattle.uac_device.specs.DeviceWorld.{fresh}
use Rattle.uac_mixer.specs.Agreement.{IsMade}
use Rattle.uac_mixer.specs.MixerElements.{fits_element, name_of, with_no_value}
use Rattle.uac_mixer.specs.ViewLinks.{BreaksAs, BreaksAsFaultSays, IsAnswered, IsUntouched, LinkFields}
use Rattle.uac_mixer.specs.ViewTransfers.{came_of_get, element_after, view_after}
use Rattle.uac_mixer.specs.ViewWorld.{IsViewOf, ViewWorld, known_view}
use Rattle.uac_mixer.specs.declared.element.Element.{Element}
use Rattle.uac_mixer.specs.declared.link.Broken.{Broken}
use Rattle.uac_mixer.specs.declared.link.When.{When}
use Rattle.uac_mixer.specs.declared.link.When.TheVariants as when
use Rattle.uac_transcript.specs.Transcript.{element_has_value, was_broken}
use Rattle.uac_status.specs.declared.panel.Turned.{Turned}
use Rattle.uac_status.specs.Knobs.{IsKnob, KnobOutcome, controls_turned, knob_outcome, pending_turned}
use Rattle.uac_status.specs.Panels.{PanelWorld, panel_state, panel_comes_back, acts_on, break_at, panel_breaking, panel_outcome, panel_start, panel_transfer, turned}
use Rattle.uac_status.specs.PanelCalls.{IsTurned}
use Rattle.uac_status.specs.PanelLaws.{IsKeyShown}
use Rattle.uac_status.specs.PanelLines.{got_sight}
use Rattle.uac_status.specs.FrontKept.{FrontFields, FrontStands, IsFront, IsGot}
use Rattle.uac_status.proofs.MessageLemmas.{found_at}
use Rattle.uac_status.proofs.PendingLemmas.{all_shown_after, each_shown, shown_turned}

-- what comes back over a link that tells its fault
came_by : (fault : Option When) (came : Option AnswerFields) (p : Setup) (sent : List ℕ) (old new : LinkFields) (reply : AnswerFields)
    → BreaksAsFaultSays fault p sent came old new → IsAnswered p sent came old new
    → reply_of old.device.function (request_state old.device.controls old.device.settings) p sent ≡ reply
    → came ≡ (if is_some fault then None else Some reply)
came_by None None p sent old new reply told answered is = absurd (let some = told.breaks.0 refl in cc)
came_by None (Some t) p sent old new reply told answered is = ap Some (answered.device.answer ∙ is)
came_by (Some w) came p sent old new reply told answered is = told.breaks.1 refl

-- what the device holds after it
by_fault : Option When → RequestState → RequestState → RequestState
by_fault None resting acted = acted
by_fault (Some when.Before) resting acted = resting
by_fault (Some when.After) resting acted = acted

held_by : (fault : Option When) (came : Option AnswerFields) (p : Setup) (sent : List ℕ) (old new : LinkFields)
    → BreaksAsFaultSays fault p sent came old new → IsAnswered p sent came old new
    → request_state new.device.controls new.device.settings
    ≡ by_fault fault (request_state old.device.controls old.device.settings) (after_request old.device.function (request_state old.device.controls old.device.settings) p sent)
unfolding by_fault
held_by None None p sent old new told answered = absurd (let some = told.breaks.0 refl in cc)
held_by None (Some t) p sent old new told answered = answered.device.held
held_by (Some when.Before) came p sent old new told answered =
    let kept : IsUntouched old new = told.at when.Before refl in
    ap (λ (d : DeviceFields). request_state d.controls d.settings) kept.device
held_by (Some when.After) came p sent old new told answered =
    let acted : BreaksAs when.After p sent old new = told.at when.After refl in
    acted.1.device.held

-- a request that sets no interface leaves the settings
settings_left : (f : FunctionFields) (h : RequestState) (p : Setup) (sent : List ℕ) → sets_interface p ≡ false → (after_request f h p sent).settings ≡ h.settings
unfolding after_request left_by
settings_left f h p sent other = by (is_some (first_broken f h p sent)) (sets_cur p) (sets_interface p) other where
  by : (broken sets interface : Bool) → interface ≡ false
      → (if broken then h
      else if sets then record h { controls = controls_set f h p sent }
      else if interface then record h { settings = with_setting h.settings p.index p.value }
      else h).settings ≡ h.settings
  by true sets interface is = refl
  by false true interface is = refl
  by false false false is = refl
  by false false true is = cc

controls_by : (fault : Option When) (resting acted : RequestState) → (by_fault fault resting acted).controls ≡ acts_on fault resting.controls acted.controls
unfolding by_fault
controls_by None resting acted = refl
controls_by (Some when.Before) resting acted = refl
controls_by (Some when.After) resting acted = refl

settings_by : (fault : Option When) (resting acted : RequestState) (settings : List InterfaceSetting) → resting.settings ≡ settings → acted.settings ≡ settings → (by_fault fault resting acted).settings ≡ settings
unfolding by_fault
settings_by None resting acted settings a b = b
settings_by (Some when.Before) resting acted settings a b = a
settings_by (Some when.After) resting acted settings a b = b

-- what a device that stands for a world holds
pub state_is : (p : FrontFields) (w : PanelWorld) → FrontStands p w → request_state p.device.controls p.device.settings ≡ panel_state w
state_is p w stands =
    ap (λ (c : List (Key × ℤ)). request_state c p.device.settings) stands.controls ∙ ap (request_state w.controls) stands.settings

module _ (w : PanelWorld) (p q : FrontFields) (setup : Setup) (sent : List ℕ) (came : Option AnswerFields) (old new : LinkFields)
    (stands : FrontStands p w) (lent : old.device ≡ p.device) (fault : old.fault ≡ Some p.breaks)
    (made : IsMade setup sent came p.view q.view old new) where
  function_is : old.device.function ≡ w.function
  function_is = ap (λ (d : DeviceFields). d.function) lent ∙ stands.function

  held_is : request_state old.device.controls old.device.settings ≡ panel_state w
  held_is = ap (λ (d : DeviceFields). request_state d.controls d.settings) lent ∙ state_is p w stands

  pub came_back : came ≡ panel_comes_back setup sent w
  came_back =
      came_by p.breaks came setup sent old new (reply_of w.function (panel_state w) setup sent) (made.transfer.told p.breaks fault) made.transfer.answered
      (ap (λ (f : FunctionFields). reply_of f (request_state old.device.controls old.device.settings) setup sent) function_is
      ∙ ap (λ (h : RequestState). reply_of w.function h setup sent) held_is)
      ∙ ap (λ (o : Option When). if is_some o then None else Some (reply_of w.function (panel_state w) setup sent)) stands.breaks

  held_now : request_state new.device.controls new.device.settings ≡ by_fault w.breaks (panel_state w) (after_request w.function (panel_state w) setup sent)
  held_now =
      held_by p.breaks came setup sent old new (made.transfer.told p.breaks fault) made.transfer.answered
      ∙ ap (λ (h : RequestState). by_fault p.breaks h (after_request old.device.function h setup sent)) held_is
      ∙ ap (λ (f : FunctionFields). by_fault p.breaks (panel_state w) (after_request f (panel_state w) setup sent)) function_is
      ∙ ap (λ (o : Option When). by_fault o (panel_state w) (after_request w.function (panel_state w) setup sent)) stands.breaks

  pub transfer_stands : (pending : List Key) → q.device ≡ new.device → q.breaks ≡ None → q.pending ≡ pending → sets_interface setup ≡ false
      → FrontStands q (record (panel_transfer setup sent w) { pending = pending })
  unfolding panel_transfer
  transfer_stands pending kept used same other = record {
    function = ap (λ (d : DeviceFields). d.function) kept ∙ made.function ∙ function_is;
    controls =
        ap (λ (d : DeviceFields). d.controls) kept ∙ ap (λ (h : RequestState). h.controls) held_now
        ∙ controls_by w.breaks (panel_state w) (after_request w.function (panel_state w) setup sent);
    settings =
        ap (λ (d : DeviceFields). d.settings) kept ∙ ap (λ (h : RequestState). h.settings) held_now
        ∙ settings_by w.breaks (panel_state w) (after_request w.function (panel_state w) setup sent) (initial_settings w.function) refl
        (settings_left w.function (panel_state w) setup sent other);
    view =
        made.view
        ∙ ap (λ (f : FunctionFields). view_after f.control_interface setup sent came p.view) function_is
        ∙ ap (λ (v : ViewWorld). view_after w.function.control_interface setup sent came v) stands.view
        ∙ ap (λ (o : Option AnswerFields). view_after w.function.control_interface setup sent o w.view) came_back;
    pending = same;
    breaks = used;
  }

-- ---- what is kept

-- the elements of a view keep their keys over a transfer
pub shown_over : (control : ℕ) (p : Setup) (sent : List ℕ) (came : Option AnswerFields) (before after : ViewWorld) (ks : List Key) → after ≡ view_after control p sent came before
    → AllByRecursion (IsKeyShown before.elements) ks → AllByRecursion (IsKeyShown after.elements) ks
unfolding view_after
shown_over control p sent came before after ks is all =
    subst (λ (v : ViewWorld). AllByRecursion (IsKeyShown v.elements) ks) (sym is)
    (all_shown_after (element_after control p sent came) before.elements ks (λ x. refl) all)

-- what a front keeps, where the keys that wait are fewer by none or one
pub front_over : (p q : FrontFields) (setup : Setup) (sent : List ℕ) (came : Option AnswerFields) (old new : LinkFields) → AllByRecursion (IsKeyShown p.view.elements) q.pending
    → IsMade setup sent came p.view q.view old new → q.device ≡ new.device → IsFront q
front_over p q setup sent came old new shown made kept = record {
  of_function = subst (λ (d : DeviceFields). IsViewOf d.function.entities q.view) (sym kept) made.of_function;
  shown = shown_over old.device.function.control_interface setup sent came p.view q.view q.pending made.view shown;
}

-- there is an element at an index
pub an_element_at : (xs : List Element) (at : ℕ) → at < length xs → (x : Element) × (slice_get xs at ≡ Some x)
an_element_at [] at below = absurd (omega arith)
an_element_at (x ∷ xs) zero below = (x, refl)
an_element_at (x ∷ xs) (suc n) below = an_element_at xs n (omega arith)

pub one_at : (xs : List Element) (at : ℕ) (x y : Element) → slice_get xs at ≡ Some x → slice_get xs at ≡ Some y → x ≡ y
one_at xs at x y here there = cc

-- ---- the start

pub started : (function : FunctionFields) (q : FrontFields) → DeviceStands q.device (fresh function) → q.view ≡ known_view function.entities (initial_controls function.entities)
    → q.pending ≡ [] → q.breaks ≡ None → FrontStands q (panel_start function)
unfolding panel_start fresh
started function q stands view pending breaks = record {
  function = stands.function;
  controls = stands.controls;
  settings = stands.settings;
  view = view;
  pending = pending;
  breaks = breaks;
}

-- ---- a break

pub break_stands : (p : FrontFields) (w : PanelWorld) (after : Bool) (at : When) → FrontStands p w → at ≡ break_at after
    → FrontStands (record p { breaks = Some at }) (panel_breaking after w)
unfolding panel_breaking
break_stands p w after at stands is = record {
  function = stands.function;
  controls = stands.controls;
  settings = stands.settings;
  view = stands.view;
  pending = stands.pending;
  breaks = ap (λ (b : When). Some b) is;
}

-- ---- knobs

listed_at : (f : Element → Element) (xs : List Element) (at : ℕ) (x : Element) → slice_get xs at ≡ Some x → Contains (map f xs) (f x)
listed_at f [] at x is = cc
listed_at f (y ∷ xs) zero x is = (let same : y ≡ x = cc in (0, omega arith, ap f same))
listed_at f (y ∷ xs) (suc n) x is = (let rest = listed_at f xs n x is in (suc rest.0, omega (arith, rest.1), rest.2))

-- an element of a view, and a value that fits it, make a knob
pub knob_at : (entities : List Entity) (view : ViewWorld) (at : ℕ) (x : Element) (value : ℤ) → IsViewOf entities view → slice_get view.elements at ≡ Some x → fits_element x.kind value ≡ true
    → IsKnob entities x.key value
knob_at entities view at x value of there fits = record {
  element = with_no_value x;
  listed = subst (λ (xs : List Element). Contains xs (with_no_value x)) of (listed_at with_no_value view.elements at x there);
  keyed = refl;
  fits = fits;
}

-- what holds of each element holds of the one at an index
pub each_at : (P : Element → Type 0) (xs : List Element) (at : ℕ) (x : Element) → AllByRecursion P xs → slice_get xs at ≡ Some x → P x
each_at P [] at x all is = absurd (cc)
each_at P (y ∷ xs) zero x all is = (let same : y ≡ x = cc in subst P same all.0)
each_at P (y ∷ xs) (suc n) x all is = each_at P xs n x all.1 is

-- what a knob leaves is kept
pub turned_front : {E : Type 0} (p : FrontFields) (at : ℕ) (x : Element) (value : ℤ) (o : KnobOutcome) (device : DeviceFields) (pending : List Key) (result : Result Turned E)
    → IsFront p → slice_get p.view.elements at ≡ Some x → OnOk result (IsTurned o x.key value p.device device) → OnOk result (pending ≡ pending_turned o x.key p.pending)
    → OnErr result (pending ≡ p.pending) → OnErr result (device ≡ p.device) → IsFront (record p { device = device; pending = pending })
turned_front p at x value o device pending (Ok t) front there d q same kept = record {
  of_function = subst (λ (f : FunctionFields). IsViewOf f.entities p.view) (sym d.function) front.of_function;
  shown = subst (AllByRecursion (IsKeyShown p.view.elements)) (sym q)
      (shown_turned o p.view.elements x.key p.pending front.shown (each_at (λ y. IsKeyShown p.view.elements y.key) p.view.elements at x (each_shown p.view.elements) there));
}
turned_front p at x value o device pending (Err e) front there d q same kept = record {
  of_function = subst (λ (v : DeviceFields). IsViewOf v.function.entities p.view) (sym kept) front.of_function;
  shown = subst (AllByRecursion (IsKeyShown p.view.elements)) (sym same) front.shown;
}

-- and stands for the next world
pub turn_stands : {E : Type 0} (p : FrontFields) (w : PanelWorld) (k : Key) (value : ℤ) (device : DeviceFields) (pending : List Key) (result : Result Turned E) → FrontStands p w
    → OnOk result (IsTurned (knob_outcome p.device.function (request_state p.device.controls p.device.settings) k value) k value p.device device)
    → OnOk result (pending ≡ pending_turned (knob_outcome p.device.function (request_state p.device.controls p.device.settings) k value) k p.pending)
    → OnOk result (FrontStands (record p { device = device; pending = pending }) (turned k value w))
unfolding turned
turn_stands p w k value device pending (Ok t) stands d q =
    let same : knob_outcome p.device.function (request_state p.device.controls p.device.settings) k value ≡ panel_outcome k value w =
    ap (λ (f : FunctionFields). knob_outcome f (request_state p.device.controls p.device.settings) k value) stands.function
    ∙ ap (λ (h : RequestState). knob_outcome w.function h k value) (state_is p w stands) in
    record {
      function = d.function ∙ stands.function;
      controls =
          d.controls ∙ ap (λ (o : KnobOutcome). controls_turned o k value p.device.controls) same
          ∙ ap (λ (c : List (Key × ℤ)). controls_turned (panel_outcome k value w) k value c) stands.controls;
      settings = d.settings ∙ stands.settings;
      view = stands.view;
      pending =
          q ∙ ap (λ (o : KnobOutcome). pending_turned o k p.pending) same
          ∙ ap (λ (ks : List Key). pending_turned (panel_outcome k value w) k ks) stands.pending;
      breaks = stands.breaks;
    }
turn_stands p w k value device pending (Err e) stands d q = tt

-- ---- reading

-- what a read of an element answers
pub got_told : (x : Element) (result : Result ℤ Broken) (w : PanelWorld) (p : Setup) (sent : List ℕ) (controls : List (Key × ℤ)) → came_of_get x result ≡ panel_comes_back p sent w
    → controls ≡ w.controls → IfOk result (λ value. value_of controls x.key ≡ Some value) → IsGot x w result
got_told x (Ok value) w p sent controls came same is = (unbroken (is_some w.breaks) refl, subst (λ (cs : List (Key × ℤ)). value_of cs x.key ≡ Some value) same is)
  where
    unbroken : (b : Bool) → is_some w.breaks ≡ b → is_some w.breaks ≡ false
    unbroken false test = test
    unbroken true test = (let none : came_of_get x (Ok value) ≡ None = came ∙ ap (λ (c : Bool). if c then None else Some (reply_of w.function (panel_state w) p sent)) test in cc)
got_told x (Err broken) w p sent controls came same is = broke (is_some w.breaks) refl
  where
    broke : (b : Bool) → is_some w.breaks ≡ b → is_some w.breaks ≡ true
    broke true test = test
    broke false test = (let some : came_of_get x (Err broken) ≡ Some (reply_of w.function (panel_state w) p sent) = came ∙ ap (λ (c : Bool). if c then None else Some (reply_of w.function (panel_state w) p sent)) test in cc)

-- ---- what is said of elements

-- the first that passes a test, by its index in the view that stands for the world's
pub found_in_world : (p : Element → Bool) (xs ys : List Element) (at : Option ℕ) → xs ≡ ys → at ≡ position p xs → option_and_then (slice_get ys) at ≡ find p ys
found_in_world p xs ys at same is = ap (option_and_then (slice_get ys)) (is ∙ ap (position p) same) ∙ found_at p ys

-- what is said of an element that was read
pub got_value : (x : Element) (w : PanelWorld) (value : ℤ) → (is_some w.breaks ≡ false) × (value_of w.controls x.key ≡ Some value)
    → got_sight x w ≡ element_has_value (name_of x) value
got_value x w value is =
    ap (λ (b : Bool). if b then was_broken else element_has_value (name_of x) (unwrap_or (value_of w.controls x.key) (pos 0))) is.0
    ∙ ap (λ (o : Option ℤ). element_has_value (name_of x) (unwrap_or o (pos 0))) is.1

pub got_broken : (x : Element) (w : PanelWorld) → is_some w.breaks ≡ true → got_sight x w ≡ was_broken
got_broken x w is = ap (λ (b : Bool). if b then was_broken else element_has_value (name_of x) (unwrap_or (value_of w.controls x.key) (pos 0))) is

-- what holds in any case holds at Ok
pub at_ok : {T E : Type 0} (P : Type 0) (r : Result T E) → P → OnOk r P
at_ok P (Ok u) p = p
at_ok P (Err e) p = tt
