-- What a call of the view owes, from the one transfer that it makes.
use Rattle.std.proofs.Common.{◌≡◌, ◌∙◌, refl, ap, sym, subst, ℕ, ◌⊎◌, Bool, true, false, if◌then◌else◌, ℤ, List, [], slice_get, Option, Some, None, IsSome, Result, Ok, Err, OnOk, inl, inr, w32, FitsSigned}
use Rattle.std.specs.Option.{option_map}
use Rattle.std.proofs.lemmas.Option.{slice_get-map, slice_get_within, get_or_from_slice_get}
use Rattle.uac_topology.specs.Function.{FunctionFields}
use Rattle.uac_topology.specs.Topology.{IsSoundFunction}
use Rattle.uac_store.specs.StoreControls.{IsStoreOf}
use Rattle.uac_store.specs.Keyed.{value_of}
use Rattle.uac_request.specs.Requests.{RequestState, AnswerFields, after_request, request_state, is_done, is_stalled, left_by, value_bytes, with_bytes}
use Rattle.uac_request.specs.declared.setup.Setup.{Setup}
use Rattle.uac_device.specs.DeviceKept.{DeviceFields}
use Rattle.uac_mixer.specs.declared.element.Element.{Element}
use Rattle.uac_mixer.specs.MixerElements.{fits_element, width_of}
use Rattle.uac_mixer.specs.ViewLinks.{IsAsBefore, IsTransferred, LinkFields}
use Rattle.uac_mixer.specs.declared.faults.SetFault.{SetFault}
use Rattle.uac_mixer.specs.declared.faults.SetFault.TheVariants as refusals
use Rattle.uac_mixer.specs.ViewTransfers.{came_of_set, element_after, get_of, set_of, element_setup, value_after, view_after}
use Rattle.uac_mixer.specs.ViewWorld.{IsViewOf, ViewWorld}
use Rattle.uac_mixer.specs.Agreement.{IsMade}
use Rattle.uac_mixer.proofs.MixerElementsLemmas.{narrow}
use Rattle.uac_mixer.proofs.MixerElementsListLemmas.{IsElementOf, members}
use Rattle.uac_mixer.proofs.AgreementLemmas.{IsHeldAs}
use Rattle.uac_mixer.proofs.ViewTransfersLemmas.{IsNarrow, get_broke, is_told, one_element, own_value, set_stalled, set_told, value_got, value_lost, value_set}
use Rattle.uac_mixer.proofs.ViewLinksLemmas.{Went, kept_by, told_by, went}

-- the element at an index is one of the function's
pub member_at : (f : FunctionFields) (view : ViewWorld) (at : ℕ) (x : Element) → IsSoundFunction f → IsViewOf f.entities view → slice_get view.elements at ≡ Some x → IsElementOf f.entities x
member_at f view at x sound is there =
    subst (IsElementOf f.entities) (get_or_from_slice_get view.elements at x x there) (members f view sound is at x (slice_get_within view.elements at x there))

-- and after a transfer it has this value
pub value_at : (control : ℕ) (p : Setup) (sent : List ℕ) (came : Option AnswerFields) (view : ViewWorld) (at : ℕ) (x : Element) → slice_get view.elements at ≡ Some x
    → option_map (λ (y : Element). y.value) (slice_get (view_after control p sent came view).elements at) ≡ Some (value_after control p sent came x)
unfolding view_after
value_at control p sent came view at x there =
    ap (option_map (λ (y : Element). y.value)) (slice_get-map (element_after control p sent came) view.elements at ∙ ap (option_map (element_after control p sent came)) there)

-- ---- a GET CUR

-- what came back of it, where it didn't break: the value of the control
pub record HasGot (control : ℕ) (x : Element) (at : ℕ) (came : Option AnswerFields) (before after : ViewWorld) (old : DeviceFields) : Type 0 where
  pub value : ℤ
  pub is : value_of old.controls x.key ≡ Some value
  pub told : came ≡ Some (with_bytes (value_bytes (width_of x.kind) value))
  pub kept : option_map (λ (y : Element). y.value) (slice_get after.elements at) ≡ Some (Some value)

pub got : (x : Element) (at : ℕ) (told : AnswerFields) (before after : ViewWorld) (old new : LinkFields) → IsSoundFunction old.device.function → IsStoreOf old.device.function.entities old.device.controls
    → IsViewOf old.device.function.entities before → slice_get before.elements at ≡ Some x → IsNarrow old.device.function.control_interface x
    → IsMade (get_of old.device.function.control_interface x) [] (Some told) before after old new → HasGot old.device.function.control_interface x at (Some told) before after old.device
got x at told before after old new sound store is there n made =
    let f : FunctionFields = old.device.function in
    let m : IsElementOf f.entities x = member_at f before at x sound is there in
    let value : IsHeldAs f.entities old.device.controls x = own_value f (kept_by old.device) x store m n in
    let same : told ≡ with_bytes (value_bytes (width_of x.kind) value.value) =
    told_by (get_of f.control_interface x) [] (Some told) old new made.transfer.answered told refl ∙ is_told f (kept_by old.device) x store m n in
    record {
      value = value.value;
      is = value.is;
      told = ap (λ (t : AnswerFields). Some t) same;
      kept =
          ap (λ (v : ViewWorld). option_map (λ (y : Element). y.value) (slice_get v.elements at)) made.view
          ∙ value_at f.control_interface (get_of f.control_interface x) [] (Some told) before at x there
          ∙ ap (λ (v : Option ℤ). Some v) (ap (λ (t : AnswerFields). value_after f.control_interface (get_of f.control_interface x) [] (Some t) x) same ∙ value_got f.control_interface x x value.value refl n value.fits);
    }

-- where it broke the view is as it was
pub got_none : (x : Element) (before after : ViewWorld) (old new : LinkFields) → IsMade (get_of old.device.function.control_interface x) [] None before after old new → after ≡ before
got_none x before after old new made = made.view ∙ get_broke old.device.function.control_interface x before

-- it leaves the device as it was
get_held : (f : FunctionFields) (h : RequestState) (x : Element) → after_request f h (get_of f.control_interface x) [] ≡ h
unfolding after_request left_by
get_held f h x = same _ where
  same : (b : Bool) → (if b then h else h) ≡ h
  same true = refl
  same false = refl

as_before : (x : Element) (came : Option AnswerFields) (old new : DeviceFields) → Went (get_of old.function.control_interface x) [] came old new → IsAsBefore old new
as_before x came old new (inl is) = record { function = ap (λ (d : DeviceFields). d.function) is.1; controls = ap (λ (d : DeviceFields). d.controls) is.1; settings = ap (λ (d : DeviceFields). d.settings) is.1 }
as_before x came old new (inr is) =
    let held : request_state new.controls new.settings ≡ kept_by old = is.1.held ∙ get_held old.function (kept_by old) x in
    record { function = is.1.function; controls = ap (λ (h : RequestState). h.controls) held; settings = ap (λ (h : RequestState). h.settings) held }

pub got_as_before : (x : Element) (came : Option AnswerFields) (old new : LinkFields) → IsTransferred (get_of old.device.function.control_interface x) [] came old new → IsAsBefore old.device new.device
got_as_before x came old new transfer =
    as_before x came old.device new.device (went (get_of old.device.function.control_interface x) [] came old new transfer.answered)

-- ---- a SET CUR

-- it is answered Done, or a stall
pub set_answered : (x : Element) (sent : List ℕ) (told : AnswerFields) (old new : LinkFields) → IsTransferred (set_of old.device.function.control_interface x) sent (Some told) old new
    → (told ≡ is_done) ⊎ ((rule : ℕ) × (told ≡ is_stalled rule))
set_answered x sent told old new transfer =
    let same = told_by (set_of old.device.function.control_interface x) sent (Some told) old new transfer.answered told refl in
    elim (set_told old.device.function (kept_by old.device) x sent) [
      | inl done ↦ inl (same ∙ done)
      | inr stall ↦ inr (stall.0, same ∙ stall.1)
    ]

pub set_kept : (x : Element) (at : ℕ) (v : ℤ) (before after : ViewWorld) (old new : LinkFields) → slice_get before.elements at ≡ Some x → IsNarrow old.device.function.control_interface x → fits_element x.kind v ≡ true
    → IsMade (set_of old.device.function.control_interface x) (value_bytes (width_of x.kind) v) (Some is_done) before after old new
    → option_map (λ (y : Element). y.value) (slice_get after.elements at) ≡ Some (Some v)
set_kept x at v before after old new there n fits made =
    ap (λ (w : ViewWorld). option_map (λ (y : Element). y.value) (slice_get w.elements at)) made.view
    ∙ value_at old.device.function.control_interface (set_of old.device.function.control_interface x) (value_bytes (width_of x.kind) v) (Some is_done) before at x there
    ∙ ap (λ (w : Option ℤ). Some w) (value_set old.device.function.control_interface x v n fits)

pub set_lost : (x : Element) (at : ℕ) (sent : List ℕ) (before after : ViewWorld) (old new : LinkFields) → slice_get before.elements at ≡ Some x → IsNarrow old.device.function.control_interface x
    → IsMade (set_of old.device.function.control_interface x) sent None before after old new
    → option_map (λ (y : Element). y.value) (slice_get after.elements at) ≡ Some None
set_lost x at sent before after old new there n made =
    ap (λ (w : ViewWorld). option_map (λ (y : Element). y.value) (slice_get w.elements at)) made.view
    ∙ value_at old.device.function.control_interface (set_of old.device.function.control_interface x) sent None before at x there
    ∙ ap (λ (w : Option ℤ). Some w) (value_lost old.device.function.control_interface x sent n)

pub set_still : (x : Element) (sent : List ℕ) (rule : ℕ) (before after : ViewWorld) (old new : LinkFields)
    → IsMade (set_of old.device.function.control_interface x) sent (Some (is_stalled rule)) before after old new → after ≡ before
set_still x sent rule before after old new made = made.view ∙ set_stalled old.device.function.control_interface x sent rule before

-- ---- as the calls have it

setup_made : (type control : ℕ) (setup : Setup) (y : Element) (sent : List ℕ) (came : Option AnswerFields) (before after : ViewWorld) (old new : LinkFields) → setup ≡ element_setup type control y
    → control ≡ old.device.function.control_interface → IsMade setup sent came before after old new → IsMade (element_setup type old.device.function.control_interface y) sent came before after old new
setup_made type control setup y sent came before after old new is on made =
    subst (λ (p : Setup). IsMade p sent came before after old new) (is ∙ ap (λ (i : ℕ). element_setup type i y) on) made

-- what a get owes where the link didn't break
pub record GetDone (at : ℕ) (r : ℤ) (before after : ViewWorld) (old new : LinkFields) : Type 0 where
  pub made : (x : Element) → slice_get before.elements at ≡ Some x → IsMade (get_of old.device.function.control_interface x) [] (Some (with_bytes (value_bytes (width_of x.kind) r))) before after old new
  pub value : (x : Element) → slice_get before.elements at ≡ Some x → value_of old.device.controls x.key ≡ Some r
  pub as_before : IsAsBefore old.device new.device

module _ (control : ℕ) (setup : Setup) (y : Element) (at : ℕ) (before after : ViewWorld) (old new : LinkFields) (is : setup ≡ element_setup 161 control y) (on : control ≡ old.device.function.control_interface)
    (sound : IsSoundFunction old.device.function) (store : IsStoreOf old.device.function.entities old.device.controls) (of : IsViewOf old.device.function.entities before) (there : slice_get before.elements at ≡ Some y)
    (n : IsNarrow old.device.function.control_interface y) where
  get_step : (came : Option AnswerFields) → IsMade setup [] came before after old new → IsMade (get_of old.device.function.control_interface y) [] came before after old new
  get_step came made = setup_made 161 control setup y [] came before after old new is on made

  get_has : (told : AnswerFields) → IsMade setup [] (Some told) before after old new → HasGot old.device.function.control_interface y at (Some told) before after old.device
  get_has told made = got y at told before after old new sound store of there n (get_step (Some told) made)

  read_value : (told : AnswerFields) (z : Element) (made : IsMade setup [] (Some told) before after old new) → slice_get after.elements at ≡ Some z → z.value ≡ Some (get_has told made).value
  read_value told z made it =
      let kept : option_map (λ (w : Element). w.value) (Some z) ≡ Some (Some (get_has told made).value) = sym (ap (option_map (λ (w : Element). w.value)) it) ∙ (get_has told made).kept in
      cc

  pub get_some : (told : AnswerFields) (z : Element) → IsMade setup [] (Some told) before after old new → slice_get after.elements at ≡ Some z → IsSome z.value
  get_some told z made it = subst IsSome (sym (read_value told z made it)) refl

  pub get_done : (told : AnswerFields) (z : Element) (r r' : ℤ) → IsMade setup [] (Some told) before after old new → slice_get after.elements at ≡ Some z → z.value ≡ Some r → (FitsSigned w32 r → r' ≡ r) → GetDone at r' before after old new
  get_done told z r r' made it has back =
      let g : HasGot old.device.function.control_interface y at (Some told) before after old.device = get_has told made in
      let m : IsElementOf old.device.function.entities y = member_at old.device.function before at y sound of there in
      let h : IsHeldAs old.device.function.entities old.device.controls y = own_value old.device.function (kept_by old.device) y store m n in
      let both : Some g.value ≡ Some r = sym (read_value told z made it) ∙ has in
      let same : g.value ≡ r = cc in
      let also : Some h.value ≡ Some g.value = sym h.is ∙ g.is in
      let one : h.value ≡ r = cc in
      let out : r' ≡ g.value = back (subst (FitsSigned w32) one (narrow y.kind h.value h.fits)) ∙ sym same in
      let own : IsMade (get_of old.device.function.control_interface y) [] (Some (with_bytes (value_bytes (width_of y.kind) r'))) before after old new =
      subst (λ (c : Option AnswerFields). IsMade (get_of old.device.function.control_interface y) [] c before after old new) (g.told ∙ ap (λ (v : ℤ). Some (with_bytes (value_bytes (width_of y.kind) v))) (sym out)) (get_step (Some told) made) in
      record {
        made = λ x at_x. subst (λ (e : Element). IsMade (get_of old.device.function.control_interface e) [] (Some (with_bytes (value_bytes (width_of e.kind) r'))) before after old new) (one_element before.elements at x y there at_x) own;
        value = λ x at_x. subst (λ (e : Element). value_of old.device.controls e.key ≡ Some r') (one_element before.elements at x y there at_x) (g.is ∙ ap (λ (v : ℤ). Some v) (sym out));
        as_before = got_as_before y (Some told) old new (get_step (Some told) made).transfer;
      }

  pub get_fails : IsMade setup [] None before after old new → (after ≡ before) × IsAsBefore old.device new.device
  get_fails made = (got_none y before after old new (get_step None made), got_as_before y None old new (get_step None made).transfer)

-- what a set owes
pub record SetDone (at : ℕ) (v : ℤ) (r : Result (Unit {0}) SetFault) (before after : ViewWorld) (old new : LinkFields) : Type 0 where
  pub made : (x : Element) → slice_get before.elements at ≡ Some x → IsMade (set_of old.device.function.control_interface x) (value_bytes (width_of x.kind) v) (came_of_set r) before after old new
  pub done : OnOk r (option_map (λ (w : Element). w.value) (slice_get after.elements at) ≡ Some (Some v))
  pub stalled : (rule : ℕ) → r ≡ Err (refusals.Stalled rule) → after ≡ before
  pub unknown : r ≡ Err refusals.Broken → option_map (λ (w : Element). w.value) (slice_get after.elements at) ≡ Some None

on_ok : (P : Type 0) (r : Result (Unit {0}) SetFault) → (came_of_set r ≡ Some is_done → P) → OnOk r P
on_ok P (Ok u) h = h refl
on_ok P (Err e) h = tt

module _ (control : ℕ) (setup : Setup) (y : Element) (at : ℕ) (v : ℤ) (sent : List ℕ) (before after : ViewWorld) (old new : LinkFields) (is : setup ≡ element_setup 33 control y) (on : control ≡ old.device.function.control_interface)
    (bytes : sent ≡ value_bytes (width_of y.kind) v) (there : slice_get before.elements at ≡ Some y) (n : IsNarrow old.device.function.control_interface y) (fits : fits_element y.kind v ≡ true) where
  set_step : (came : Option AnswerFields) → IsMade setup sent came before after old new → IsMade (set_of old.device.function.control_interface y) (value_bytes (width_of y.kind) v) came before after old new
  set_step came made =
      subst (λ (bs : List ℕ). IsMade (set_of old.device.function.control_interface y) bs came before after old new) bytes (setup_made 33 control setup y sent came before after old new is on made)

  pub set_all : (came : Option AnswerFields) (r : Result (Unit {0}) SetFault) → came ≡ came_of_set r → IsMade setup sent came before after old new → SetDone at v r before after old new
  set_all came r same made =
      let own : IsMade (set_of old.device.function.control_interface y) (value_bytes (width_of y.kind) v) (came_of_set r) before after old new =
      subst (λ (c : Option AnswerFields). IsMade (set_of old.device.function.control_interface y) (value_bytes (width_of y.kind) v) c before after old new) same (set_step came made) in
      record {
        made = λ x at_x. subst (λ (e : Element). IsMade (set_of old.device.function.control_interface e) (value_bytes (width_of e.kind) v) (came_of_set r) before after old new) (one_element before.elements at x y there at_x) own;
        done = on_ok (option_map (λ (w : Element). w.value) (slice_get after.elements at) ≡ Some (Some v)) r
            (λ ok. set_kept y at v before after old new there n fits (subst (λ (c : Option AnswerFields). IsMade (set_of old.device.function.control_interface y) (value_bytes (width_of y.kind) v) c before after old new) ok own));
        stalled = λ rule e. set_still y (value_bytes (width_of y.kind) v) rule before after old new
            (subst (λ (c : Option AnswerFields). IsMade (set_of old.device.function.control_interface y) (value_bytes (width_of y.kind) v) c before after old new) (ap came_of_set e) own);
        unknown = λ e. set_lost y at (value_bytes (width_of y.kind) v) before after old new there n
            (subst (λ (c : Option AnswerFields). IsMade (set_of old.device.function.control_interface y) (value_bytes (width_of y.kind) v) c before after old new) (ap came_of_set e) own);
      }

  pub set_answer : (told : AnswerFields) (r : Result (Unit {0}) SetFault) → (told ≡ is_done → came_of_set r ≡ Some is_done) → ((rule : ℕ) → told ≡ is_stalled rule → came_of_set r ≡ Some (is_stalled rule))
      → IsMade setup sent (Some told) before after old new → SetDone at v r before after old new
  set_answer told r done stalled made =
      set_all (Some told) r (came (set_answered y (value_bytes (width_of y.kind) v) told old new (set_step (Some told) made).transfer)) made where
        came : ((told ≡ is_done) ⊎ ((rule : ℕ) × (told ≡ is_stalled rule))) → Some told ≡ came_of_set r
        came (inl is) = ap (λ (t : AnswerFields). Some t) is ∙ sym (done is)
        came (inr is) = ap (λ (t : AnswerFields). Some t) is.1 ∙ sym (stalled is.0 is.1)
