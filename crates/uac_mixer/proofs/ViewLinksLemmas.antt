-- What one transfer through a link makes of the device and of the view.
use Rattle.std.proofs.Common.{◌≡◌, ◌∙◌, refl, ap, sym, subst, ℕ, ◌⊎◌, ℤ, List, [], ◌∷◌, map, Option, Some, None, inl, inr}
use Rattle.std.specs.List.{All}
use Rattle.uac_entities.specs.declared.entity.Entity.{Entity}
use Rattle.uac_topology.specs.Function.{FunctionFields}
use Rattle.uac_topology.specs.Topology.{IsSoundFunction}
use Rattle.uac_store.specs.declared.keys.Key.{Key}
use Rattle.uac_store.specs.StoreControls.{IsStoreOf}
use Rattle.uac_request.specs.Requests.{RequestState, AnswerFields, after_request, request_state, reply_of}
use Rattle.uac_request.specs.declared.setup.Setup.{Setup}
use Rattle.uac_device.specs.DeviceKept.{DeviceFields, IsControlled}
use Rattle.uac_mixer.specs.declared.link.When.{When}
use Rattle.uac_mixer.specs.declared.link.When.TheVariants as when
use Rattle.uac_mixer.specs.declared.element.Element.{Element}
use Rattle.uac_mixer.specs.MixerElements.{with_no_value}
use Rattle.uac_mixer.specs.ViewLinks.{BreaksAs, IsAnswered, IsTransferred, LinkFields}
use Rattle.uac_mixer.specs.ViewTransfers.{element_after, view_after}
use Rattle.uac_mixer.specs.ViewWorld.{IsViewOf, ViewWorld}
use Rattle.uac_mixer.specs.Agreement.{IsAgreed, IsMade}
use Rattle.uac_mixer.specs.Readable.{IsReadable}
use Rattle.uac_mixer.proofs.MixerElementsListLemmas.{IsElementOf, members}
use Rattle.uac_mixer.proofs.AgreementStartLemmas.{stays}
use Rattle.uac_mixer.proofs.AgreementLemmas.{agreement, readable}

-- what the device keeps that a request may change
abbrev pub kept_by : DeviceFields → RequestState
kept_by d = request_state d.controls d.settings

-- the device wasn't reached, or it acted
abbrev pub Went : Setup → List ℕ → Option AnswerFields → DeviceFields → DeviceFields → Type 0
Went p sent came old new = ((came ≡ None) × (new ≡ old)) ⊎ ((told : AnswerFields) × IsControlled p sent told old new × ((came ≡ None) ⊎ (came ≡ Some told)))

broke : (p : Setup) (sent : List ℕ) (at : When) (old new : LinkFields) → BreaksAs at p sent old new → Went p sent None old.device new.device
broke p sent when.Before old new is = inl (refl, is.device)
broke p sent when.After old new is = inr (is.0, is.1.device, inl refl)

pub went : (p : Setup) (sent : List ℕ) (came : Option AnswerFields) (old new : LinkFields) → IsAnswered p sent came old new → Went p sent came old.device new.device
went p sent None old new is = broke p sent is.1.0 old new is.1.1
went p sent (Some told) old new is = inr (told, is.device, inr refl)

pub told_by : (p : Setup) (sent : List ℕ) (came : Option AnswerFields) (old new : LinkFields) → IsAnswered p sent came old new
    → (told : AnswerFields) → came ≡ Some told → told ≡ reply_of old.device.function (kept_by old.device) p sent
told_by p sent came old new answered told is = (subst (λ (c : Option AnswerFields). IsAnswered p sent c old new) is answered).device.answer

controls_after : (p : Setup) (sent : List ℕ) (told : AnswerFields) (old new : DeviceFields) → IsControlled p sent told old new → new.controls ≡ (after_request old.function (kept_by old) p sent).controls
controls_after p sent told old new is = ap (λ (h : RequestState). h.controls) is.held

pub same_function : (p : Setup) (sent : List ℕ) (came : Option AnswerFields) (old new : DeviceFields) → Went p sent came old new → new.function ≡ old.function
same_function p sent came old new (inl is) = ap (λ (d : DeviceFields). d.function) is.1
same_function p sent came old new (inr is) = is.1.function

stored_after : (p : Setup) (sent : List ℕ) (came : Option AnswerFields) (old new : DeviceFields) → Went p sent came old new → IsStoreOf old.function.entities old.controls → IsStoreOf new.function.entities new.controls
stored_after p sent came old new (inl is) store = subst (λ (d : DeviceFields). IsStoreOf d.function.entities d.controls) (sym is.1) store
stored_after p sent came old new (inr is) store =
    subst (λ (f : FunctionFields). IsStoreOf f.entities new.controls) (sym is.1.function)
    (subst (λ (c : List (Key × ℤ)). IsStoreOf old.function.entities c) (sym (controls_after p sent is.0 old new is.1)) (stays old.function (kept_by old) p sent store))

agreed_after : (p : Setup) (sent : List ℕ) (came : Option AnswerFields) (old new : DeviceFields) (view : ViewWorld) → Went p sent came old new → IsStoreOf old.function.entities old.controls
    → All (IsElementOf old.function.entities) view.elements → IsAgreed old.controls view → IsAgreed new.controls (view_after old.function.control_interface p sent came view)
agreed_after p sent came old new view (inl is) store are agreed =
    subst (λ (c : Option AnswerFields). IsAgreed new.controls (view_after old.function.control_interface p sent c view)) (sym is.0)
    (subst (λ (d : DeviceFields). IsAgreed d.controls (view_after old.function.control_interface p sent None view)) (sym is.1)
    (agreement old.function (kept_by old) p sent view store are agreed).broken_before)
agreed_after p sent came old new view (inr (told, acted, (inl none))) store are agreed =
    subst (λ (c : Option AnswerFields). IsAgreed new.controls (view_after old.function.control_interface p sent c view)) (sym none)
    (subst (λ (c : List (Key × ℤ)). IsAgreed c (view_after old.function.control_interface p sent None view)) (sym (controls_after p sent told old new acted))
    (agreement old.function (kept_by old) p sent view store are agreed).broken_after)
agreed_after p sent came old new view (inr (told, acted, (inr some))) store are agreed =
    subst (λ (c : Option AnswerFields). IsAgreed new.controls (view_after old.function.control_interface p sent c view)) (sym (some ∙ ap (λ (t : AnswerFields). Some t) acted.answer))
    (subst (λ (c : List (Key × ℤ)). IsAgreed c (view_after old.function.control_interface p sent (Some (reply_of old.function (kept_by old) p sent)) view)) (sym (controls_after p sent told old new acted))
    (agreement old.function (kept_by old) p sent view store are agreed).answered)

-- the view is still of the function
still_of : (control : ℕ) (p : Setup) (sent : List ℕ) (came : Option AnswerFields) (xs : List Element) → map with_no_value (map (element_after control p sent came) xs) ≡ map with_no_value xs
still_of control p sent came [] = refl
still_of control p sent came (x ∷ xs) = ap (λ ys. with_no_value x ∷ ys) (still_of control p sent came xs)

pub viewed : (control : ℕ) (p : Setup) (sent : List ℕ) (came : Option AnswerFields) (entities : List Entity) (view : ViewWorld) → IsViewOf entities view → IsViewOf entities (view_after control p sent came view)
unfolding view_after
viewed control p sent came entities view is = still_of control p sent came view.elements ∙ is

pub made : (p : Setup) (sent : List ℕ) (came : Option AnswerFields) (before after : ViewWorld) (old new : LinkFields) → IsSoundFunction old.device.function
    → IsStoreOf old.device.function.entities old.device.controls → IsViewOf old.device.function.entities before → IsTransferred p sent came old new
    → after ≡ view_after old.device.function.control_interface p sent came before → IsMade p sent came before after old new
made p sent came before after old new sound store is transfer view =
    let way = went p sent came old new transfer.answered in
    let function : new.device.function ≡ old.device.function = same_function p sent came old.device new.device way in
    let are = members old.device.function before sound is in
    record {
      transfer = transfer;
      view = view;
      function = function;
      of_function = subst (λ (f : FunctionFields). IsViewOf f.entities after) (sym function) (subst (λ (v : ViewWorld). IsViewOf old.device.function.entities v) (sym view) (viewed old.device.function.control_interface p sent came old.device.function.entities before is));
      stored = stored_after p sent came old.device new.device way store;
      agreed = λ agreed. subst (λ (v : ViewWorld). IsAgreed new.device.controls v) (sym view) (agreed_after p sent came old.device new.device before way store are agreed);
    }

pub readable_made : (p : Setup) (sent : List ℕ) (came : Option AnswerFields) (before : ViewWorld) (old new : LinkFields) → IsSoundFunction old.device.function
    → IsStoreOf old.device.function.entities old.device.controls → IsViewOf old.device.function.entities before → IsTransferred p sent came old new
    → All (IsReadable old.device.function.control_interface p sent came) before.elements
readable_made p sent came before old new sound store is transfer =
    readable old.device.function (kept_by old.device) p sent came before store (members old.device.function before sound is) (told_by p sent came old new transfer.answered)

-- a device that answered a request still has a value for each of its controls
pub stored_by : (p : Setup) (sent : List ℕ) (told : AnswerFields) (old new : DeviceFields) → IsControlled p sent told old new → IsStoreOf old.function.entities old.controls
    → IsStoreOf new.function.entities new.controls
stored_by p sent told old new is store = stored_after p sent (Some told) old new (inr (told, is, inr refl)) store

-- ---- as the calls have it

module _ (control : ℕ) (p : Setup) (sent : List ℕ) (came : Option AnswerFields) (before : ViewWorld) (old : LinkFields) (is : control ≡ old.device.function.control_interface) where
  pub readable_step : All (IsReadable old.device.function.control_interface p sent came) before.elements → All (IsReadable control p sent came) before.elements
  readable_step readable = subst (λ (i : ℕ). All (IsReadable i p sent came) before.elements) (sym is) readable

  pub view_step : (after : ViewWorld) → after ≡ view_after control p sent came before → after ≡ view_after old.device.function.control_interface p sent came before
  view_step after view = view ∙ ap (λ (i : ℕ). view_after i p sent came before) is
