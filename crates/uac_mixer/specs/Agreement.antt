-- What the host knows of a device is so: each known value is the device's.
use Rattle.std.specs.Prelude.{◌≡◌, ℕ, ◌≤◌, Bool, true, false, ℤ, List, Option, Some, None, IfSome}
use Rattle.std.specs.List.{All}
use Rattle.uac_store.specs.declared.keys.Key.{Key}
use Rattle.uac_store.specs.StoreControls.{IsStoreOf, initial_controls}
use Rattle.uac_store.specs.Keyed.{value_of}
use Rattle.uac_topology.specs.Function.{FunctionFields}
use Rattle.uac_topology.specs.Topology.{IsSoundFunction}
use Rattle.uac_request.specs.Requests.{RequestState, AnswerFields, after_request, is_done_answer, reply_of}
use Rattle.uac_request.specs.declared.setup.Setup.{Setup}
use Rattle.uac_device.specs.DeviceWorld.{DeviceWorld}
use Rattle.uac_device.specs.DeviceKept.{DeviceFields, DeviceStands, IsControlled}
use Rattle.uac_mixer.specs.declared.element.Element.{Element}
use Rattle.uac_mixer.specs.MixerElements.{element_list}
use Rattle.uac_mixer.specs.ViewLinks.{AreAsked, IsAsBefore, IsTransferred, LinkFields}
use Rattle.uac_mixer.specs.ViewWorld.{IsViewOf, ViewWorld}
use Rattle.uac_mixer.specs.ViewTransfers.{view_after}

-- each known value is that of the device, whose controls have these values
abbrev pub IsAgreed : List (Key × ℤ) → ViewWorld → Type 0
IsAgreed controls view = All (λ x. IfSome x.value (λ v. value_of controls x.key ≡ Some v)) view.elements

-- ---- the laws

-- at the start each control of a sound function has a value that it takes
abbrev pub ControlsStart : Type 0
ControlsStart = (function : FunctionFields) → IsSoundFunction function → IsStoreOf function.entities (initial_controls function.entities)

-- no request changes that
abbrev pub ControlsStay : Type 0
ControlsStay = (function : FunctionFields) (held : RequestState) (p : Setup) (sent : List ℕ) → IsStoreOf function.entities held.controls
    → IsStoreOf function.entities (after_request function held p sent).controls

-- what is known stays so, whatever came back of a transfer: an answer, a break after the device acted, or one before
pub record StaysAgreed (function : FunctionFields) (held : RequestState) (p : Setup) (sent : List ℕ) (view : ViewWorld) : Type 0 where
  pub answered :
      IsAgreed (after_request function held p sent).controls
      (view_after function.control_interface p sent (Some (reply_of function held p sent)) view)
  pub broken_after : IsAgreed (after_request function held p sent).controls (view_after function.control_interface p sent None view)
  pub broken_before : IsAgreed held.controls (view_after function.control_interface p sent None view)

abbrev pub KnownValuesStay : Type 0
KnownValuesStay = (function : FunctionFields) (held : RequestState) (p : Setup) (sent : List ℕ) (view : ViewWorld)
    → IsSoundFunction function → IsStoreOf function.entities held.controls → IsViewOf function.entities view → IsAgreed held.controls view
    → StaysAgreed function held p sent view

-- what isn't a SET that is done leaves all of the device as it was: what it is, holds and is set to, and each world for which it stood,
-- streams, rings and clocks included
abbrev pub OnlySetsChangeTheDevice : Type 0
OnlySetsChangeTheDevice = (p : Setup) (sent : List ℕ) (told : AnswerFields) (old new : DeviceFields) (w : DeviceWorld)
    → IsControlled p sent told old new → is_done_answer told ≡ false → DeviceStands old w → IsAsBefore old new × DeviceStands new w

-- ---- what a view's calls do

-- one transfer through a link, by what came back, and what it made of the view of the link's function
pub record IsMade (p : Setup) (sent : List ℕ) (came : Option AnswerFields) (before after : ViewWorld) (old new : LinkFields) : Type 0 where
  pub transfer : IsTransferred p sent came old new
  pub view : after ≡ view_after old.device.function.control_interface p sent came before
  pub function : new.device.function ≡ old.device.function
  pub of_function : IsViewOf new.device.function.entities after
  pub stored : IsStoreOf new.device.function.entities new.device.controls
  pub agreed : IsAgreed old.device.controls before → IsAgreed new.device.controls after

-- elements of the link's function were read, one after another: all of them, where that succeeded
pub record IsElementRead (whole : Bool) (old new : LinkFields) : Type 0 where
  pub never_falls : old.breaks ≤ new.breaks
  pub asked : (xs : List Element) × AreAsked old.device.function.control_interface xs old.device new.device
  pub all : whole ≡ true → AreAsked old.device.function.control_interface (element_list old.device.function.entities) old.device new.device
  pub as_before : IsAsBefore old.device new.device
  pub told : old.fault ≡ Some None → new.fault ≡ Some None
