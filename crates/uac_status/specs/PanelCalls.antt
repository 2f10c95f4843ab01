-- What a turned knob leaves of the device, and a followed message of the view and the link.
use Rattle.std.specs.Prelude.{◌≡◌, Bool, ℤ, List, [], Option, Some, is_some}
use Rattle.uac_store.specs.declared.keys.Key.{Key}
use Rattle.uac_store.specs.Keyed.{value_of}
use Rattle.uac_request.specs.Requests.{AnswerFields}
use Rattle.uac_device.specs.DeviceWorld.{DeviceWorld}
use Rattle.uac_device.specs.DeviceKept.{DeviceFields, DeviceStands}
use Rattle.uac_mixer.specs.Agreement.{IsMade}
use Rattle.uac_mixer.specs.ViewLinks.{LinkFields}
use Rattle.uac_mixer.specs.ViewTransfers.{get_of}
use Rattle.uac_mixer.specs.ViewWorld.{ViewWorld}
use Rattle.uac_mixer.specs.declared.element.Element.{Element}
use Rattle.uac_status.specs.declared.panel.Turned.{Turned}
use Rattle.uac_status.specs.declared.panel.Turned.TheVariants as came
use Rattle.uac_status.specs.Messages.{element_keyed}
use Rattle.uac_status.specs.Knobs.{KnobOutcome, knob_stalls, knob_rests, knob_changes, controls_turned}

-- what a knob is answered
abbrev pub outcome_of : Turned → KnobOutcome
outcome_of (came.Stall rule) = knob_stalls rule
outcome_of came.Same = knob_rests
outcome_of came.Done = knob_changes

-- the device after a knob: its controls are those after it, and all else stays; so where the knob changes nothing, the device stands for
-- each world for which it stood
pub record IsTurned (outcome : KnobOutcome) (k : Key) (value : ℤ) (old new : DeviceFields) : Type 0 where
  pub function : new.function ≡ old.function
  pub settings : new.settings ≡ old.settings
  pub controls : new.controls ≡ controls_turned outcome k value old.controls
  pub stands : (w : DeviceWorld) → DeviceStands old w → DeviceStands new (record w { controls = controls_turned outcome k value w.controls })

-- the element of a message was got over the link: this came back, and it was answered or it broke
pub record IsFollowed (answered : Bool) (x : Element) (before after : ViewWorld) (old new : LinkFields) : Type 0 where
  pub came : Option AnswerFields
  pub made : IsMade (get_of old.device.function.control_interface x) [] came before after old new
  pub is_answered : is_some came ≡ answered

-- the element with a key is known to have the device's value
pub record IsKnownNow (controls : List (Key × ℤ)) (elements : List Element) (k : Key) : Type 0 where
  pub element : Element
  pub value : ℤ
  pub found : element_keyed elements k ≡ Some element
  pub known : element.value ≡ Some value
  pub is : value_of controls k ≡ Some value
