-- A link between the host and a device, over which transfers may break (profile).
use Rattle.std.specs.Prelude.{◌≡◌, ◌↔◌, ℕ, ◌<◌, ◌≤◌, ◌+◌, List, [], ◌∷◌, Option, Some, None, IsSome}
use Rattle.uac_pcm.specs.Counts.{at_most_u64}
use Rattle.uac_request.specs.Requests.{AnswerFields}
use Rattle.uac_request.specs.declared.setup.Setup.{Setup}
use Rattle.uac_device.specs.DeviceWorld.{BegunFields, begun_by}
use Rattle.uac_device.specs.DeviceKept.{DeviceFields, IsControlled}
use Rattle.uac_mixer.specs.declared.element.Element.{Element}
use Rattle.uac_mixer.specs.declared.link.When.{When}
use Rattle.uac_mixer.specs.declared.link.When.TheVariants as when
use Rattle.uac_mixer.specs.ViewTransfers.{get_of}

-- what a link is seen as
pub record LinkFields : Type 0 where
  -- the device at its end
  pub device : DeviceFields
  -- the last answer that the device gave through this link, if any, and what that request began
  pub last : Option AnswerFields
  pub began : Option BegunFields
  -- how many transfers were begun so far, and how many broke
  pub transfers : ℕ
  pub breaks : ℕ
  -- the fault of the next transfer, where the link tells it: none, or when it breaks
  pub fault : Option (Option When)

-- the device wasn't reached
pub record IsUntouched (old new : LinkFields) : Type 0 where
  pub device : new.device ≡ old.device
  pub last : new.last ≡ old.last
  pub began : new.began ≡ old.began

-- the device acted and answered this
pub record HasActed (p : Setup) (sent : List ℕ) (told : AnswerFields) (old new : LinkFields) : Type 0 where
  pub device : IsControlled p sent told old.device new.device
  pub last : new.last ≡ Some told
  pub began : new.began ≡ begun_by old.device.function old.device.controls p told

-- a transfer broke before the device acted, or after
abbrev pub BreaksAs : When → Setup → List ℕ → LinkFields → LinkFields → Type 0
BreaksAs when.Before p sent old new = IsUntouched old new
BreaksAs when.After p sent old new = (told : AnswerFields) × HasActed p sent told old new

-- what a transfer made of a link, by what came back: what it was told, or none where it broke
abbrev pub IsAnswered : Setup → List ℕ → Option AnswerFields → LinkFields → LinkFields → Type 0
IsAnswered p sent (Some told) old new = HasActed p sent told old new
IsAnswered p sent None old new = (old.breaks < new.breaks) × ((at : When) × BreaksAs at p sent old new)

-- where the link tells the fault of the transfer, it breaks exactly by that, and no fault is told after it
pub record BreaksAsFaultSays (fault : Option When) (p : Setup) (sent : List ℕ) (came : Option AnswerFields) (old new : LinkFields) : Type 0
  where
    pub breaks : (came ≡ None) ↔ IsSome fault
    pub at : (w : When) → fault ≡ Some w → BreaksAs w p sent old new
    pub over : new.fault ≡ Some None

-- one transfer through a link
pub record IsTransferred (p : Setup) (sent : List ℕ) (came : Option AnswerFields) (old new : LinkFields) : Type 0 where
  pub counted : new.transfers ≡ at_most_u64 (old.transfers + 1)
  pub never_falls : old.breaks ≤ new.breaks
  pub answered : IsAnswered p sent came old new
  pub told : (fault : Option When) → old.fault ≡ Some fault → BreaksAsFaultSays fault p sent came old new

-- the device answered the GET CUR of each of these elements in turn
abbrev pub AreAsked : ℕ → List Element → DeviceFields → DeviceFields → Type 0
AreAsked control [] old new = new ≡ old
AreAsked control (x ∷ xs) old new =
    (between : DeviceFields) × (told : AnswerFields) × IsControlled (get_of control x) [] told old between × AreAsked control xs between new

-- a device's function, its controls and its settings are as they were
pub record IsAsBefore (old new : DeviceFields) : Type 0 where
  pub function : new.function ≡ old.function
  pub controls : new.controls ≡ old.controls
  pub settings : new.settings ≡ old.settings
