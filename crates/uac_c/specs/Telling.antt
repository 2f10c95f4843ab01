-- What a call from C leaves: the program's text in the caller's room, and the number of its status (profile).
use Rattle.std.specs.Prelude.{◌≡◌, ℕ, ◌<◌, ◌⊎◌, Bool, true, false, List, [], ◌∷◌, ◌++◌, length, take, drop, codes, Option, None, Some}
use Rattle.uac_words.specs.declared.commands.Invocation.{Invocation}
use Rattle.uac_words.specs.Plain.{CommandWord, plainly}
use Rattle.uac_ends.specs.declared.status.Status.TheVariants as statuses
use Rattle.uac_ends.specs.Exit.{exit_number}
use Rattle.uac_ends.specs.Outcome.{Outcome}
use Rattle.uac_call.specs.Call.{usage}
use Rattle.uac_call.specs.Completeness.{InputComesTo}
use Rattle.uac_boxes.specs.Boxes.{fresh_readings}

-- what a command comes to over an input that is these bytes and no more, with meters that have heard nothing; where the words ask for none
-- it is how the program is used
abbrev pub InvocationComesTo : Option Invocation → List ℕ → Outcome → Type 0
InvocationComesTo None input outcome = usage ≡ outcome
InvocationComesTo (Some words) input outcome = InputComesTo words.command fresh_readings input outcome

-- what the program comes to with these words, where there is memory
abbrev pub CallComesTo : List CommandWord → List ℕ → Outcome → Type 0
CallComesTo words input outcome = InvocationComesTo (plainly words) input outcome

-- the words that choose a rack: that of lanes, or the plain one
abbrev pub rack_words : Bool → List CommandWord
rack_words true = codes "--rack" ∷ codes "lanes" ∷ []
rack_words false = codes "--rack" ∷ codes "plain" ∷ []

-- The number is that of the outcome's status, the room begins with its whole text, and its other bytes are as they were.
pub record IsWhole (outcome : Outcome) (old new : List ℕ) (written number : ℕ) : Type 0 where
  pub status : number ≡ exit_number outcome.status
  pub count : written ≡ length outcome.text
  pub text : new ≡ outcome.text ++ drop written old

-- The outcome's text is longer than the room, which is full of its front.
pub record IsCut (outcome : Outcome) (old new : List ℕ) (written number : ℕ) : Type 0 where
  pub status : number ≡ exit_number statuses.WriteFault
  pub longer : length old < length outcome.text
  pub count : written ≡ length old
  pub text : new ≡ take written outcome.text

-- There was no memory, and nothing was written.
pub record IsUnwritten (old new : List ℕ) (written number : ℕ) : Type 0 where
  pub status : number ≡ exit_number statuses.NoMemory
  pub count : written ≡ 0
  pub text : new ≡ old

-- what stands in the room then: the whole text, its front, or nothing
abbrev pub Tells : Outcome → List ℕ → List ℕ → ℕ → ℕ → Type 0
Tells outcome old new written number = IsWhole outcome old new written number ⊎ (IsCut outcome old new written number ⊎ IsUnwritten old new written number)

-- What a call leaves with these words, over this whole input: it comes to something, that is told, and the number of a write fault
-- says only that the text is longer than the room.
pub record IsTold (words : List CommandWord) (input old new : List ℕ) (written number : ℕ) : Type 0 where
  pub some : (outcome : Outcome) × CallComesTo words input outcome
  pub told : (outcome : Outcome) → CallComesTo words input outcome → Tells outcome old new written number
  pub cut : (outcome : Outcome) → CallComesTo words input outcome → number ≡ exit_number statuses.WriteFault → length old < length outcome.text
