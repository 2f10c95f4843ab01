-- One call of the program with meters of its own (profile).
use Rattle.std.specs.Prelude.{◌≡◌, ◌≢◌, ℕ, true, List, [], ◌∷◌, Option}
use Rattle.std.specs.Io.KnownBytes.{IsAtEnd}
use Rattle.uac_units.specs.Hearing.{Reading}
use Rattle.uac_units.specs.declared.meter.MeterKind.TheVariants.{Peak, Clipped, Sum}
use Rattle.uac_words.specs.declared.commands.Invocation.{Invocation}
use Rattle.uac_ends.specs.declared.status.Status.{Status}
use Rattle.uac_ends.specs.declared.status.Status.TheVariants as statuses
use Rattle.uac_ends.specs.Closing.{HasReadCause, HasWriteCause, IsFaultless}
use Rattle.uac_ends.specs.Outside.{Outside}
use Rattle.uac_scripts.specs.Surroundings.{Surroundings, surroundings}
use Rattle.uac_call.specs.Call.{IsCall, ask_to_read}
use Rattle.uac_call.specs.Completeness.{IsCompleteCall}

-- what the three meters show that have heard nothing
abbrev pub fresh_readings : List Reading
fresh_readings = record { kind = Peak; value = 0 } ∷ record { kind = Clipped; value = 0 } ∷ record { kind = Sum; value = 0 } ∷ []

-- a source and a sink, and such meters
abbrev pub freshly : Outside → Surroundings
freshly outer = surroundings outer fresh_readings

-- What a call comes to with such meters, which show something at its end.
pub record IsFreshCall (words : Option Invocation) (before after : Outside) (status : Status) : Type 0 where
  pub shown' : List Reading
  pub call : IsCall words (freshly before) (surroundings after shown') status

-- What the whole input of such a call comes to.
abbrev pub IsCompleteFreshCall : Option Invocation → Outside → Outside → Status → Type 0
IsCompleteFreshCall words before after status = IsCompleteCall words (freshly before) (freshly after) status

-- All that holds of such a call: what it comes to; that each fault of the outside has its cause in it, and that one that tells of none met
-- none; that the whole input was read; what the whole input comes to; and that no byte waits to be handed on.
pub record IsFreshRun (words : Option Invocation) (before after : Outside) (waiting' : ℕ) (status : Status) : Type 0 where
  pub call : IsFreshCall words before after status
  pub read_fault : HasReadCause before after status
  pub write_fault : HasWriteCause before after status
  pub faultless : IsFaultless before after status
  pub ok : status ≡ statuses.Ok → ask_to_read words ≡ true → IsAtEnd after.left
  pub complete : IsCompleteFreshCall words before after status
  pub handed_on : status ≢ statuses.WriteFault → waiting' ≡ 0
