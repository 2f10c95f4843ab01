-- One run of a script, as its source and its sink see it, for any machine (profile).
use Rattle.std.specs.Prelude.{◌≡◌, ◌≢◌, ◌≤◌, ℕ, ◌+◌, ◌⊎◌, List, ◌++◌, length, Some}
use Rattle.uac_lines.specs.ScriptLines.{most_of_input, script_piece}
use Rattle.uac_ends.specs.declared.status.Status.{Status}
use Rattle.uac_ends.specs.declared.status.Status.TheVariants as statuses
use Rattle.uac_ends.specs.Closing.{ComesTo, HasEnded, HasReadCause, HasWriteCause, IsClosed, IsFaultless, IsReadToEnd, MeetsNoFault}
use Rattle.uac_ends.specs.Outcome.{End, at_end, stopped, no_more_lines}
use Rattle.uac_ends.specs.Outside.{Outside, Takes}
use Rattle.uac_runner.specs.Machine.{Machine}
use Rattle.uac_runner.specs.Transcript.{Ending, transcript, outcome_of}
use Rattle.uac_runner.specs.Done.{IsDone, IsWanted}

-- Taking stopped at the refusal: what was taken before the last piece comes to no last line, whatever follows it.
pub record StopsAtRefusal {W L : Type 0} (m : Machine W L) (w : W) (taken : List ℕ) : Type 0 where
  pub front : List ℕ
  pub piece : List ℕ
  pub parts : taken ≡ front ++ piece
  pub going : (transcript m w front stopped).last ≡ no_more_lines
  pub short : length piece ≤ script_piece

-- At most one byte is taken past the limit, and none of the lines in all but at most the last 8,192 bytes is refused.
abbrev pub IsPrompt : {W L : Type 0} → Machine W L → W → List ℕ → Type 0
IsPrompt m w taken = (length taken ≤ most_of_input + 1) × StopsAtRefusal m w taken

-- What a script comes to from this world on: the bytes that were taken, why no more were, and how it ended. It is the transcript of
-- these bytes, or memory was wanted at a line that takes some; and it goes line by line. What stands beside the machine shows the
-- world after the lines done, unless a write failed.
pub record IsRun {W L : Type 0} (m : Machine W L) (w : W) (Shows : W → Type 0) (before after : Outside) (status : Status) : Type 0 where
  pub taken : List ℕ
  pub end : End
  pub ending : Ending W L
  pub consumed : Takes taken before after
  pub ended : HasEnded end before after
  pub prompt : IsPrompt m w taken
  pub meant : (ending ≡ transcript m w taken end) ⊎ IsWanted m w taken ending
  pub lived : IsDone m w taken ending
  pub closed : IsClosed (outcome_of m ending) before after status
  -- `no memory` is told only where memory was wanted
  pub wanted : status ≡ statuses.NoMemory → IsWanted m w taken ending
  pub shows : status ≢ statuses.WriteFault → Shows ending.world

-- Where the source has these bytes and no more, and no read and no write failed, the run has the status of all of them and wrote
-- their whole text; or memory was wanted.
abbrev pub IsComplete : {W L : Type 0} → Machine W L → W → Outside → Outside → Status → Type 0
IsComplete m w before after status =
    (bytes : List ℕ) → before.left ≡ Some bytes → MeetsNoFault before after
    → ComesTo (outcome_of m (transcript m w bytes at_end)) before after status ⊎ (status ≡ statuses.NoMemory)

-- a call that runs a script from this world on
pub record Runs {W L : Type 0} (m : Machine W L) (w : W) (Shows : W → Type 0) (before after : Outside) (status : Status) : Type 0 where
  pub run : IsRun m w Shows before after status
  pub complete : IsComplete m w before after status
  pub read_fault : HasReadCause before after status
  pub write_fault : HasWriteCause before after status
  pub faultless : IsFaultless before after status
  pub ok : IsReadToEnd after status
