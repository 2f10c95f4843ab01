-- A script's run on the bus, as its source, its sink and its meters see it, and what is promised of it (profile).
use Rattle.std.specs.Prelude.{◌≡◌, ◌≤◌, ℕ, ℤ, true, List, ◌∷◌, ◌++◌, map, Ok}
use Rattle.uac_ends.specs.declared.status.Status.{Status}
use Rattle.uac_rows.specs.BusWorld.{BusWorld, meters_in, start}
use Rattle.uac_promises.specs.Scripts.{is_steady_in}
use Rattle.uac_script.specs.Phrase.{PhraseMark, microframes_line}
use Rattle.uac_units.specs.Hearing.{Reading}
use Rattle.uac_transcript.specs.Spellings.{IsReadBack}
use Rattle.uac_running.specs.RunningNames.{natural_of_int}
use Rattle.uac_promises.specs.Promises.{IsAsPromised, IsBegun}
use Rattle.uac_runner.specs.Fronts.{EachSteadyFront}
use Rattle.uac_runner.specs.Run.{IsRun}
use Rattle.uac_scripts.specs.BusMachine.{AreByTable, AreSayings, Sayings, bus_machine}
use Rattle.uac_scripts.specs.Surroundings.{Surroundings}

-- the world is steady
abbrev pub IsSteadyIn : BusWorld → Type 0
IsSteadyIn w = is_steady_in w ≡ true

-- Of every line `m` among these lines, and of every number of its first microframes: what is promised of a steady script holds of the lines
-- in front and these microframes, while they are steady; and what they print begins what the line prints.
abbrev pub EachBeginning : Sayings → List Reading → List (List ℕ) → Type 0
EachBeginning says shown texts =
    (front rest : List (List ℕ)) (text : List ℕ) (count : ℤ) (marks : List PhraseMark) (n : ℕ) → texts ≡ front ++ text ∷ rest
    → says text ≡ Ok (microframes_line count marks) → n ≤ natural_of_int count → IsBegun (map says front) count marks n shown

-- A script was run on a bus to which no line was given, each text by what it says by the table of spellings. The meters show at the end
-- what they show in the world after the lines done, unless a write failed. While what the lines give is steady, each line that they
-- print is as promised: none tells of a ring that was found empty, or that had no room, and each level of a primed stream is near its
-- target. So it is of every front of the lines, and within each line `m` of every front of its microframes.
pub record IsBusRun (before after : Surroundings) (status : Status) : Type 0 where
  pub says : Sayings
  pub by_table : AreByTable says
  pub run : IsRun (bus_machine says) (start before.shown) (λ w. after.shown ≡ meters_in w) before.outer after.outer status
  -- what the machine makes of lines, as in `run`, is what comes of what they say, as in the two fields below
  pub as_said : AreSayings says
  pub promised :
      EachSteadyFront (bus_machine says) (start before.shown) IsSteadyIn (λ front. IsAsPromised (map says front) before.shown)
      run.lived.texts
  pub within_a_line : EachBeginning says before.shown run.lived.texts
  -- the text that the lines done have printed, cut at its newlines, is what they printed
  pub read_back : IsReadBack run.ending.lines
