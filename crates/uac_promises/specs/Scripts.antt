-- Steady scripts: while every clock keeps within a thousandth and no stream loses four feedback reports in succession, no primed ring
-- runs empty (profile; feedback is that of USB 2.0, 5.12.4.2).
use Rattle.std.specs.Prelude.{◌≡◌, ℕ, Bool, true, List, map}
use Rattle.std.specs.List.{All}
use Rattle.uac_units.specs.Hearing.{Reading}
use Rattle.uac_rate.specs.Steadiness as steadiness
use Rattle.uac_script.specs.LineParsing.{answer}
use Rattle.uac_rows.specs.BusWorld.{BusWorld, describing, running, start}
use Rattle.uac_rows.specs.After.{After, after}
use Rattle.uac_levels.specs.BandRun.{IsNearLevel, IsNoUnder, RunInBand}

-- what was given so far is steady; before the descriptor's end nothing was given
abbrev pub is_steady_in : BusWorld → Bool
is_steady_in (describing bytes meters) = true
is_steady_in (running r) = steadiness.is_steady r.history

-- a running device is in its bands
abbrev pub IsInBand : BusWorld → Type 0
IsInBand (describing bytes meters) = Unit {0}
IsInBand (running r) = RunInBand r

-- what lines come to, by their texts
abbrev pub after_texts : List (List ℕ) → List Reading → After
after_texts texts shown = after (map answer texts) (start shown)

-- lines of a script that leave a steady world: each stream is in its band there, no line that they printed tells of a ring that was found
-- empty, and each that tells the level of a primed stream tells one near its target
pub record IsWithinBands (a : After) : Type 0 where
  pub band : IsInBand a.world
  pub no_under : All IsNoUnder a.lines
  pub near : All IsNearLevel a.lines

-- every list of lines that leaves a steady world keeps within these bands
abbrev pub SteadyScriptsKeepBands : Type 0
SteadyScriptsKeepBands =
    (texts : List (List ℕ)) (shown : List Reading) → is_steady_in (after_texts texts shown).world ≡ true
    → IsWithinBands (after_texts texts shown)
