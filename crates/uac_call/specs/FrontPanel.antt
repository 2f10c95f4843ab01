-- A script that is run on a front panel: knobs on a device, and a host that hears of them (profile).
use Rattle.std.specs.Prelude.{◌≡◌, ℕ, ⊤, List}
use Rattle.uac_ends.specs.declared.status.Status.{Status}
use Rattle.uac_ends.specs.Outcome.{Outcome, at_end}
use Rattle.uac_runner.specs.Run.{IsRun}
use Rattle.uac_runner.specs.Transcript.{outcome_of, transcript}
use Rattle.uac_status.specs.Desks.{desk_machine_by, desk_start}
use Rattle.uac_status.specs.DeskLaws.{AreByPanelTable, EachFollowingTells, EachFrontAgrees, PanelSayings}
use Rattle.uac_scripts.specs.Surroundings.{Surroundings}

-- `panel`: a script was run on a desk to which no line was given, each text by what it says by the table of lines, with `w` and `n`. After
-- every front of the lines done each known value of which no message waits is the device's; and each `n` that printed no line of a broken
-- transfer left no message, and every known value the device's. The meters heard nothing.
pub record RunsOnPanel (before after : Surroundings) (status : Status) : Type 0 where
  pub says : PanelSayings
  pub by_table : AreByPanelTable says
  pub run : IsRun (desk_machine_by says) desk_start (λ w. ⊤) before.outer after.outer status
  pub agreed : EachFrontAgrees says run.lived.texts
  pub told : EachFollowingTells says run.lived.texts
  pub unheard : after.shown ≡ before.shown

-- a script of these bytes and no more has this outcome on a desk, by what its texts say by the table
abbrev pub PanelComesTo : List ℕ → Outcome → Type 0
PanelComesTo bytes outcome =
    (says : PanelSayings) × AreByPanelTable says
    × (outcome_of (desk_machine_by says) (transcript (desk_machine_by says) desk_start bytes at_end) ≡ outcome)
