-- Scripts that are run on a bench: on one stream at full speed, or on a pair of streams of which the host follows one by the other
-- (profile).
use Rattle.std.specs.Prelude.{◌≡◌, ℕ, ⊤, map}
use Rattle.uac_ends.specs.declared.status.Status.{Status}
use Rattle.uac_runner.specs.Fronts.{EachSteadyFront}
use Rattle.uac_runner.specs.Run.{IsRun}
use Rattle.uac_fullspeed.specs.FullSpeedWorld.{full_speed_start}
use Rattle.uac_fullspeed.specs.FullSpeedMachine.{IsSteadyBench, fs_machine}
use Rattle.uac_fullspeed.specs.FullSpeedPromise.{IsFsPromised}
use Rattle.uac_implicit.specs.Following.{pair_start}
use Rattle.uac_implicit.specs.PairMachine.{EachFrontStaysNear, EachSlightFront, pair_machine}
use Rattle.uac_scripts.specs.BusMachine.{AreByTable, Sayings}
use Rattle.uac_scripts.specs.Surroundings.{Surroundings}

-- `full`: a script was run on a full-speed stream of this rate, from its start on, each text by what it says by the table of spellings.
-- Of every front of the lines done that is steady, what is promised of a full-speed stream holds. The meters heard nothing.
pub record RunsAtFullSpeed (rate : ℕ) (before after : Surroundings) (status : Status) : Type 0 where
  pub says : Sayings
  pub by_table : AreByTable says
  pub run : IsRun (fs_machine says) (full_speed_start rate) (λ w. ⊤) before.outer after.outer status
  pub promised :
      EachSteadyFront (fs_machine says) (full_speed_start rate) IsSteadyBench (λ front. IsFsPromised (map says front) rate) run.lived.texts
  pub unheard : after.shown ≡ before.shown

-- `pair`: a script was run on a pair of streams of this rate, from its start on, each text by what it says by the table of spellings. Of
-- every front of the lines done in which each deviation is slight, and few microframes strayed at every moment, what is promised of a pair
-- holds; and of every front in which each deviation is slight the pair is near at each moment, as long as few strayed. The meters heard
-- nothing.
pub record RunsOnPair (rate : ℕ) (before after : Surroundings) (status : Status) : Type 0 where
  pub says : Sayings
  pub by_table : AreByTable says
  pub run : IsRun (pair_machine says) (pair_start rate) (λ w. ⊤) before.outer after.outer status
  pub promised : EachSlightFront says rate run.lived.texts
  pub near : EachFrontStaysNear says rate run.lived.texts
  pub unheard : after.shown ≡ before.shown
