-- How a run comes into its bands, and what else than microframes keeps it there (profile).
use Rattle.std.specs.Prelude.{◌≡◌, ℕ, ℤ, Bool, true, List}
use Rattle.uac_pcm.specs.declared.tones.Tone.{Tone}
use Rattle.uac_units.specs.Hearing.{Reading}
use Rattle.uac_rate.specs.Steadiness.{is_slight}
use Rattle.uac_topology.specs.Function.{FunctionFields}
use Rattle.uac_topology.specs.Topology.{IsSoundFunction}
use Rattle.uac_running.specs.RunningWorld.{RunningWorld, at_start, with_detail, with_deviation, with_samples_on, with_jack_tone, with_track}
use Rattle.uac_running.specs.RunningTransfers.{with_break}
use Rattle.uac_levels.specs.BandRun.{RunInBand}

-- a run starts in its bands
abbrev pub RunsStartInBand : Type 0
RunsStartInBand =
    (descriptor : List ℕ) (function : FunctionFields) (meters : List Reading) → IsSoundFunction function
    → RunInBand (at_start descriptor function meters)

-- what is asked of it between microframes, but for control transfers, keeps it there; a deviation does where it is at most a thousandth
pub record StaysInBands (r : RunningWorld) : Type 0 where
  pub tone : (terminal : ℕ) (tone : Tone) → RunInBand (with_jack_tone terminal tone r)
  pub detail : (level : ℕ) → RunInBand (with_detail level r)
  pub breaks : (after : Bool) → RunInBand (with_break after r)
  pub samples : (interface : ℕ) (samples : List ℤ) → RunInBand (with_samples_on interface samples r)
  pub track : (interface : ℕ) (tone : Tone) → RunInBand (with_track interface tone r)
  pub deviation : (clock : ℕ) (ppm : ℤ) → is_slight ppm ≡ true → RunInBand (with_deviation clock ppm r)

abbrev pub CallsKeepBands : Type 0
CallsKeepBands = (r : RunningWorld) → RunInBand r → StaysInBands r
