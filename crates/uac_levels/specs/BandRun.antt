-- A steady run: each of its streams to the device is in its band between two microframes (profile).
use Rattle.std.specs.Prelude.{◌≡◌, ◌≢◌, ◌≤◌, ℕ, true, List, length, Some}
use Rattle.std.specs.List.{All}
use Rattle.std.specs.Option.{option_and_then}
use Rattle.uac_clock.specs.Nominal.{nominal_of}
use Rattle.uac_rate.specs.Levels.{Within}
use Rattle.uac_rate.specs.Steadiness.{is_slight}
use Rattle.uac_rate.specs.Steadiness as steadiness
use Rattle.uac_store.specs.Rates.{rate_of}
use Rattle.uac_script.specs.Phrase.{PhraseMark}
use Rattle.uac_flow.specs.FlowStreams.{OutStream}
use Rattle.uac_device.specs.DeviceWorld.{Domain}
use Rattle.uac_transcript.specs.Transcript.{Said, says_level, says_under}
use Rattle.uac_running.specs.RunningWorld.{RunningWorld}
use Rattle.uac_running.specs.Events.{microframe, microframes}
use Rattle.uac_levels.specs.Life.{Life}
use Rattle.uac_levels.specs.Bands.{InBand}
use Rattle.uac_levels.specs.Projection.{IsFed, IsOrdered, Runs}

-- an interface's stream to the device is in its band: it runs at the rate of its domain's clock, which is off by at most a thousandth
pub record StreamInBand (r : RunningWorld) (interface : ℕ) (l : Life) (d : Domain) : Type 0 where
  pub runs : Runs r interface l d
  pub fed : IsFed r interface l
  pub band : InBand l
  pub rate : option_and_then nominal_of (rate_of r.device.function.entities r.device.controls d.id) ≡ Some l.out.stream.nominal
  pub slight : is_slight d.deviation ≡ true

-- so it is for each that runs; there are at most eight streaming interfaces
pub record RunInBand (r : RunningWorld) : Type 0 where
  pub ordered : IsOrdered r.device
  pub hosts : r.host.function ≡ r.device.function
  pub few : length r.device.function.streams ≤ 8
  pub streams : (interface : ℕ) (o : OutStream) → r.device.outs interface ≡ Some o
      → (l : Life) × (d : Domain) × (l.out ≡ o) × StreamInBand r interface l d

-- a line tells of no ring that was found empty
abbrev pub IsNoUnder : Said → Type 0
IsNoUnder said = (interface : ℕ) → said ≢ says_under interface

-- a line that tells a level of a primed stream tells one near its target
abbrev pub IsNearLevel : Said → Type 0
IsNearLevel said = (interface level target : ℕ) → said ≡ says_level interface level (Some target) → Within 130 level target

-- a microframe of a run that is steady after it keeps the streams in their bands
abbrev pub SteadyMicroframesKeepBands : Type 0
SteadyMicroframesKeepBands =
    (marks : List PhraseMark) (r : RunningWorld) → RunInBand r → steadiness.is_steady (microframe marks r).world.history ≡ true
    → RunInBand (microframe marks r).world

-- none finds a primed ring empty
abbrev pub MicroframesFindNoneEmpty : Type 0
MicroframesFindNoneEmpty = (marks : List PhraseMark) (r : RunningWorld) → RunInBand r → All IsNoUnder (microframe marks r).lines

-- and one that is steady after it tells levels near their targets alone
abbrev pub SteadyMicroframesTellNear : Type 0
SteadyMicroframesTellNear =
    (marks : List PhraseMark) (r : RunningWorld) → RunInBand r → steadiness.is_steady (microframe marks r).world.history ≡ true
    → All IsNearLevel (microframe marks r).lines

-- a run that is steady after a microframe was so before it
abbrev pub SteadinessLooksBack : Type 0
SteadinessLooksBack =
    (marks : List PhraseMark) (r : RunningWorld) → steadiness.is_steady (microframe marks r).world.history ≡ true
    → steadiness.is_steady r.history ≡ true

-- so many microframes of a run that is steady after them: the run is in its bands after them, and their lines tell of no ring that was
-- found empty, and of levels near their targets
pub record StaysSteady (marks : List PhraseMark) (count : ℕ) (r : RunningWorld) : Type 0 where
  pub stays : RunInBand (microframes marks count r).world
  pub no_under : All IsNoUnder (microframes marks count r).lines
  pub near : All IsNearLevel (microframes marks count r).lines

abbrev pub SteadyRunsStaySteady : Type 0
SteadyRunsStaySteady =
    (marks : List PhraseMark) (count : ℕ) (r : RunningWorld) → RunInBand r
    → steadiness.is_steady (microframes marks count r).world.history ≡ true → StaysSteady marks count r
