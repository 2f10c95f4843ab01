-- A stream to the device that loses no packet is close to its target: in a steady run from its priming on, and after a lost packet once
-- it has settled (profile; feedback is that of USB 2.0, 5.12.4.2).
use Rattle.std.specs.Prelude.{◌≡◌, ◌+◌, ◌*◌, ◌≤◌, ℕ, ℤ, Bool, true, List, length, sum, Some}
use Rattle.std.specs.List.{All, AllByRecursion}
use Rattle.uac_rate.specs.Levels.{IsTight, Point, Within}
use Rattle.uac_rate.specs.Steadiness as steadiness
use Rattle.uac_settle.specs.Settling.{LosesNoPacket, Served, Stretch, settle_of}
use Rattle.uac_pcm.specs.declared.tones.Tone.{Tone}
use Rattle.uac_units.specs.Hearing.{Reading}
use Rattle.uac_topology.specs.Function.{FunctionFields}
use Rattle.uac_request.specs.declared.setup.Setup.{Setup}
use Rattle.uac_flow.specs.FlowStreams.{OutStream}
use Rattle.uac_script.specs.Phrase.{PhraseMark}
use Rattle.uac_transcript.specs.Transcript.{Said, says_level}
use Rattle.uac_running.specs.RunningWorld.{RunningWorld, at_start, with_detail, with_deviation, with_samples_on, with_jack_tone, with_track}
use Rattle.uac_running.specs.Events.{microframe}
use Rattle.uac_running.specs.RunningTransfers.{after_transfer, with_break}
use Rattle.uac_levels.specs.Life.{Life, life_of}
use Rattle.uac_levels.specs.Bands.{IsFollowing, IsSlightStep, microframes_since_due}
use Rattle.uac_levels.specs.BandRun.{RunInBand}
use Rattle.uac_levels.specs.BandTransfers.{IsSoundRun}
use Rattle.uac_levels.specs.Past.{Past, Pasts, pasts_after}

-- a primed stream between two microframes, by what it came through since it was primed or lost its last packet: service intervals one after
-- the other that lost no packet, and the steps of its clock since the last of these ended; where it lost none at all since it was primed,
-- it is tight by its anchor
pub record HasTrail (l : Life) (target : ℕ) (past : Past) : Type 0 where
  pub all : List Served
  pub start : Point
  pub point : Point
  pub stretch : Stretch l.out.stream.nominal l.out.stream.service l.out.stream.period all start point
  pub keeps : LosesNoPacket all
  pub following : IsFollowing l target point
  pub recent : List ℕ
  pub slight : AllByRecursion (IsSlightStep l.out.stream.nominal) recent
  pub as_many : length recent ≡ microframes_since_due l.out
  pub steps : following.ticked.steps ≡ sum recent
  pub since : past.quiet ≡ length all * l.out.stream.service + microframes_since_due l.out
  pub earlier : past.quiet ≤ past.primed
  pub tight : past.primed ≡ past.quiet → IsTight l.out.stream.nominal l.out.stream.period past.anchor point

-- so it is for each primed stream of a run
abbrev pub HaveTrails : RunningWorld → Pasts → Type 0
HaveTrails r pasts =
    (interface : ℕ) (l : Life) (target : ℕ) → life_of r interface ≡ Some l → l.out.target ≡ Some target
    → HasTrail l target (pasts interface)

-- a level that is told of a primed stream is within four frames of its target once the stream has settled after its last lost packet;
-- and within three where it lost none since it was primed
pub record IsCloseLevel (r : RunningWorld) (pasts : Pasts) (interface level target : ℕ) (o : OutStream) : Type 0 where
  pub settled : settle_of o.stream.nominal ≤ (pasts interface).quiet → Within 4 level target
  pub tight : (pasts interface).primed ≡ (pasts interface).quiet → Within 3 level target

-- a line that tells the level of a primed stream tells it of one that runs, and that level is so
abbrev pub IsClose : RunningWorld → Pasts → Said → Type 0
IsClose r pasts said =
    (interface level target : ℕ) → said ≡ says_level interface level (Some target)
    → (o : OutStream) × (r.device.outs interface ≡ Some o) × IsCloseLevel r pasts interface level target o

-- a run starts so, whatever is taken for its past
abbrev pub RunsStartTrailed : Type 0
RunsStartTrailed =
    (descriptor : List ℕ) (function : FunctionFields) (meters : List Reading) (pasts : Pasts)
    → HaveTrails (at_start descriptor function meters) pasts

-- a microframe of a run in its bands that is steady after it leaves it so, and each level that it tells is close
pub record StaysTrailed (marks : List PhraseMark) (r : RunningWorld) (pasts : Pasts) : Type 0 where
  pub stays : HaveTrails (microframe marks r).world (pasts_after marks r pasts)
  pub close : All (IsClose (microframe marks r).world (pasts_after marks r pasts)) (microframe marks r).lines

abbrev pub MicroframesStayTrailed : Type 0
MicroframesStayTrailed =
    (marks : List PhraseMark) (r : RunningWorld) (pasts : Pasts) → RunInBand r
    → steadiness.is_steady (microframe marks r).world.history ≡ true → HaveTrails r pasts → StaysTrailed marks r pasts

-- what else is asked of a run leaves it so
pub record StaysTrailedBetween (r : RunningWorld) (pasts : Pasts) : Type 0 where
  pub tone : (terminal : ℕ) (tone : Tone) → HaveTrails (with_jack_tone terminal tone r) pasts
  pub detail : (level : ℕ) → HaveTrails (with_detail level r) pasts
  pub breaks : (after : Bool) → HaveTrails (with_break after r) pasts
  pub samples : (interface : ℕ) (samples : List ℤ) → HaveTrails (with_samples_on interface samples r) pasts
  pub track : (interface : ℕ) (tone : Tone) → HaveTrails (with_track interface tone r) pasts
  pub deviation : (clock : ℕ) (ppm : ℤ) → HaveTrails (with_deviation clock ppm r) pasts

abbrev pub CallsStayTrailed : Type 0
CallsStayTrailed = (r : RunningWorld) (pasts : Pasts) → HaveTrails r pasts → StaysTrailedBetween r pasts

-- so does a control transfer: a stream that it starts isn't primed
abbrev pub TransfersStayTrailed : Type 0
TransfersStayTrailed =
    (p : Setup) (bytes : List ℕ) (r : RunningWorld) (pasts : Pasts) → RunInBand r → IsSoundRun r → HaveTrails r pasts
    → HaveTrails (after_transfer p bytes r) pasts
