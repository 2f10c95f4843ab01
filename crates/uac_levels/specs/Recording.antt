-- Streams from the device in a steady run: what their rings hold; and that no ring overflows, in either direction (profile; packets from
-- the device are those of USB 2.0, 5.12.4.2).
use Rattle.std.specs.Prelude.{◌≡◌, ◌≢◌, ◌+◌, ◌*◌, ◌%◌, ◌≤◌, ℕ, ℤ, Bool, true, List, length, Some}
use Rattle.std.specs.List.{All}
use Rattle.std.specs.Option.{option_and_then}
use Rattle.uac_clock.specs.Nominal.{IsNominal, nominal_of}
use Rattle.uac_rate.specs.Levels.{IsInterval}
use Rattle.uac_rate.specs.Steadiness.{is_slight}
use Rattle.uac_pcm.specs.declared.tones.Tone.{Tone}
use Rattle.uac_units.specs.Hearing.{Reading}
use Rattle.uac_topology.specs.Function.{FunctionFields}
use Rattle.uac_store.specs.Rates.{rate_of}
use Rattle.uac_request.specs.declared.setup.Setup.{Setup}
use Rattle.uac_flow.specs.FlowStreams.{InStream, in_level}
use Rattle.uac_device.specs.DeviceWorld.{Domain}
use Rattle.uac_script.specs.Phrase.{PhraseMark}
use Rattle.uac_streaming.specs.StreamingWorld.{comes_in}
use Rattle.uac_transcript.specs.Transcript.{Said, says_over}
use Rattle.uac_running.specs.RunningWorld.{RunningWorld, at_start, with_detail, with_deviation, with_samples_on, with_jack_tone, with_track}
use Rattle.uac_running.specs.Events.{microframe}
use Rattle.uac_running.specs.RunningTransfers.{after_transfer, with_break}
use Rattle.uac_levels.specs.Life.{domain_on}
use Rattle.uac_levels.specs.BandRun.{RunInBand}
use Rattle.uac_levels.specs.BandTransfers.{IsInSetting, IsSoundRun}

-- between two microframes a ring holds no more than its domain can have made since the last packet went: the greatest packet's frames for
-- each microframe since then
abbrev pub HoldsFew : InStream → Type 0
HoldsFew i = in_level i ≤ (i.microframes % i.stream.service + 1) * i.stream.nominal.hi

-- a stream from the device of an interface, which is in a setting other than 0: it runs at the rate of its domain's clock, and its packet
-- has room for all that an interval can make
pub record IsRecorded (r : RunningWorld) (interface : ℕ) (i : InStream) (d : Domain) : Type 0 where
  pub comes : comes_in r.device.function interface ≡ true
  pub set : IsInSetting r interface
  pub domain : domain_on r interface ≡ Some d
  pub nominal : IsNominal i.stream.nominal
  pub rate : option_and_then nominal_of (rate_of r.device.function.entities r.device.controls d.id) ≡ Some i.stream.nominal
  pub serves : IsInterval i.stream.service
  pub fits : i.stream.service * i.stream.nominal.hi ≤ i.stream.most
  pub gone : i.gone ≤ length i.made
  pub few : HoldsFew i

-- every stream from the device that runs is recorded so, by the clock of some domain
abbrev pub AreRecorded : RunningWorld → Type 0
AreRecorded r =
    (interface : ℕ) (i : InStream) → r.device.ins interface ≡ Some i → (d : Domain) × IsRecorded r interface i d

-- then each holds at most what an interval can bring, and no packet leaves frames over
abbrev pub RingsHoldAnInterval : Type 0
RingsHoldAnInterval =
    (r : RunningWorld) (interface : ℕ) (i : InStream) → AreRecorded r → r.device.ins interface ≡ Some i
    → in_level i ≤ i.stream.service * i.stream.nominal.hi

-- a line tells of no ring that was full
abbrev pub IsNoOver : Said → Type 0
IsNoOver said = (interface : ℕ) → said ≢ says_over interface

-- a run starts so
abbrev pub RunsStartRecorded : Type 0
RunsStartRecorded =
    (descriptor : List ℕ) (function : FunctionFields) (meters : List Reading) → AreRecorded (at_start descriptor function meters)

-- a microframe of a sound run in its bands leaves it so, and tells of no ring that was full: neither of one from the device, nor of one
-- to it that had no room for its packet
pub record StaysRecorded (marks : List PhraseMark) (r : RunningWorld) : Type 0 where
  pub stays : AreRecorded (microframe marks r).world
  pub no_over : All IsNoOver (microframe marks r).lines

abbrev pub MicroframesStayRecorded : Type 0
MicroframesStayRecorded =
    (marks : List PhraseMark) (r : RunningWorld) → RunInBand r → IsSoundRun r → AreRecorded r → StaysRecorded marks r

-- what else is asked of a run leaves it so
pub record StaysRecordedBetween (r : RunningWorld) : Type 0 where
  pub tone : (terminal : ℕ) (tone : Tone) → AreRecorded (with_jack_tone terminal tone r)
  pub detail : (level : ℕ) → AreRecorded (with_detail level r)
  pub breaks : (after : Bool) → AreRecorded (with_break after r)
  pub samples : (interface : ℕ) (samples : List ℤ) → AreRecorded (with_samples_on interface samples r)
  pub track : (interface : ℕ) (tone : Tone) → AreRecorded (with_track interface tone r)
  pub deviation : (clock : ℕ) (ppm : ℤ) → is_slight ppm ≡ true → AreRecorded (with_deviation clock ppm r)

abbrev pub CallsStayRecorded : Type 0
CallsStayRecorded = (r : RunningWorld) → AreRecorded r → StaysRecordedBetween r

-- so does a control transfer: a stream that it starts has an empty ring, and no other's rate changes
abbrev pub TransfersStayRecorded : Type 0
TransfersStayRecorded =
    (p : Setup) (bytes : List ℕ) (r : RunningWorld) → RunInBand r → IsSoundRun r → AreRecorded r → AreRecorded (after_transfer p bytes r)
