-- What control transfers make of a run in its bands (USB 2.0, 9.4.10; profile).
use Rattle.std.specs.Prelude.{◌≡◌, ℕ, ◌==◌, ℤ, Bool, true, false, List, length, Some, is_some}
use Rattle.std.specs.List.{All, find}
use Rattle.uac_units.specs.Hearing.{Reading}
use Rattle.uac_topology.specs.Function.{FunctionFields}
use Rattle.uac_topology.specs.Topology.{IsSoundFunction}
use Rattle.uac_store.specs.StoreControls.{IsStoreOf}
use Rattle.uac_rate.specs.Steadiness.{is_slight}
use Rattle.uac_rate.specs.Steadiness as steadiness
use Rattle.uac_alt.specs.AltSettings.{setting_of}
use Rattle.uac_request.specs.Requests.{AreSettingsOf}
use Rattle.uac_request.specs.declared.setup.Setup.{Setup}
use Rattle.uac_flow.specs.FlowStreams.{OutStream}
use Rattle.uac_host.specs.HostCalls.{channels_at}
use Rattle.uac_script.specs.Phrase.{PhraseMark}
use Rattle.uac_streaming.specs.StreamingWorld.{goes_out}
use Rattle.uac_pcm.specs.declared.tones.Tone.{Tone}
use Rattle.uac_running.specs.Events.{microframe}
use Rattle.uac_running.specs.RunningWorld.{RunningWorld, at_start, with_detail, with_deviation, with_samples_on, with_jack_tone, with_track}
use Rattle.uac_running.specs.RunningTransfers.{after_transfer, with_break}
use Rattle.uac_levels.specs.Life.{domain_id_on}
use Rattle.uac_levels.specs.BandRun.{RunInBand}

-- an interface is in a setting other than 0
abbrev pub IsInSetting : RunningWorld → ℕ → Type 0
IsInSetting r interface = (n : ℕ) × (setting_of r.device.settings interface ≡ Some n) × ((n == 0) ≡ false)

-- a run whose device keeps a value for each control and a setting for each interface; an interface that runs a stream is in a setting other
-- than 0; all tracks have whole frames; no clock is off by more than a thousandth; and the clock of each interface to the device has a
-- domain
pub record IsSoundRun (r : RunningWorld) : Type 0 where
  pub sound : IsSoundFunction r.device.function
  pub store : IsStoreOf r.device.function.entities r.device.controls
  pub settings : AreSettingsOf r.device.function r.device.settings
  pub running : (interface : ℕ) (o : OutStream) → r.device.outs interface ≡ Some o → IsInSetting r interface
  pub whole : (interface : ℕ) → All (λ frame. length frame ≡ channels_at r.host.function interface) (r.host.tracks interface).waiting
  pub slight : All (λ d. is_slight d.deviation ≡ true) r.device.domains
  pub clocked : (interface clock : ℕ) → goes_out r.device.function interface ≡ true → domain_id_on r interface ≡ Some clock
      → is_some (find (λ d. d.id == clock) r.device.domains) ≡ true

-- a transfer keeps such a run in its bands, whether it breaks or not: a stream that it starts is in its band, and no other's rate changes
abbrev pub TransfersKeepBands : Type 0
TransfersKeepBands =
    (p : Setup) (bytes : List ℕ) (r : RunningWorld) → RunInBand r → IsSoundRun r → RunInBand (after_transfer p bytes r)

-- a run starts sound
abbrev pub RunsStartSound : Type 0
RunsStartSound =
    (descriptor : List ℕ) (function : FunctionFields) (meters : List Reading) → IsSoundFunction function
    → IsSoundRun (at_start descriptor function meters)

-- microframes keep it sound, and so does what is asked of it between them
abbrev pub MicroframesKeepSound : Type 0
MicroframesKeepSound = (marks : List PhraseMark) (r : RunningWorld) → IsSoundRun r → IsSoundRun (microframe marks r).world

pub record StaysSound (r : RunningWorld) : Type 0 where
  pub tone : (terminal : ℕ) (tone : Tone) → IsSoundRun (with_jack_tone terminal tone r)
  pub detail : (level : ℕ) → IsSoundRun (with_detail level r)
  pub breaks : (after : Bool) → IsSoundRun (with_break after r)
  pub samples : (interface : ℕ) (samples : List ℤ) → IsSoundRun (with_samples_on interface samples r)
  pub track : (interface : ℕ) (tone : Tone) → IsSoundRun (with_track interface tone r)
  pub deviation : (clock : ℕ) (ppm : ℤ) → is_slight ppm ≡ true → IsSoundRun (with_deviation clock ppm r)

abbrev pub CallsKeepSound : Type 0
CallsKeepSound = (r : RunningWorld) → IsSoundRun r → StaysSound r

-- a control transfer keeps a run sound
abbrev pub TransfersKeepSound : Type 0
TransfersKeepSound = (p : Setup) (bytes : List ℕ) (r : RunningWorld) → IsSoundRun r → IsSoundRun (after_transfer p bytes r)

-- what is steady after a deviation or a transfer was so before, and the deviation is at most a thousandth
pub record LooksBack (r : RunningWorld) : Type 0 where
  pub deviation : (clock : ℕ) (ppm : ℤ) → steadiness.is_steady (with_deviation clock ppm r).history ≡ true
      → (is_slight ppm ≡ true) × (steadiness.is_steady r.history ≡ true)
  pub transfer : (p : Setup) (bytes : List ℕ) → steadiness.is_steady (after_transfer p bytes r).history ≡ true
      → steadiness.is_steady r.history ≡ true

abbrev pub CallsLookBack : Type 0
CallsLookBack = (r : RunningWorld) → LooksBack r
