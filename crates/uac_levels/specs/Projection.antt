-- What a microframe of a running device is to one of its streams.
use Rattle.std.specs.Prelude.{◌≡◌, ◌<◌, ℕ, ℤ, nat_eq, if◌then◌else◌, true, List, [], ◌∷◌, ◌++◌, map, length, Some}
use Rattle.std.specs.List.{All, IsDistinct}
use Rattle.uac_pcm.specs.Frames.{IsFormat}
use Rattle.uac_topology.specs.Function.{FunctionFields}
use Rattle.uac_topology.specs.Topology.{IsSoundFunction}
use Rattle.uac_request.specs.declared.setup.Setup.{Setup}
use Rattle.uac_flow.specs.FlowStreams.{frames_of, is_due}
use Rattle.uac_host.specs.HostWorld.{Track}
use Rattle.uac_host.specs.HostCalls.{IsStreamOf, track_after_frames, channels_at, next_size, packet_of}
use Rattle.uac_device.specs.DeviceWorld.{DeviceWorld, Domain, after_control, after_deviation, fresh, step_in}
use Rattle.uac_script.specs.Phrase.{PhraseMark}
use Rattle.uac_streaming.specs.StreamingWorld.{goes_out, loses_out, loses_feedback, packet_to}
use Rattle.uac_running.specs.RunningWorld.{RunningWorld, streaming_of}
use Rattle.uac_running.specs.Events.{microframe}
use Rattle.uac_running.specs.RunningTransfers.{after_transfer}
use Rattle.uac_levels.specs.Life.{Life, domain_on, life_after, life_of}

-- each clock domain of a device's function is one, the device keeps a clock for each, in order, and the numbers of interfaces are bytes
-- (USB 2.0, 9.6.5)
pub record IsOrdered (w : DeviceWorld) : Type 0 where
  pub apart : IsDistinct nat_eq w.function.domains
  pub domains : map (λ d. d.id) w.domains ≡ w.function.domains
  pub numbers : All (λ s. s.number < 256) w.function.streams

-- an interface runs a stream to the device: its life, and its clock domain
pub record Runs (r : RunningWorld) (interface : ℕ) (l : Life) (d : Domain) : Type 0 where
  pub out : goes_out r.device.function interface ≡ true
  pub life : life_of r interface ≡ Some l
  pub domain : domain_on r interface ≡ Some d

-- the host sends it what the device takes: both run the same stream, which is one of the interface's and has the numbers of a format; and
-- frames that wait for it have a sample for each channel of the interface's terminal
pub record IsFed (r : RunningWorld) (interface : ℕ) (l : Life) : Type 0 where
  pub same : l.pace.stream ≡ l.out.stream
  pub streams : IsStreamOf r.host.function interface l.pace.stream
  pub format : IsFormat l.pace.stream.channels l.pace.stream.subslot l.pace.stream.bits
  pub whole : All (λ frame. length frame ≡ channels_at r.host.function interface) (r.host.tracks interface).waiting

-- the stream's life after a microframe
abbrev pub next_life : List PhraseMark → RunningWorld → ℕ → Life → Domain → Life
next_life marks r interface l d =
    life_after (packet_to (loses_out marks interface) interface (streaming_of r)) (step_in r.device d) (loses_feedback marks interface) l

-- a stream's domain after a microframe
abbrev pub next_domain : RunningWorld → Domain → Domain
next_domain r d = record d { steps = d.steps ++ step_in r.device d ∷ [] }

-- the track after a microframe: its next frames went out where a packet was due
abbrev pub next_track : Life → Track → Track
next_track l t = if is_due l.out.stream l.out.microframes then track_after_frames (next_size l.pace) t else t

-- all that a microframe makes of a stream to the device follows from that stream's own packet, from the step of its own clock, and from
-- whether its packet and its report were lost
abbrev pub MicroframesAreLived : Type 0
MicroframesAreLived =
    (marks : List PhraseMark) (r : RunningWorld) (interface : ℕ) (l : Life) (d : Domain) → IsOrdered r.device → Runs r interface l d
    → Runs (microframe marks r).world interface (next_life marks r interface l d) (next_domain r d)

abbrev pub TracksGoOn : Type 0
TracksGoOn =
    (marks : List PhraseMark) (r : RunningWorld) (interface : ℕ) (l : Life) (d : Domain) → IsOrdered r.device → Runs r interface l d
    → (microframe marks r).world.host.tracks interface ≡ next_track l (r.host.tracks interface)

-- what stays so
pub record Stays (before after : RunningWorld) : Type 0 where
  pub function : after.device.function ≡ before.device.function
  pub controls : after.device.controls ≡ before.device.controls
  pub domains : map (λ d. d.id) after.device.domains ≡ map (λ d. d.id) before.device.domains
  pub host : after.host.function ≡ before.host.function

abbrev pub MicroframesKeepTheRest : Type 0
MicroframesKeepTheRest = (marks : List PhraseMark) (r : RunningWorld) → Stays r (microframe marks r).world

abbrev pub MicroframesKeepOrder : Type 0
MicroframesKeepOrder = (marks : List PhraseMark) (r : RunningWorld) → IsOrdered r.device → IsOrdered (microframe marks r).world.device

-- so it is at the start, and deviations, control requests and transfers leave it so
abbrev pub StartsAreOrdered : Type 0
StartsAreOrdered = (function : FunctionFields) → IsSoundFunction function → IsOrdered (fresh function)

abbrev pub DeviationsKeepOrder : Type 0
DeviationsKeepOrder = (clock : ℕ) (ppm : ℤ) (w : DeviceWorld) → IsOrdered w → IsOrdered (after_deviation clock ppm w)

abbrev pub RequestsKeepOrder : Type 0
RequestsKeepOrder = (p : Setup) (bytes : List ℕ) (w : DeviceWorld) → IsOrdered w → IsOrdered (after_control p bytes w)

abbrev pub TransfersKeepOrder : Type 0
TransfersKeepOrder = (p : Setup) (bytes : List ℕ) (r : RunningWorld) → IsOrdered r.device → IsOrdered (after_transfer p bytes r).device

-- a stream that is fed is so after a microframe
abbrev pub MicroframesKeepFed : Type 0
MicroframesKeepFed =
    (marks : List PhraseMark) (r : RunningWorld) (interface : ℕ) (l : Life) (d : Domain) → IsOrdered r.device → Runs r interface l d
    → IsFed r interface l → IsFed (microframe marks r).world interface (next_life marks r interface l d)

-- a stream's packet has as many frames as its rate values say
abbrev pub PacketsHaveTheirFrames : Type 0
PacketsHaveTheirFrames =
    (r : RunningWorld) (interface : ℕ) (l : Life) → life_of r interface ≡ Some l → IsFed r interface l
    → length (frames_of l.out.stream (packet_of r.host interface)) ≡ next_size l.pace
