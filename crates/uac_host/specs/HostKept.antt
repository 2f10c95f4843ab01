-- For which worlds a host stands.
use Rattle.std.specs.Prelude.{◌≡◌, ℕ, ◌%◌, ◌==◌, List, length, sum, Option, Some, None}
use Rattle.std.specs.List.{All, find, flat_map}
use Rattle.std.specs.Option.{option_map}
use Rattle.uac_host.specs.declared.host_streams.HostStream.{HostStream}
use Rattle.uac_host.specs.HostFields.{PaceFields, TrackFields}
use Rattle.uac_host.specs.HostWorld.{HostWorld, Pace, Track, silent_track}
use Rattle.uac_topology.specs.Function.{interface_in}
use Rattle.uac_host.specs.HostCalls.{IsStreamOf, channels_at, within_nominal}

-- how a stream is kept: the remainder of its rate values stands for them all
abbrev pub kept_pace : Pace → PaceFields
kept_pace p = record { stream = p.stream; remainder = sum p.used % 65536; value = p.value }

-- how a track is kept: a tone's samples come again after 2^32 places, so the place is told up to that
abbrev pub kept_track : Track → TrackFields
kept_track t = record { samples = flat_map (λ frame. frame) t.waiting; tone = t.tone; place = t.place % 4294967296 }

-- what is kept of a stream after a report
abbrev pub kept_report : ℕ → PaceFields → PaceFields
kept_report value p = record p { value = within_nominal p.stream value }

abbrev pub kept_stream : HostWorld → ℕ → HostStream
kept_stream w interface =
    record { interface = interface; pace = option_map kept_pace (w.paces interface); track = kept_track (w.tracks interface) }

-- what is kept of an interface that runs no stream, and whose track is silent
abbrev pub resting_stream : ℕ → HostStream
resting_stream interface = record { interface = interface; pace = None; track = kept_track silent_track }

-- a host stream is as this world has it
pub record IsKeptStream (w : HostWorld) (l : HostStream) : Type 0 where
  pub host_stream : l ≡ kept_stream w l.interface
  pub whole : All (λ frame. length frame ≡ channels_at w.function l.interface) (w.tracks l.interface).waiting
  pub streams : (p : Pace) → w.paces l.interface ≡ Some p → IsStreamOf w.function l.interface p.stream

-- the host stream of an interface
abbrev pub stream_on : List HostStream → ℕ → Option HostStream
stream_on host_streams interface = find (λ l. l.interface == interface) host_streams

-- the host stands for this world: there is a host stream for each streaming interface; frames that wait have a sample for each channel of
-- their terminal; and each stream that runs is one of its interface's
pub record HostStands (host : List HostStream) (w : HostWorld) : Type 0 where
  pub host_streams : (interface : ℕ)
      → stream_on host interface ≡ option_map (λ s. kept_stream w interface) (interface_in w.function interface)
  pub whole : (interface : ℕ) → All (λ frame. length frame ≡ channels_at w.function interface) (w.tracks interface).waiting
  pub streams : (interface : ℕ) (p : Pace) → w.paces interface ≡ Some p → IsStreamOf w.function interface p.stream
