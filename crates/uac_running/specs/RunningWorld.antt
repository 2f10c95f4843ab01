-- The world from the descriptor's end on: the device's part, the host's, the view's, and the bus's, which is all else (profile).
use Rattle.std.specs.Prelude.{ℕ, ◌==◌, Bool, if◌then◌else◌, ℤ, List, map, filter, Option, None}
use Rattle.uac_pcm.specs.declared.tones.Tone.{Tone}
use Rattle.uac_pcm.specs.declared.tones.Tone.TheVariants.{Silent}
use Rattle.uac_entities.specs.declared.entity.Entity.{Entity}
use Rattle.uac_topology.specs.Function.{FunctionFields}
use Rattle.uac_units.specs.Hearing.{Reading}
use Rattle.uac_device.specs.DeviceWorld.{DeviceWorld, fresh, after_deviation, is_input_jack}
use Rattle.uac_host.specs.HostWorld.{HostWorld, fresh_host}
use Rattle.uac_host.specs.HostCalls as calls
use Rattle.uac_host.specs.HostCalls.{with_samples}
use Rattle.uac_rate.specs.Steadiness as steadiness
use Rattle.uac_rate.specs.Steadiness.{SteadyHistory, nothing_given}
use Rattle.uac_streaming.specs.StreamingWorld.{StreamingWorld, nothing_met}
use Rattle.uac_mixer.specs.ViewWorld.{ViewWorld, known_view}
use Rattle.uac_mixer.specs.declared.link.When.{When}
use Rattle.uac_ring.specs.declared.counts.StreamCounts.{StreamCounts}
use Rattle.uac_device.specs.declared.jacks.Jack.{Jack}

-- the device, the host, the host's view of the device, and the bus, whose part all else is
pub record RunningWorld : Type 0 where
  pub device : DeviceWorld
  pub host : HostWorld
  pub view : ViewWorld
  -- the descriptor's bytes
  pub descriptor : List ℕ
  -- the tone of each input jack, and how many of its frames were given
  pub jacks : List Jack
  -- the microframes since the start, up to the greatest number of 64 bits
  pub time : ℕ
  -- the deviations that were given, and by streaming interface, in block order, of each start the feedback reports
  pub history : SteadyHistory
  -- how much is printed
  pub detail : ℕ
  -- when the next transfer breaks; none where it doesn't
  pub breaks : Option When
  -- by interface, what its streams met
  pub met : ℕ → StreamCounts
  -- what the meters show, which heard all frames so far
  pub meters : List Reading
  -- how often units were rendered since the start, up to the greatest number of 64 bits
  pub renders : ℕ

-- an input jack at the start: silent
abbrev pub silent_jack : Entity → Jack
silent_jack e = record { terminal = e.id; domain = e.clock; channels = e.cluster.channels; tone = Silent; place = 0 }

-- just after the descriptor with these bytes was accepted
unfoldable pub at_start : List ℕ → FunctionFields → List Reading → RunningWorld
at_start descriptor function meters =
    record {
      device = fresh function;
      host = fresh_host function;
      view = known_view function.entities (fresh function).controls;
      descriptor = descriptor;
      jacks = map silent_jack (filter is_input_jack function.entities);
      time = 0;
      history = nothing_given;
      detail = 0;
      breaks = None;
      met = λ interface. nothing_met;
      meters = meters;
      renders = 0;
    }

-- a jack, and with this tone from its first frame where it is the one with this id
abbrev pub jack_with_tone : ℕ → Tone → Jack → Jack
jack_with_tone terminal tone j = if j.terminal == terminal then record j { tone = tone; place = 0 } else j

-- an input jack has this tone from now on, from its first frame
unfoldable pub with_jack_tone : ℕ → Tone → RunningWorld → RunningWorld
with_jack_tone terminal tone r = record r { jacks = map (jack_with_tone terminal tone) r.jacks }

-- a domain's clock is off by so many ppm from now on
unfoldable pub with_deviation : ℕ → ℤ → RunningWorld → RunningWorld
with_deviation domain ppm r =
    record r { device = after_deviation domain ppm r.device; history = steadiness.with_deviation_given ppm r.history }

-- so much is printed from now on
unfoldable pub with_detail : ℕ → RunningWorld → RunningWorld
with_detail level r = record r { detail = level }

-- no deviation passed a thousandth, and no stream lost four feedback reports in succession
unfoldable pub is_steady : RunningWorld → Bool
is_steady r = steadiness.is_steady r.history

-- ---- streams

-- the device, its host, and what happened between them
abbrev pub streaming_of : RunningWorld → StreamingWorld
streaming_of r = record { device = r.device; host = r.host; met = r.met; history = r.history }

-- a world with others of these
abbrev pub with_streaming : RunningWorld → StreamingWorld → RunningWorld
with_streaming r s = record r { device = s.device; host = s.host; met = s.met; history = s.history }

-- samples wait after those of an interface's track
unfoldable pub with_samples_on : ℕ → List ℤ → RunningWorld → RunningWorld
with_samples_on interface samples r = record r { host = with_samples interface samples r.host }

-- a track goes on by another tone
unfoldable pub with_track : ℕ → Tone → RunningWorld → RunningWorld
with_track interface tone r = record r { host = calls.with_track_tone interface tone r.host }
