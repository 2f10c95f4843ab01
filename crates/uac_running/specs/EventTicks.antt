-- Several ticks of a domain of a running device, with the lines that they say: part by part after so many of them. A tick has the number
-- of those before it (profile).
use Rattle.std.specs.Prelude.{ℕ, zero, suc, ◌+◌, nat_le, if◌then◌else◌, List, [], ◌++◌}
use Rattle.uac_ring.specs.declared.counts.StreamCounts.{StreamCounts}
use Rattle.uac_units.specs.Hearing.{at_most_u64}
use Rattle.uac_device.specs.DeviceWorld.{DeviceWorld, renders_of}
use Rattle.uac_device.specs.DeviceTicks.{after_tick_times, before_tick, readings_after}
use Rattle.uac_transcript.specs.Transcript.{Said}
use Rattle.uac_streaming.specs.Telling.{Telling}
use Rattle.uac_streaming.specs.StreamingWorld.{found_counts, found_lines}
use Rattle.uac_device.specs.declared.jacks.Jack.{Jack}
pub use Rattle.uac_device.specs.Jacks.{jack_after, tone_with, tones_of}
use Rattle.uac_running.specs.RunningWorld.{RunningWorld}
use Rattle.uac_running.specs.ReportLines.{played_lines}
use Rattle.uac_running.specs.Events.{jacks_after_frame}

-- the jacks after so many ticks
unfoldable pub jacks_after : ℕ → ℕ → List Jack → List Jack
jacks_after domain zero jacks = jacks
jacks_after domain (suc t) jacks = jacks_after_frame domain (jacks_after domain t jacks)

-- the world of the device that a tick finds, and that after so many of them
abbrev pub device_before : ℕ → ℕ → RunningWorld → DeviceWorld
device_before domain t r = before_tick domain (tones_of domain r.jacks) t r.device

abbrev pub device_after : ℕ → ℕ → RunningWorld → DeviceWorld
device_after domain t r = after_tick_times domain (tones_of domain r.jacks) t r.device

-- what streams met, and the renders, after so many ticks
unfoldable pub met_after : ℕ → ℕ → RunningWorld → ℕ → StreamCounts
met_after domain zero r = r.met
met_after domain (suc t) r = found_counts domain (device_before domain t r) (met_after domain t r)

unfoldable pub renders_after : ℕ → ℕ → RunningWorld → ℕ
renders_after domain zero r = r.renders
renders_after domain (suc t) r = at_most_u64 (renders_after domain t r + renders_of domain r.device)

-- the world after so many ticks
unfoldable pub running_after : ℕ → ℕ → RunningWorld → RunningWorld
running_after domain t r =
    record r {
      device = device_after domain t r;
      jacks = jacks_after domain t r.jacks;
      met = met_after domain t r;
      meters = readings_after domain (tones_of domain r.jacks) r.device t r.meters;
      renders = renders_after domain t r;
    }

-- what a tick says, and what so many ticks say, in order
unfoldable pub lines_at : ℕ → ℕ → RunningWorld → List Said
lines_at domain t r =
    found_lines domain (device_before domain t r) ++ (if nat_le 1 r.detail then played_lines domain (device_after domain (suc t) r) else [])

unfoldable pub lines_after : ℕ → ℕ → RunningWorld → List Said
lines_after domain zero r = []
lines_after domain (suc t) r = lines_after domain t r ++ lines_at domain t r

-- so many ticks, part by part
abbrev pub ticks_told : ℕ → ℕ → RunningWorld → Telling RunningWorld
ticks_told domain t r = record { lines = lines_after domain t r; world = running_after domain t r }

-- what so many ticks say, after so many others, that find no ring empty and none full
unfoldable pub shown_from : ℕ → ℕ → ℕ → RunningWorld → List Said
shown_from domain from zero r = []
shown_from domain from (suc t) r =
    shown_from domain from t r ++ (if nat_le 1 r.detail then played_lines domain (device_after domain (suc (from + t)) r) else [])

abbrev pub shown_after : ℕ → ℕ → RunningWorld → List Said
shown_after domain t r = shown_from domain 0 t r
