-- A running device of which many ticks wait while the counts of its streams run ahead: packets, clocks, the ends of microframes and
-- reports are those of the ticks done, and samples come later.
use Rattle.std.specs.Prelude.{◌≡◌, ℕ, ◌+◌, ◌≤◌, List, [], ◌∷◌, length}
use Rattle.uac_units.specs.Hearing.{Reading, at_most_u64}
use Rattle.uac_script.specs.Phrase.{PhraseMark}
use Rattle.uac_device.specs.DeviceWorld.{DeviceWorld, after_advance, next_ticks}
use Rattle.uac_device.specs.DeviceTicks.{MeetsNothing, after_tick_times, readings_after}
use Rattle.uac_device.specs.DeviceWaits.{HaveSent, SentAreThere, settled}
use Rattle.uac_streaming.specs.Room.{HaveRoom}
use Rattle.uac_streaming.specs.StreamingWorld.{StreamingWorld, all_ends, numbers_in, out_packets}
use Rattle.uac_streaming.specs.StreamingWaits.{after_reports_of, sent_after, sent_on, with_device}
use Rattle.uac_running.specs.RunningWorld.{RunningWorld, streaming_of, with_streaming}
use Rattle.uac_running.specs.RunningKept.{RunningFields, RunningStands}
use Rattle.uac_running.specs.EventTicks.{jacks_after, renders_after, tones_of}

-- it has one domain and at most eight interfaces with a stream from it, and prints at detail 0
pub record IsLone (domain : ℕ) (r : RunningWorld) : Type 0 where
  pub detail : r.detail ≡ 0
  pub only : r.device.function.domains ≡ domain ∷ []
  pub few : length (numbers_in r.device.function) ≤ 8

-- by interface, how many of its frames were sent: of those with a stream from the device so many each
abbrev pub sent_of : List ℕ → RunningWorld → ℕ → ℕ
sent_of sent r = sent_on (numbers_in r.device.function) sent

-- the device when so many ticks that waited are done, and so many frames were sent
abbrev pub device_settled : ℕ → ℕ → List ℕ → RunningWorld → DeviceWorld
device_settled domain ticks sent r = settled domain (tones_of domain r.jacks) ticks (sent_of sent r) r.device

-- the world when so many ticks that waited are done, of which none met anything, and so many frames were sent
abbrev pub behind : ℕ → ℕ → List ℕ → RunningWorld → RunningWorld
behind domain ticks sent r =
    record r {
      device = device_settled domain ticks sent r;
      jacks = jacks_after domain ticks r.jacks;
      meters = readings_after domain (tones_of domain r.jacks) r.device ticks r.meters;
      renders = renders_after domain ticks r;
    }

-- what is kept stands for a world before so many ticks, of which none meets anything, and which make the frames that were sent
pub record IsAhead (domain ticks : ℕ) (sent : List ℕ) (running : RunningFields) (shown : List Reading) (r : RunningWorld) : Type 0 where
  pub before : RunningWorld
  pub stands : RunningStands running shown before
  pub lone : IsLone domain before
  pub all : length (numbers_in before.device.function) ≤ length sent
  pub meets : MeetsNothing domain ticks before.device
  pub have : HaveSent ticks (sent_of sent before) before.device
  pub there : SentAreThere (sent_of sent before) (after_tick_times domain (tones_of domain before.jacks) ticks before.device)
  pub done : r ≡ behind domain ticks sent before
  pub room : HaveRoom r.device

-- ---- one microframe more

-- a world at the next microframe
abbrev pub numbered : RunningWorld → RunningWorld
numbered r = record r { time = at_most_u64 (r.time + 1) }

-- the streams after the packets to the device, of which none is lost
abbrev pub outs_sent : RunningWorld → StreamingWorld
outs_sent r = (out_packets 0 [] (streaming_of r)).world

-- so many ticks wait then, and so many frames were sent
abbrev pub ticks_then : ℕ → ℕ → RunningWorld → ℕ
ticks_then domain ticks r = ticks + next_ticks domain (outs_sent r).device

abbrev pub sent_then : ℕ → List ℕ → RunningWorld → List ℕ
sent_then ticks sent r = sent_after (numbers_in (outs_sent r).device.function) ticks sent (outs_sent r).device

-- the streams after the clock went on, and at the end of the microframe
abbrev pub clocked : ℕ → RunningWorld → StreamingWorld
clocked domain r = with_device (after_advance domain (outs_sent r).device) (outs_sent r)

abbrev pub ended : ℕ → RunningWorld → StreamingWorld
ended domain r = (all_ends 0 (clocked domain r)).world

-- the world after a microframe in which these feedback reports are lost, before the ticks that wait
abbrev pub gone_ahead : List PhraseMark → ℕ → ℕ → List ℕ → RunningWorld → RunningWorld
gone_ahead marks domain ticks sent r =
    let later = with_streaming r (ended domain r) in
    with_streaming r (after_reports_of marks (device_settled domain (ticks_then domain ticks r) (sent_then ticks sent r) later) (ended domain r))
