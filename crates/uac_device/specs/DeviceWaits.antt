-- Ticks of a device's domain that wait while counts run ahead: so many came, and what they make of its world is settled later. What
-- streams from the device sent in the meantime is a number of frames that are gone. Profile.
use Rattle.std.specs.Prelude.{◌≡◌, ℕ, ◌+◌, ◌-◌, ◌≤◌, ◌==◌, ◌&&◌, Bool, true, if◌then◌else◌, length, min, List, Option, IfSome}
use Rattle.std.specs.List.{list_all}
use Rattle.std.specs.Option.{option_and_then, option_map, option_map_or}
use Rattle.uac_ring.specs.Rings.{ring_frames}
use Rattle.uac_flow.specs.FlowStreams.{OutStream, frames_of, in_level, out_level, takes_all}
use Rattle.uac_flow.specs.FlowTicks.{IsHeld, has_room, in_room}
use Rattle.uac_flow.specs.FlowWaits.{Lasts, feedback_at, may_wait, sent_more}
use Rattle.uac_device.specs.DeviceWorld.{DeviceWorld, is_on}
use Rattle.uac_device.specs.DeviceTicks.{Tones, after_tick_times}

-- of each interface's stream from the device so many frames more are gone
unfoldable pub after_sent : (ℕ → ℕ) → DeviceWorld → DeviceWorld
after_sent sent w = record w { ins = λ interface. option_map (sent_more (sent interface)) (w.ins interface) }

-- the world when so many ticks that waited are done, and so many frames were sent
abbrev pub settled : ℕ → Tones → ℕ → (ℕ → ℕ) → DeviceWorld → DeviceWorld
settled domain tones n sent w = after_sent sent (after_tick_times domain tones n w)

-- so many ticks of a domain may wait: each stream that runs is on the domain, those to the device last, and the rings of those from it
-- have room
pub record AreSteady (domain n : ℕ) (w : DeviceWorld) : Type 0 where
  pub outs : (interface : ℕ) → IfSome (w.outs interface) (λ o. (is_on w domain interface ≡ true) × Lasts n o)
  pub ins : (interface : ℕ) → IfSome (w.ins interface) (λ i. (is_on w domain interface ≡ true) × IsHeld i × (n ≤ in_room i))

-- so it is, by what is known of the streams
unfoldable pub may_wait_in : ℕ → ℕ → DeviceWorld → Bool
may_wait_in domain n w =
    list_all
    (λ s.
    option_map_or (λ o. is_on w domain s.number && may_wait n o) (w.outs s.number) true
    && option_map_or (λ i. is_on w domain s.number && has_room n i) (w.ins s.number) true)
    w.function.streams

-- no more frames were sent than there are when so many ticks are done
abbrev pub HaveSent : ℕ → (ℕ → ℕ) → DeviceWorld → Type 0
HaveSent n sent w = (interface : ℕ) → IfSome (w.ins interface) (λ i. sent interface ≤ in_level i + n)

-- so many frames are there, by interface
abbrev pub SentAreThere : (ℕ → ℕ) → DeviceWorld → Type 0
SentAreThere sent w = (interface : ℕ) → IfSome (w.ins interface) (λ i. sent interface ≤ in_level i)

-- how many frames the next packet of an interface has, when so many ticks wait and so many of its frames were sent
abbrev pub frames_later_in : DeviceWorld → ℕ → ℕ → ℕ → ℕ
frames_later_in w interface n sent = option_map_or (λ i. min ((in_level i + n) - sent) i.stream.most) (w.ins interface) 0

abbrev pub frames_waiting : ℕ → (ℕ → ℕ) → DeviceWorld → ℕ → ℕ
frames_waiting n sent w interface = frames_later_in w interface n (sent interface)

-- the report that is due of an interface's stream to the device, when so many ticks wait
abbrev pub feedback_later_in : DeviceWorld → ℕ → ℕ → Option ℕ
feedback_later_in w interface n = option_and_then (λ o. feedback_at (out_level o - n) o) (w.outs interface)

-- the ring of an interface's stream to the device has room for all frames of a packet
abbrev pub takes_in : DeviceWorld → ℕ → List ℕ → Bool
takes_in w interface packet = option_map_or (λ o. takes_all o packet) (w.outs interface) true

-- so many frames more of an interface are sent
abbrev pub with_sent : ℕ → ℕ → (ℕ → ℕ) → ℕ → ℕ
with_sent interface more sent k = if k == interface then sent k + more else sent k

-- the frames that terminals are given from a tick on
abbrev pub later : ℕ → Tones → Tones
later n tones id = option_map (λ frames k. frames (n + k)) (tones id)

-- the ring of a stream has room for all frames of a packet
abbrev pub TakesAll : List ℕ → OutStream → Type 0
TakesAll packet o = out_level o + length (frames_of o.stream packet) ≤ ring_frames
