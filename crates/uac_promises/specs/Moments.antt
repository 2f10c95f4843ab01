-- Every moment of a run: the device before and after each frame that is put into a ring or taken out of one (profile).
use Rattle.std.specs.Prelude.{◌≡◌, ◌+◌, ◌*◌, ◌≤◌, ℕ, zero, suc, if◌then◌else◌, List, [], ◌∷◌, ◌++◌, map, length, take, Option, None, Some, Result, Ok, Err}
use Rattle.std.specs.List.{range_with_len}
use Rattle.std.specs.Option.{option_map_or}
use Rattle.uac_rate.specs.Levels.{IsSafeLevel}
use Rattle.uac_flow.specs.FlowStreams.{InStream, OutStream, frames_of, in_level, is_due, out_level, takes_all, zeros_due}
use Rattle.uac_units.specs.Hearing.{at_most_u64}
use Rattle.uac_device.specs.DeviceWorld.{DeviceWorld, after_advance, at_in, at_out, frames_in, next_ticks}
use Rattle.uac_host.specs.HostCalls.{size_of}
use Rattle.uac_script.specs.Phrase.{PhraseMark, Phrase}
use Rattle.uac_streaming.specs.StreamingWorld.{StreamingWorld, in_packet_turn, in_packets, is_in_due, is_out_due, loses_out, numbers, out_packets, out_turn, packet_to, end_turn}
use Rattle.uac_running.specs.RunningWorld.{RunningWorld, streaming_of, with_streaming}
use Rattle.uac_running.specs.Events.{all_domains, domain_microframe, microframe, tick}
use Rattle.uac_rows.specs.BusWorld.{BusWorld, Step, describing, done, refused, running, step}
use Rattle.uac_promises.specs.Watches.{Microframes, microframes_of}

-- ---- what is so at each

-- the ring of a primed stream to the device holds 101 to 435 frames, or 182 to 1,041 where its packets come every 2, 4 or 8 microframes;
-- and the ring of a stream from the device at most what a service interval can bring
pub record HoldsEnough (w : DeviceWorld) : Type 0 where
  pub outs : (interface : ℕ) (o : OutStream) (target : ℕ) → w.outs interface ≡ Some o → o.target ≡ Some target
      → IsSafeLevel o.stream.service (out_level o)
  pub ins : (interface : ℕ) (i : InStream) → w.ins interface ≡ Some i → in_level i ≤ i.stream.service * i.stream.nominal.hi

-- ---- events one after the other

-- what is seen on the way through a row of events
unfoldable pub along : {W V : Type 0} → (ℕ → W → W) → (ℕ → W → List V) → List ℕ → W → List V
along event seen [] w = []
along event seen (n ∷ ns) w = seen n w ++ along event seen ns (event n w)

-- before each of so many frames, and after the last
abbrev pub frame_by_frame : ℕ → (ℕ → DeviceWorld) → List DeviceWorld
frame_by_frame frames so_far = map so_far (range_with_len 0 (suc frames))

-- ---- packets

-- so many frames of a packet lie in the ring; a lost packet brings none, nor does one without room
unfoldable pub while_received : Option (List ℕ) → ℕ → OutStream → OutStream
while_received None came o = o
while_received (Some packet) came o =
    if takes_all o packet then record o { arrived = o.arrived ++ take came (frames_of o.stream packet) } else o

-- so many frames of a packet are out of the ring
unfoldable pub while_sent_in : ℕ → InStream → InStream
while_sent_in gone i = record i { gone = i.gone + gone }

-- while the packet of an interface comes to the device
unfoldable pub out_moments : List PhraseMark → ℕ → StreamingWorld → List DeviceWorld
out_moments marks interface w =
    if is_out_due w interface
    then frame_by_frame (size_of w.host interface)
    (λ came. at_out interface (while_received (packet_to (loses_out marks interface) interface w) came) w.device)
    else []

-- while that of an interface is sent
unfoldable pub in_moments : ℕ → StreamingWorld → List DeviceWorld
in_moments interface w =
    if is_in_due w interface then frame_by_frame (frames_in w.device interface) (λ gone. at_in interface (while_sent_in gone) w.device) else []

-- ---- ticks: each takes one frame from each ring of a primed stream to its domain, and puts one into each of a stream from it

unfoldable pub tick_moments : ℕ → ℕ → RunningWorld → List DeviceWorld
tick_moments zero domain r = r.device ∷ []
tick_moments (suc n) domain r = r.device ∷ tick_moments n domain (tick domain r).world

unfoldable pub domain_moments : ℕ → RunningWorld → List DeviceWorld
domain_moments domain r = tick_moments (next_ticks domain r.device) domain (record r { device = after_advance domain r.device })

-- ---- the end of a microframe

-- so many zero frames lie in the ring in place of a lost packet
unfoldable pub while_ended : ℕ → OutStream → OutStream
while_ended zeros o =
    if is_due o.stream o.microframes then record o { arrived = o.arrived ++ take zeros (zeros_due o) } else o

unfoldable pub end_moments : ℕ → StreamingWorld → List DeviceWorld
end_moments interface w =
    frame_by_frame (option_map_or (λ o. length (zeros_due o)) (w.device.outs interface) 0)
    (λ zeros. at_out interface (while_ended zeros) w.device)

-- ---- a microframe

-- the worlds between its parts: after the packets to the device, after those from it, and after the ticks
abbrev pub after_out : List PhraseMark → RunningWorld → RunningWorld
after_out marks r = with_streaming r (out_packets r.detail marks (streaming_of r)).world

abbrev pub after_in : List PhraseMark → RunningWorld → RunningWorld
after_in marks r = with_streaming r (in_packets r.detail marks (streaming_of r)).world

abbrev pub after_domains : RunningWorld → RunningWorld
after_domains r = (all_domains r).world

abbrev pub out_part : List PhraseMark → RunningWorld → List DeviceWorld
out_part marks r =
    along (λ n w. (out_turn r.detail marks n w).world) (out_moments marks) (numbers r.device.function) (streaming_of r)

abbrev pub in_part : List PhraseMark → RunningWorld → List DeviceWorld
in_part marks r =
    along (λ n w. (in_packet_turn r.detail marks n w).world) in_moments (numbers r.device.function) (streaming_of r)

abbrev pub tick_part : RunningWorld → List DeviceWorld
tick_part r = along (λ c v. (domain_microframe c v).world) domain_moments r.device.function.domains r

abbrev pub end_part : RunningWorld → List DeviceWorld
end_part r = along (λ n w. (end_turn r.detail n w).world) end_moments (numbers r.device.function) (streaming_of r)

-- every moment of a microframe, with these losses, to its end
unfoldable pub moments : List PhraseMark → RunningWorld → List DeviceWorld
moments marks r =
    let numbered : RunningWorld = record r { time = at_most_u64 (r.time + 1) } in
    let sent = after_out marks numbered in
    let fetched = after_in marks sent in
    let ticked = after_domains fetched in
    out_part marks numbered ++ (in_part marks sent ++ (tick_part fetched ++ (end_part ticked ++ (microframe marks r).world.device ∷ [])))

-- ---- a script

unfoldable pub microframes_moments : List PhraseMark → ℕ → RunningWorld → List DeviceWorld
microframes_moments marks zero r = r.device ∷ []
microframes_moments marks (suc n) r = r.device ∷ moments marks r ++ microframes_moments marks n (microframe marks r).world

-- between two lines
abbrev pub resting : BusWorld → List DeviceWorld
resting (describing bytes meters) = []
resting (running r) = r.device ∷ []

-- a line that asks for microframes, or for none
unfoldable pub line_moments : Option Microframes → BusWorld → List DeviceWorld
line_moments None w = resting w
line_moments (Some m) (describing bytes meters) = []
line_moments (Some m) (running r) = microframes_moments m.marks m.count r

abbrev pub and_then_moments : Step → Option Microframes → BusWorld → (BusWorld → List DeviceWorld) → List DeviceWorld
and_then_moments (done next lines) m w go = line_moments m w ++ go next
and_then_moments (refused fault) m w go = resting w

-- every moment of the lines of a script, up to the first that is refused
unfoldable pub moments_after : List (Result Phrase ℕ) → BusWorld → List DeviceWorld
moments_after [] w = resting w
moments_after (Ok phrase ∷ saids) w = and_then_moments (step phrase w) (microframes_of phrase) w (moments_after saids)
moments_after (Err rule ∷ saids) w = resting w
