-- Streams between a host and a device: what packets, feedback reports and the ends of microframes make of both, and what is said of
-- them. Profile: the order of events, and what is printed. The direction of an interface is that of its data endpoint (USB 2.0, 9.6.6);
-- feedback is that of 5.12.4.2.
use Rattle.std.specs.Prelude.{ℕ, ◌==◌, ◌&&◌, not, nat_le, Bool, false, if◌then◌else◌, ℤ, List, [], ◌∷◌, ◌++◌, map}
use Rattle.std.specs.Prelude.{filter, Option, Some, None, is_some}
use Rattle.std.specs.List.{range_with_len}
use Rattle.std.specs.Option.{option_map_or}
use Rattle.uac_topology.specs.Function.{FunctionFields, interface_in}
pub use Rattle.uac_topology.specs.Function.{stream_index}
use Rattle.uac_alt.specs.AltStreams.{StreamFields}
use Rattle.uac_rate.specs.Steadiness.{SteadyHistory, nothing_given, with_report_given, with_restart_given}
use Rattle.uac_flow.specs.FlowStreams.{is_dry, is_full}
use Rattle.uac_ring.specs.declared.arrival.Arrival.{Arrival}
use Rattle.uac_ring.specs.declared.arrival.Arrival.TheVariants as arrivals
use Rattle.uac_device.specs.DeviceWorld.{DeviceWorld, arrival_in, feedback_in, frames_in, fresh, is_due_in, is_on, level_of, packet_in}
use Rattle.uac_device.specs.DeviceWorld.{after_receiving, after_sending_in_packet, after_end, target_of}
use Rattle.uac_host.specs.HostWorld.{HostWorld, fresh_host}
use Rattle.uac_host.specs.HostCalls.{after_host_packet, heard_in, packet_of, size_of, with_report, with_stream}
use Rattle.uac_script.specs.Phrase.{PhraseMark}
use Rattle.uac_ring.specs.declared.counts.StreamCounts.{StreamCounts}
pub use Rattle.uac_ring.specs.Meeting.{after_arrival, nothing_met, one_lost, one_missed, one_over, one_under}
pub use Rattle.uac_script.specs.Losses.{is_at, loses_in, loses_out, loses_feedback, marks_in, marks_out, marks_feedback}
use Rattle.uac_transcript.specs.Transcript.{Said, says_feedback, says_frame, says_in, says_level, says_out, says_over, says_under}
use Rattle.uac_streaming.specs.Telling.{Telling, without_event, in_turn}

-- a host and a device, and what happened between them
pub record StreamingWorld : Type 0 where
  pub device : DeviceWorld
  pub host : HostWorld
  -- by interface, what its streams met
  pub met : ℕ → StreamCounts
  -- the deviations that were given, and by streaming interface, in block order, of each start the feedback reports
  pub history : SteadyHistory

-- just after the descriptor was accepted
unfoldable pub streaming_start : FunctionFields → StreamingWorld
streaming_start function =
    record { device = fresh function; host = fresh_host function; met = λ interface. nothing_met; history = nothing_given }

-- ---- interfaces

-- the numbers of the streaming interfaces, the least first
unfoldable pub numbers : FunctionFields → List ℕ
numbers function = filter (λ n. is_some (interface_in function n)) (range_with_len 0 256)

-- an interface carries a stream to the device
abbrev pub goes_out : FunctionFields → ℕ → Bool
goes_out function interface = option_map_or (λ s. s.out) (interface_in function interface) false

-- an interface carries a stream from the device
abbrev pub comes_in : FunctionFields → ℕ → Bool
comes_in function interface = option_map_or (λ s. not s.out) (interface_in function interface) false

-- the numbers of those, and of these, the least first
abbrev pub numbers_out : FunctionFields → List ℕ
numbers_out function = filter (goes_out function) (numbers function)

abbrev pub numbers_in : FunctionFields → List ℕ
numbers_in function = filter (comes_in function) (numbers function)

-- ---- counts

-- the counts of one interface change
abbrev pub counted_at : ℕ → (StreamCounts → StreamCounts) → (ℕ → StreamCounts) → ℕ → StreamCounts
counted_at interface change met k = if k == interface then change (met k) else met k

-- the counts of these interfaces, in block order
abbrev pub met_in : (ℕ → StreamCounts) → FunctionFields → List StreamCounts
met_in met function = map (λ s. met s.number) function.streams

-- ---- packets to the device

-- a packet that was over is said at any detail
abbrev pub over_lines : ℕ → Arrival → List Said
over_lines interface arrivals.Taken = []
over_lines interface arrivals.Lost = []
over_lines interface arrivals.Over = says_over interface ∷ []

-- from detail 2 on each packet is said
abbrev pub out_lines : ℕ → ℕ → ℕ → Arrival → List Said
out_lines detail interface frames arrival =
    (if nat_le 2 detail then says_out interface frames arrival ∷ [] else []) ++ over_lines interface arrival

-- the packet that comes to the device; none where it is lost
abbrev pub packet_to : Bool → ℕ → StreamingWorld → Option (List ℕ)
packet_to lost interface w = if lost then None else Some (packet_of w.host interface)

-- the host sends a packet, which is lost or comes to the device
unfoldable pub packet_sent_out : Bool → ℕ → StreamingWorld → StreamingWorld
packet_sent_out lost interface w =
    let packet = packet_to lost interface w in
    record w {
      device = after_receiving interface packet w.device;
      host = after_host_packet interface w.host;
      met = counted_at interface (after_arrival (arrival_in w.device interface packet)) w.met;
    }

-- what is said of the packet that the host sends
abbrev pub sent_out_lines : ℕ → Bool → ℕ → StreamingWorld → List Said
sent_out_lines detail lost interface w =
    out_lines detail interface (size_of w.host interface) (arrival_in w.device interface (packet_to lost interface w))

-- an interface runs a stream to the device that is due
abbrev pub is_out_due : StreamingWorld → ℕ → Bool
is_out_due w interface = goes_out w.device.function interface && is_due_in w.device interface

-- a packet's turn to the device, where the interface runs such a stream that is due
unfoldable pub out_turn : ℕ → List PhraseMark → ℕ → StreamingWorld → Telling StreamingWorld
out_turn detail marks interface w =
    if is_out_due w interface
    then record {
      lines = sent_out_lines detail (loses_out marks interface) interface w;
      world = packet_sent_out
          (loses_out marks interface) interface w;
    }
    else without_event w

-- of an interface that carries a stream to the device, where that is due
unfoldable pub outward_turn : ℕ → List PhraseMark → ℕ → StreamingWorld → Telling StreamingWorld
outward_turn detail marks interface w =
    if is_due_in w.device interface
    then record {
      lines = sent_out_lines detail (loses_out marks interface) interface w;
      world = packet_sent_out (loses_out marks interface) interface w;
    }
    else without_event w

-- the packets to the device, by interface number
unfoldable pub out_packets : ℕ → List PhraseMark → StreamingWorld → Telling StreamingWorld
out_packets detail marks w = in_turn (out_turn detail marks) (numbers w.device.function) w

-- ---- packets from the device

-- from detail 2 on each packet is said, and from detail 1 on the frames of one that came
abbrev pub in_lines : ℕ → Bool → ℕ → ℕ → List (List ℤ) → List Said
in_lines detail lost interface frames heard =
    (if nat_le 2 detail then says_in interface frames lost ∷ [] else [])
    ++ (if nat_le 1 detail && not lost then map (says_frame interface) heard else [])

-- the device sends a packet, which is lost or comes to the host
unfoldable pub packet_fetched : Bool → ℕ → StreamingWorld → StreamingWorld
packet_fetched lost interface w =
    record w { device = after_sending_in_packet interface w.device; met = counted_at interface (λ c. if lost then one_lost c else c) w.met }

-- what is said of the packet that the device sends
abbrev pub fetched_lines : ℕ → Bool → ℕ → StreamingWorld → List Said
fetched_lines detail lost interface w =
    in_lines detail lost interface (frames_in w.device interface) (heard_in w.host interface (packet_in w.device interface))

-- an interface runs a stream from the device that is due
abbrev pub is_in_due : StreamingWorld → ℕ → Bool
is_in_due w interface = comes_in w.device.function interface && is_due_in w.device interface

-- a packet's turn from the device, where the interface runs such a stream that is due
unfoldable pub in_packet_turn : ℕ → List PhraseMark → ℕ → StreamingWorld → Telling StreamingWorld
in_packet_turn detail marks interface w =
    if is_in_due w interface
    then record {
      lines = fetched_lines detail (loses_in marks interface) interface w;
      world = packet_fetched
          (loses_in marks interface) interface w;
    }
    else without_event w

-- of an interface that carries a stream from the device, where that is due
unfoldable pub inward_turn : ℕ → List PhraseMark → ℕ → StreamingWorld → Telling StreamingWorld
inward_turn detail marks interface w =
    if is_due_in w.device interface
    then record {
      lines = fetched_lines detail (loses_in marks interface) interface w;
      world = packet_fetched (loses_in marks interface) interface w;
    }
    else without_event w

-- the packets from the device, by interface number
unfoldable pub in_packets : ℕ → List PhraseMark → StreamingWorld → Telling StreamingWorld
in_packets detail marks w = in_turn (in_packet_turn detail marks) (numbers w.device.function) w

-- ---- ticks

-- a tick of a domain finds the primed ring of an interface empty, or its ring full
abbrev pub finds_empty : ℕ → DeviceWorld → ℕ → Bool
finds_empty domain w interface = is_on w domain interface && option_map_or is_dry (w.outs interface) false

abbrev pub finds_full : ℕ → DeviceWorld → ℕ → Bool
finds_full domain w interface = is_on w domain interface && option_map_or is_full (w.ins interface) false

-- what a tick of a domain finds, at any detail: first the rings found empty, in block order, and then those found full
unfoldable pub found_lines : ℕ → DeviceWorld → List Said
found_lines domain w =
    map (λ s. says_under s.number) (filter (λ s. finds_empty domain w s.number) w.function.streams)
    ++ map (λ s. says_over s.number) (filter (λ s. finds_full domain w s.number) w.function.streams)

-- the counts of rings found empty or full, with those of a tick
unfoldable pub found_counts : ℕ → DeviceWorld → (ℕ → StreamCounts) → ℕ → StreamCounts
found_counts domain w met k =
    let c = if finds_empty domain w k then one_under (met k) else met k in
    if finds_full domain w k then one_over c else c

-- ---- the ends of microframes

-- from detail 2 on the level of a stream to the device that was due is said
abbrev pub end_lines : ℕ → ℕ → DeviceWorld → List Said
end_lines detail interface w =
    if nat_le 2 detail && (goes_out w.function interface && is_due_in w interface)
    then says_level interface (level_of (after_end interface w) interface) (target_of (after_end interface w) interface) ∷ []
    else []

-- a microframe ends for an interface's stream
unfoldable pub end_turn : ℕ → ℕ → StreamingWorld → Telling StreamingWorld
end_turn detail interface w =
    record { lines = end_lines detail interface w.device; world = record w { device = after_end interface w.device } }

-- the microframe ends for all streams, by interface number
unfoldable pub all_ends : ℕ → StreamingWorld → Telling StreamingWorld
all_ends detail w = in_turn (end_turn detail) (numbers w.device.function) w

-- ---- feedback

-- what happens to the reports of the interface at an index, where there is one
abbrev pub given_at : Option ℕ → (ℕ → SteadyHistory → SteadyHistory) → SteadyHistory → SteadyHistory
given_at None event given = given
given_at (Some index) event given = event index given

-- a report is lost, or comes to the host
unfoldable pub feedback_made : Bool → ℕ → ℕ → StreamingWorld → StreamingWorld
feedback_made lost value interface w =
    record w {
      host = if lost then w.host else with_report interface value w.host;
      met = counted_at interface (λ c. if lost then one_missed c else c) w.met;
      history = given_at (stream_index w.device.function interface) (λ index. with_report_given index lost) w.history;
    }

-- from detail 2 on it is said
abbrev pub feedback_lines : ℕ → Bool → ℕ → ℕ → List Said
feedback_lines detail lost value interface = if nat_le 2 detail then says_feedback interface value lost ∷ [] else []

-- a report's turn, where one of the interface's stream is due
unfoldable pub feedback_turn : ℕ → List PhraseMark → ℕ → StreamingWorld → Telling StreamingWorld
feedback_turn detail marks interface w =
    let lost = loses_feedback marks interface in
    option_map_or (λ value. record { lines = feedback_lines detail lost value interface; world = feedback_made lost value interface w })
    (feedback_in w.device interface) (without_event w)

-- the reports, by interface number
unfoldable pub all_feedback : ℕ → List PhraseMark → StreamingWorld → Telling StreamingWorld
all_feedback detail marks w = in_turn (feedback_turn detail marks) (numbers w.device.function) w

-- ---- starts

-- the host's stream of an interface follows the device's: it starts anew, with no reports yet, or stops where none is given
unfoldable pub after_following : ℕ → Option StreamFields → StreamingWorld → StreamingWorld
after_following interface begun w =
    record w {
      host = with_stream interface begun w.host;
      history = if is_some begun then given_at (stream_index w.device.function interface) with_restart_given w.history else w.history;
    }
