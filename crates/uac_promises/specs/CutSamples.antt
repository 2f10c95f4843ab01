-- What comes out of a packet is what went in, each sample cut to the stream's bits, whatever a script says (Audio Data Formats 2.0, 2.3.1;
-- profile).
use Rattle.std.specs.Prelude.{◌≡◌, ℕ, Bool, ℤ, List, map, take, drop, Some}
use Rattle.uac_pcm.specs.Subslots.{cut_to}
use Rattle.uac_flow.specs.FlowStreams.{InStream, OutStream, frames_of, sent_in_frames}
use Rattle.uac_host.specs.HostCalls.{heard_in, next_frames, packet_of, size_of}
use Rattle.uac_device.specs.DeviceWorld.{packet_in}
use Rattle.uac_script.specs.Phrase.{PhraseMark}
use Rattle.uac_streaming.specs.StreamingWorld.{StreamingWorld, fetched_lines, in_lines, in_packet_turn, numbers, out_packets, out_turn}
use Rattle.uac_streaming.specs.Telling.{in_turn}
use Rattle.uac_running.specs.RunningWorld.{RunningWorld, streaming_of}
use Rattle.uac_units.specs.Hearing.{Reading}
use Rattle.uac_script.specs.LineParsing.{answer}
use Rattle.uac_running.specs.Events.{microframes}
use Rattle.uac_rows.specs.BusWorld.{BusWorld, describing, running, start}
use Rattle.uac_rows.specs.After.{after}

-- ---- a packet

-- the frames, of each sample the bits below the uppermost so many of 32 cleared
abbrev pub cut_frames : ℕ → List (List ℤ) → List (List ℤ)
cut_frames bits frames = map (map (cut_to bits)) frames

-- of each stream that runs, the frames that its next packet brings: to the device those that are next on the interface's track, and from it
-- those that are next of the ones on its terminal's wire, each sample cut
pub record PacketsAreCut (w : StreamingWorld) : Type 0 where
  pub arrive : (interface : ℕ) (o : OutStream) → w.device.outs interface ≡ Some o
      → frames_of o.stream (packet_of w.host interface)
      ≡ cut_frames o.stream.bits (next_frames o.stream.channels (size_of w.host interface) (w.host.tracks interface))
  pub heard : (interface : ℕ) (i : InStream) → w.device.ins interface ≡ Some i
      → heard_in w.host interface (packet_in w.device interface) ≡ cut_frames i.stream.bits (take (sent_in_frames i) (drop i.gone i.made))
  -- and so the lines say
  pub told : (detail : ℕ) (lost : Bool) (interface : ℕ) (i : InStream) → w.device.ins interface ≡ Some i
      → fetched_lines detail lost interface w
      ≡ in_lines detail lost interface (sent_in_frames i) (cut_frames i.stream.bits (take (sent_in_frames i) (drop i.gone i.made)))

-- ---- each packet of a microframe

-- the worlds in which an interface's turn comes, once so many had theirs: to send to the device, and then to be sent to by it
abbrev pub at_out_turn : List PhraseMark → ℕ → RunningWorld → StreamingWorld
at_out_turn marks turns r =
    (in_turn (out_turn r.detail marks) (take turns (numbers r.device.function)) (streaming_of r)).world

abbrev pub at_in_turn : List PhraseMark → ℕ → RunningWorld → StreamingWorld
at_in_turn marks turns r =
    (in_turn (in_packet_turn r.detail marks) (take turns (numbers r.device.function)) (out_packets r.detail marks (streaming_of r)).world).world

-- so it is of each packet of a microframe, when its turn comes
pub record MicroframeIsCut (marks : List PhraseMark) (r : RunningWorld) : Type 0 where
  pub out : (turns : ℕ) → PacketsAreCut (at_out_turn marks turns r)
  pub from : (turns : ℕ) → PacketsAreCut (at_in_turn marks turns r)

-- ---- every run

-- so it is in each microframe that may come, after so many others with these losses; before the descriptor's end there are none
abbrev pub IsCutIn : BusWorld → Type 0
IsCutIn (describing bytes meters) = Unit {0}
IsCutIn (running r) = (marks : List PhraseMark) (count : ℕ) → MicroframeIsCut marks (microframes marks count r).world

-- so it is in the world that lines leave, for every list of their texts, also where one of them is refused
abbrev pub SamplesAreCut : Type 0
SamplesAreCut = (texts : List (List ℕ)) (shown : List Reading) → IsCutIn (after (map answer texts) (start shown)).world
