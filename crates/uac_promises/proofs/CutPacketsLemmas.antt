-- The worlds in which each packet brings what was sent, cut; and that it does.
use Rattle.std.proofs.Common.{◌≡◌, ◌∙◌, sym, ap, subst, arith, ℕ, ◌-◌, ℤ, List, [], length, map, take, drop, Option, Some}
use Rattle.std.specs.List.{All, range_with_len}
use Rattle.std.specs.Option.{option_map_or}
use Rattle.std.proofs.Math.Nat.{mul-pos}
use Rattle.std.proofs.lemmas.List.{append-nil}
use Rattle.std.proofs.lemmas.List.Elements.{All-append, All-drop, All-map, All-take}
use Rattle.uac_pcm.specs.Frames.{IsFormat}
use Rattle.uac_pcm.specs.Packets.{IsFrame, bytes_of_frames, frames_of_bytes}
use Rattle.uac_pcm.specs.Tones.{tone_frame}
use Rattle.uac_pcm.proofs.PacketsLemmas.{frames_of_bytes-bytes_of_frames}
use Rattle.uac_topology.specs.Topology.{IsSoundFunction}
use Rattle.uac_alt.specs.AltStreams.{StreamFields}
use Rattle.uac_alt.proofs.FormedLemmas.{stream_format}
use Rattle.uac_graph.specs.Meaning.{entity}
use Rattle.uac_flow.specs.FlowStreams.{InStream, OutStream, frames_of, sent_in_frames, sent_in_packet}
use Rattle.uac_host.specs.HostWorld.{HostWorld, Pace, Track}
use Rattle.uac_host.specs.HostCalls.{IsStreamOf, channels_at, heard_in, next_frames, next_size, packet_of, size_of}
use Rattle.uac_host.proofs.HostCallsStreamLemmas.{channels_of}
use Rattle.uac_device.specs.DeviceWorld.{DeviceWorld, packet_in}
use Rattle.uac_promises.specs.CutSamples.{cut_frames}
use Rattle.uac_promises.proofs.CutGraphLemmas.{Fit, IsFrame-tone}

-- ---- a host and a device of the same streams, all of whose samples have 32 bits

-- the host runs this stream on an interface
pub record RunsOn (paces : ℕ → Option Pace) (interface : ℕ) (stream : StreamFields) : Type 0 where
  pub pace : Pace
  pub there : paces interface ≡ Some pace
  pub same : pace.stream ≡ stream

-- of a stream to the device, and of one from it
pub record OutIsSampled (paces : ℕ → Option Pace) (interface : ℕ) (o : OutStream) : Type 0 where
  pub runs : RunsOn paces interface o.stream
  pub fits : All Fit o.arrived

pub record InIsSampled (paces : ℕ → Option Pace) (interface : ℕ) (i : InStream) : Type 0 where
  pub runs : RunsOn paces interface i.stream
  pub frames : All (IsFrame i.stream.channels) i.made

pub record HostIsSampled (h : HostWorld) : Type 0 where
  pub sound : IsSoundFunction h.function
  pub streams : (interface : ℕ) (p : Pace) → h.paces interface ≡ Some p → IsStreamOf h.function interface p.stream
  pub tracks : (interface : ℕ) → All (IsFrame (channels_at h.function interface)) (h.tracks interface).waiting

pub record DeviceIsSampled (paces : ℕ → Option Pace) (w : DeviceWorld) : Type 0 where
  pub outs : (interface : ℕ) (o : OutStream) → w.outs interface ≡ Some o → OutIsSampled paces interface o
  pub ins : (interface : ℕ) (i : InStream) → w.ins interface ≡ Some i → InIsSampled paces interface i
  pub given : (id : ℕ) → Fit (w.given id)
  pub played : (id : ℕ) → IsFrame (entity w.function.entities id).cluster.channels (w.played id)

pub record AreSampled (h : HostWorld) (w : DeviceWorld) : Type 0 where
  pub host : HostIsSampled h
  pub function : h.function ≡ w.function
  pub device : DeviceIsSampled h.paces w

-- ---- what runs

module _ (h : HostWorld) (is : HostIsSampled h) (interface : ℕ) (stream : StreamFields) (runs : RunsOn h.paces interface stream) where
  pub runs_of : IsStreamOf h.function interface stream
  runs_of = subst (IsStreamOf h.function interface) runs.same (is.streams interface runs.pace runs.there)

  pub runs_format : IsFormat stream.channels stream.subslot stream.bits
  runs_format = stream_format h.function runs_of.rate interface runs_of.setting stream is.sound runs_of.is

  -- the next frames of its track
  pub next_are_frames : (n : ℕ) → All (IsFrame stream.channels) (next_frames stream.channels n (h.tracks interface))
  unfolding next_frames
  next_are_frames n =
      let t : Track = h.tracks interface in
      let waits : All (IsFrame stream.channels) t.waiting =
      subst (λ (c : ℕ). All (IsFrame c) t.waiting) (sym (channels_of h.function interface stream runs_of)) (is.tracks interface) in
      All-append (IsFrame stream.channels) (take n t.waiting) (map (tone_frame stream.channels t.tone) (range_with_len t.place (n - length t.waiting)))
      (All-take (IsFrame stream.channels) n t.waiting waits)
      (All-map (IsFrame stream.channels) (tone_frame stream.channels t.tone) (range_with_len t.place (n - length t.waiting))
      (λ k d inside. IsFrame-tone stream.channels t.tone _))

  pub packet_is : packet_of h interface ≡ bytes_of_frames stream.subslot stream.bits (next_frames stream.channels (size_of h interface) (h.tracks interface))
  unfolding packet_of size_of
  packet_is =
      let bytes : StreamFields → ℕ → List ℕ = λ s n. bytes_of_frames s.subslot s.bits (next_frames s.channels n (h.tracks interface)) in
      ap (λ (o : Option Pace). option_map_or (λ p. bytes p.stream (next_size p)) o []) runs.there
      ∙ ap (λ (s : StreamFields). bytes s (next_size runs.pace)) runs.same
      ∙ ap (λ (o : Option Pace). bytes stream (option_map_or next_size o 0)) (sym runs.there)

  pub heard_is : (bytes : List ℕ) → heard_in h interface bytes ≡ frames_of_bytes stream.channels stream.subslot stream.bits bytes
  unfolding heard_in
  heard_is bytes =
      ap (λ (o : Option Pace). option_map_or (λ p. frames_of_bytes p.stream.channels p.stream.subslot p.stream.bits bytes) o []) runs.there
      ∙ ap (λ (s : StreamFields). frames_of_bytes s.channels s.subslot s.bits bytes) runs.same

-- ---- a packet brings its frames, cut

read_back : (channels subslot bits : ℕ) (frames : List (List ℤ)) → IsFormat channels subslot bits → All (IsFrame channels) frames
    → frames_of_bytes channels subslot bits (bytes_of_frames subslot bits frames) ≡ cut_frames bits frames
read_back channels subslot bits frames format are =
    ap (frames_of_bytes channels subslot bits) (sym (append-nil (bytes_of_frames subslot bits frames)))
    ∙ frames_of_bytes-bytes_of_frames channels subslot bits frames [] format are (mul-pos (omega (arith, format.0)) (omega (arith, format.2)))

pub out_is_cut : (h : HostWorld) (w : DeviceWorld) → AreSampled h w → (interface : ℕ) (o : OutStream) → w.outs interface ≡ Some o
    → frames_of o.stream (packet_of h interface) ≡ cut_frames o.stream.bits (next_frames o.stream.channels (size_of h interface) (h.tracks interface))
out_is_cut h w are interface o there =
    let runs = (are.device.outs interface o there).runs in
    let s : StreamFields = o.stream in
    ap (frames_of_bytes s.channels s.subslot s.bits) (packet_is h are.host interface s runs)
    ∙ read_back s.channels s.subslot s.bits (next_frames s.channels (size_of h interface) (h.tracks interface)) (runs_format h are.host interface s runs)
    (next_are_frames h are.host interface s runs (size_of h interface))

pub in_is_cut : (h : HostWorld) (w : DeviceWorld) → AreSampled h w → (interface : ℕ) (i : InStream) → w.ins interface ≡ Some i
    → heard_in h interface (packet_in w interface) ≡ cut_frames i.stream.bits (take (sent_in_frames i) (drop i.gone i.made))
unfolding packet_in sent_in_packet
in_is_cut h w are interface i there =
    let sampled = are.device.ins interface i there in
    let s : StreamFields = i.stream in
    let frames : List (List ℤ) = take (sent_in_frames i) (drop i.gone i.made) in
    heard_is h are.host interface s sampled.runs (option_map_or sent_in_packet (w.ins interface) [])
    ∙ ap (λ (o : Option InStream). frames_of_bytes s.channels s.subslot s.bits (option_map_or sent_in_packet o [])) there
    ∙ read_back s.channels s.subslot s.bits frames (runs_format h are.host interface s sampled.runs)
    (All-take (IsFrame s.channels) (sent_in_frames i) (drop i.gone i.made) (All-drop (IsFrame s.channels) i.gone i.made sampled.frames))
