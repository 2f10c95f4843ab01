-- What each call of the host does to its part of the world, and what it answers (profile; a rate value is a feedback value or the
-- nominal one: USB 2.0, 5.12.4.2).
use Rattle.std.specs.Prelude.{◌≡◌, ℕ, ◌+◌, ◌-◌, ◌*◌, ◌/◌, ◌%◌, ◌==◌, if◌then◌else◌, min, max, ℤ}
use Rattle.std.specs.Prelude.{List, [], ◌++◌, map, length, take, drop, replicate, Option, Some}
use Rattle.std.specs.List.{range_with_len}
use Rattle.std.specs.Option.{option_map, option_map_or}
use Rattle.std.specs.Simd.{first_chunks}
use Rattle.uac_pcm.specs.Packets.{bytes_of_frames, frames_of_bytes}
use Rattle.uac_pcm.specs.Tones.{tone_frame}
use Rattle.uac_pcm.specs.declared.tones.Tone.{Tone}
use Rattle.uac_topology.specs.Function.{FunctionFields, interface_in}
use Rattle.uac_alt.specs.AltStreams.{StreamFields, linked_channels, stream_of}
use Rattle.uac_rate.specs.PacketSizes.{frames_in_packet}
use Rattle.uac_host.specs.HostWorld.{HostWorld, Pace, Track}

-- a value at one interface, and elsewhere what was there
abbrev pub at_interface : {A : Type 0} → ℕ → A → (ℕ → A) → ℕ → A
at_interface interface x before k = if k == interface then x else before k

-- the channels of the terminal to which an interface links; 0 where there is none
unfoldable pub channels_at : FunctionFields → ℕ → ℕ
channels_at function interface = option_map_or (linked_channels function) (interface_in function interface) 0

-- ---- streams

-- a stream is that of a setting of an interface, at one of the rates
pub record IsStreamOf (function : FunctionFields) (interface : ℕ) (stream : StreamFields) : Type 0 where
  pub rate : ℕ
  pub setting : ℕ
  pub is : stream_of function rate interface setting ≡ Some stream

-- a stream that starts: its nominal rate is in force, and no microframe has passed
abbrev pub fresh_pace : StreamFields → Pace
fresh_pace stream = record { stream = stream; used = []; value = stream.nominal.f }

-- an interface starts a stream anew, or runs none; its track stays
unfoldable pub with_stream : ℕ → Option StreamFields → HostWorld → HostWorld
with_stream interface stream w = record w { paces = at_interface interface (option_map fresh_pace stream) w.paces }

-- a rate value, clamped between the least and the greatest packet of a stream
abbrev pub within_nominal : StreamFields → ℕ → ℕ
within_nominal stream value = max (stream.nominal.lo * 65536) (min value (stream.nominal.hi * 65536))

-- a feedback report came: its value is in force, as far as it may be
abbrev pub pace_after_report : ℕ → Pace → Pace
pace_after_report value p = record p { value = within_nominal p.stream value }

-- the report comes to the stream that an interface runs
unfoldable pub with_report : ℕ → ℕ → HostWorld → HostWorld
with_report interface value w = record w
    { paces = at_interface interface (option_map (pace_after_report value) (w.paces interface)) w.paces }

-- ---- tracks

-- samples as frames, one after the other
abbrev pub in_frames : ℕ → List ℤ → List (List ℤ)
in_frames channels samples = first_chunks channels (length samples / channels) samples

-- samples are whole frames of an interface's terminal
abbrev pub AreWhole : FunctionFields → ℕ → List ℤ → Type 0
AreWhole function interface samples = length samples % channels_at function interface ≡ 0

-- an interface's track has frames after those that wait
unfoldable pub with_samples : ℕ → List ℤ → HostWorld → HostWorld
with_samples interface samples w =
    let t = w.tracks interface in
    let frames = in_frames (channels_at w.function interface) samples in
    record w { tracks = at_interface interface (record t { waiting = t.waiting ++ frames }) w.tracks }

-- a track goes on by another tone, from that tone's first frame
unfoldable pub with_track_tone : ℕ → Tone → HostWorld → HostWorld
with_track_tone interface tone w =
    record w { tracks = at_interface interface (record (w.tracks interface) { tone = tone; place = 0 }) w.tracks }

-- the next frames of a track: those that wait, each once, and then its tone's
unfoldable pub next_frames : ℕ → ℕ → Track → List (List ℤ)
next_frames channels n t =
    take n t.waiting ++ map (tone_frame channels t.tone) (range_with_len t.place (n - length t.waiting))

-- a track without them
unfoldable pub track_after_frames : ℕ → Track → Track
track_after_frames n t = record t { waiting = drop n t.waiting; place = t.place + (n - length t.waiting) }

-- ---- packets

-- the rate values of a stream up to the end of its next packet's service interval: the one in force is used in each of its microframes
abbrev pub used_next : Pace → List ℕ
used_next p = p.used ++ replicate p.stream.service p.value

-- the number of frames of a stream's next packet
abbrev pub next_size : Pace → ℕ
next_size p = frames_in_packet p.stream.service (used_next p)

-- the next packet's frames of the stream that an interface runs; 0 where it runs none
unfoldable pub size_of : HostWorld → ℕ → ℕ
size_of w interface = option_map_or next_size (w.paces interface) 0

-- the bytes of that packet
unfoldable pub packet_of : HostWorld → ℕ → List ℕ
packet_of w interface =
    option_map_or (λ p. bytes_of_frames p.stream.subslot p.stream.bits (next_frames p.stream.channels (next_size p) (w.tracks interface)))
    (w.paces interface) []

-- a stream whose next packet was formed
abbrev pub pace_after_packet : Pace → Pace
pace_after_packet p = record p { used = used_next p }

-- a packet was sent: the pace of the stream that an interface runs goes on, and its track
unfoldable pub after_host_packet : ℕ → HostWorld → HostWorld
after_host_packet interface w =
    record w {
      paces = at_interface interface (option_map pace_after_packet (w.paces interface)) w.paces;
      tracks = at_interface interface (track_after_frames (size_of w interface) (w.tracks interface)) w.tracks;
    }

-- the frames that stand whole in a packet of the stream that an interface runs; none where it runs none
unfoldable pub heard_in : HostWorld → ℕ → List ℕ → List (List ℤ)
heard_in w interface bytes =
    option_map_or (λ p. frames_of_bytes p.stream.channels p.stream.subslot p.stream.bits bytes) (w.paces interface) []
