-- How many bytes the next packet of a stream has.
use Rattle.std.proofs.Common.{◌≡◌, ◌∙◌, sym, ap, subst, arith, ℕ, zero, suc, ◌+◌, ◌-◌, ◌*◌, ◌/◌, min, List, [], ◌∷◌, length, map, take, Option, Some, None, length-append}
use Rattle.std.specs.List.{All, range_with_len}
use Rattle.std.specs.Option.{option_map_or}
use Rattle.std.proofs.lemmas.List.{length-map, length-take}
use Rattle.std.proofs.lemmas.List.Elements.{All-append, All-take}
use Rattle.std.proofs.lemmas.List.FromFn.{length-range_with_len}
use Rattle.uac_pcm.specs.Packets.{bytes_of_frames}
use Rattle.uac_pcm.specs.Tones.{tone_sample, tone_frame}
use Rattle.uac_pcm.specs.declared.tones.Tone.{Tone}
use Rattle.uac_pcm.proofs.PacketsLemmas.{length-bytes_of_frames}
use Rattle.uac_host.specs.declared.host_streams.HostStream.{HostStream}
use Rattle.uac_host.specs.HostWorld.{HostWorld, Pace, Track}
use Rattle.uac_host.specs.HostFields.{PaceFields}
use Rattle.uac_host.specs.HostCalls.{channels_at, next_frames, next_size, packet_of}
use Rattle.uac_host.specs.HostKept.{IsKeptStream}
use Rattle.uac_host.proofs.HostCallsStreamLemmas.{channels_of}
use Rattle.uac_host.proofs.HostKeptLemmas.{size_kept}
use Rattle.uac_host.proofs.HostKeptCallLemmas.{runs_in, unsent}

-- so many frames are next
length_next : (channels n : ℕ) (t : Track) → length (next_frames channels n t) ≡ n
unfolding next_frames
length_next channels n t =
    length-append (take n t.waiting) (map (tone_frame channels t.tone) (range_with_len t.place (n - length t.waiting)))
    ∙ ap (λ (m : ℕ). length (take n t.waiting) + m)
    (length-map (range_with_len t.place (n - length t.waiting)) (tone_frame channels t.tone) ∙ length-range_with_len t.place (n - length t.waiting))
    ∙ whole (length-take n t.waiting)
  where
    whole : length (take n t.waiting) ≡ min n (length t.waiting) → length (take n t.waiting) + (n - length t.waiting) ≡ n
    whole taken = omega (arith, taken)

-- each with a sample for each channel
tones_even : (channels : ℕ) (tone : Tone) (ns : List ℕ) → All (λ frame. length frame ≡ channels) (map (tone_frame channels tone) ns)
tones_even channels tone [] k d below = absurd (omega arith)
tones_even channels tone (n ∷ ns) zero d below = length-map (range_with_len 0 channels) (tone_sample tone n) ∙ length-range_with_len 0 channels
tones_even channels tone (n ∷ ns) (suc k) d below = tones_even channels tone ns k d (omega arith)

next_even : (channels n : ℕ) (t : Track) → All (λ frame. length frame ≡ channels) t.waiting → All (λ frame. length frame ≡ channels) (next_frames channels n t)
unfolding next_frames
next_even channels n t even =
    All-append (λ frame. length frame ≡ channels) (take n t.waiting) (map (tone_frame channels t.tone) (range_with_len t.place (n - length t.waiting)))
    (All-take (λ frame. length frame ≡ channels) n t.waiting even)
    (tones_even channels t.tone (range_with_len t.place (n - length t.waiting)))

-- the bytes of the packet of a stream that runs
pub packet_bytes : (w : HostWorld) (l : HostStream) (fields : PaceFields) (bytes : ℕ) → IsKeptStream w l → l.pace ≡ Some fields
    → bytes ≡ (fields.remainder + fields.stream.service * fields.value) / 65536 * (fields.stream.channels * fields.stream.subslot)
    → bytes ≡ length (packet_of w l.interface)
unfolding packet_of
packet_bytes w l fields bytes kept runs is =
    let t : Track = w.tracks l.interface in
    let found = runs_in w l fields kept runs in
    let p : Pace = found.0 in
    let linked : p.stream.channels ≡ channels_at w.function l.interface = channels_of w.function l.interface p.stream (kept.streams p found.1) in
    let even : All (λ frame. length frame ≡ p.stream.channels) t.waiting =
    subst (λ (n : ℕ). All (λ frame. length frame ≡ n) t.waiting) (sym linked) kept.whole in
    let frames = next_frames p.stream.channels (next_size p) t in
    let packed : length (bytes_of_frames p.stream.subslot p.stream.bits frames) ≡ length frames * (p.stream.channels * p.stream.subslot) =
    length-bytes_of_frames p.stream.channels p.stream.subslot p.stream.bits frames (next_even p.stream.channels (next_size p) t even) in
    is
    ∙ ap (λ (f : PaceFields). (f.remainder + f.stream.service * f.value) / 65536 * (f.stream.channels * f.stream.subslot)) (sym found.2)
    ∙ ap (λ (n : ℕ). n * (p.stream.channels * p.stream.subslot)) (size_kept p ∙ sym (length_next p.stream.channels (next_size p) t))
    ∙ sym packed
    ∙ sym
    (ap (λ (o : Option Pace). length (option_map_or (λ q. bytes_of_frames q.stream.subslot q.stream.bits (next_frames q.stream.channels (next_size q) t)) o [])) found.1)

-- where none runs, there are none
pub no_bytes : (w : HostWorld) (interface : ℕ) → w.paces interface ≡ None → 0 ≡ length (packet_of w interface)
no_bytes w interface none = ap (λ (bytes : List ℕ). length bytes) (unsent w interface none).1
