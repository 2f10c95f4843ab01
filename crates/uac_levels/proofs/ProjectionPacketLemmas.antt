-- The packets of one stream: as many frames as its rate values say, microframe by microframe.
use Rattle.std.proofs.Common.{◌≡◌, ◌∙◌, sym, refl, ap, subst, arith, ℕ, zero, suc, ◌+◌, ◌-◌, ◌*◌, ◌<◌, ◌≤◌, Bool, true, false, if◌then◌else◌, min, ℤ, List, [], ◌∷◌, ◌++◌, length, map, take, Option, Some, None, is_some, length-append, append-nil}
use Rattle.std.specs.List.{All, range_with_len}
use Rattle.std.specs.Option.{option_map_or}
use Rattle.std.proofs.lemmas.List.{length-map, length-take}
use Rattle.std.proofs.lemmas.List.Elements.{All-append, All-take}
use Rattle.std.proofs.lemmas.List.FromFn.{length-range_with_len}
use Rattle.std.proofs.lemmas.Option.{option_and_then_some}
use Rattle.uac_clock.specs.Ticks.{ticks_in}
use Rattle.uac_pcm.specs.Frames.{IsFormat}
use Rattle.uac_pcm.specs.Packets.{bytes_of_frames, whole_frames}
use Rattle.uac_pcm.specs.Tones.{tone_sample, tone_frame}
use Rattle.uac_pcm.specs.declared.tones.Tone.{Tone}
use Rattle.uac_pcm.proofs.PacketsLemmas.{frame_bytes-pos, length-frames_of_bytes, whole_frames-bytes_of_frames}
use Rattle.uac_topology.specs.Function.{FunctionFields}
use Rattle.uac_alt.specs.AltStreams.{StreamFields}
use Rattle.uac_rate.specs.Steadiness.{one_more}
use Rattle.uac_flow.specs.FlowStreams.{OutStream, after_packet, after_taking, after_ticks, feedback_of, frames_of, is_dry, is_due, out_after_end, after_due_end}
use Rattle.uac_host.specs.HostWorld.{Pace, Track}
use Rattle.uac_host.specs.HostCalls.{IsStreamOf, track_after_frames, channels_at, next_frames, next_size, packet_of, pace_after_report, pace_after_packet}
use Rattle.uac_host.proofs.HostKeptLemmas.{even_after}
use Rattle.uac_host.proofs.HostCallsStreamLemmas.{channels_of}
use Rattle.uac_device.specs.DeviceWorld.{step_in}
use Rattle.uac_streaming.specs.StreamingWorld.{loses_out, loses_feedback, packet_to, stream_index}
use Rattle.uac_running.specs.RunningWorld.{streaming_of}
use Rattle.uac_running.specs.Events.{microframe}
use Rattle.uac_levels.specs.Life.{Life, domain_on, life_after, life_of, ticks_taken, with_end, with_packet, with_step}
use Rattle.uac_levels.specs.Projection.{MicroframesKeepFed, PacketsHaveTheirFrames, next_life}
use Rattle.uac_levels.proofs.ProjectionLifeLemmas.{mapped, tracks_go_on}
use Rattle.uac_levels.proofs.ProjectionKeptLemmas.{microframes_keep_the_rest}

-- ---- the streams of a life

took_streams : (packet : Option (List ℕ)) (o : OutStream) → (after_packet packet o).stream ≡ o.stream
unfolding after_packet
took_streams None o = refl
took_streams (Some packet) o = refl

tick_streams : (o : OutStream) → (after_taking o).stream ≡ o.stream
unfolding after_taking
tick_streams o = by (is_dry o) (is_some o.target)
  where
    by : (dry primed : Bool) → (if dry then record o { arrived = []; taken = 0; target = None } else if primed then record o { taken = o.taken + 1 } else o).stream ≡ o.stream
    by true primed = refl
    by false true = refl
    by false false = refl

ticks_stream : (count : ℕ) (o : OutStream) → (ticks_taken count o).stream ≡ o.stream
unfolding ticks_taken
ticks_stream zero o = refl
ticks_stream (suc count) o = ticks_stream count (after_taking o) ∙ tick_streams o

pub ended_streams : (o : OutStream) → (out_after_end o).stream ≡ o.stream
unfolding out_after_end
ended_streams o = by (is_due o.stream o.microframes)
  where
    by : (b : Bool) → (if b then after_due_end o else o).stream ≡ o.stream
    by true = refl
    by false = refl

module _ (packet : Option (List ℕ)) (step : ℕ) (lost : Bool) (l : Life) where
  abbrev at_end : Life
  at_end = with_end (with_step step (with_packet packet l))

  pub out_stream_after : (life_after packet step lost l).out.stream ≡ l.out.stream
  unfolding life_after out_after_end
  out_stream_after =
      by_feedback at_end (feedback_of at_end.out)
      ∙ ended_streams (with_step step (with_packet packet l)).out
      ∙ ticks_stream (ticks_in ((with_packet packet l).steps ++ step ∷ [])) (after_ticks (ticks_in ((with_packet packet l).steps ++ step ∷ [])) (with_packet packet l).out)
      ∙ by_packet (is_due l.out.stream l.out.microframes)
    where
      by_feedback : (m : Life) (o : Option ℕ)
          → (option_map_or (λ value. record m { pace = if lost then m.pace else pace_after_report value m.pace; reports = one_more lost m.reports }) o m).out.stream ≡ m.out.stream
      by_feedback m None = refl
      by_feedback m (Some value) = refl

      by_packet : (b : Bool) → (if b then record l { out = after_packet packet l.out; pace = pace_after_packet l.pace } else l).out.stream ≡ l.out.stream
      by_packet true = took_streams packet l.out
      by_packet false = refl

  pub pace_stream_after : (life_after packet step lost l).pace.stream ≡ l.pace.stream
  unfolding life_after
  pace_stream_after = by_feedback lost at_end (feedback_of at_end.out) ∙ by_packet (is_due l.out.stream l.out.microframes)
    where
      by_feedback : (b : Bool) (m : Life) (o : Option ℕ)
          → (option_map_or (λ value. record m { pace = if b then m.pace else pace_after_report value m.pace; reports = one_more b m.reports }) o m).pace.stream ≡ m.pace.stream
      by_feedback b m None = refl
      by_feedback true m (Some value) = refl
      by_feedback false m (Some value) = refl

      by_packet : (b : Bool) → (if b then record l { out = after_packet packet l.out; pace = pace_after_packet l.pace } else l).pace.stream ≡ l.pace.stream
      by_packet true = refl
      by_packet false = refl

-- ---- a microframe keeps it fed

pub microframes_keep_fed : MicroframesKeepFed
microframes_keep_fed marks r interface l d ordered runs fed =
    let packet = packet_to (loses_out marks interface) interface (streaming_of r) in
    let lost = loses_feedback marks interface in
    let paced = pace_stream_after packet (step_in r.device d) lost l in
    let stays = microframes_keep_the_rest marks r in
    let after = (microframe marks r).world in
    let streams : IsStreamOf r.host.function interface (next_life marks r interface l d).pace.stream =
    subst (IsStreamOf r.host.function interface) (sym paced) fed.streams in
    let whole : All (λ frame. length frame ≡ channels_at r.host.function interface) (after.host.tracks interface).waiting =
    subst (λ (t : Track). All (λ frame. length frame ≡ channels_at r.host.function interface) t.waiting)
    (sym (tracks_go_on marks r interface l d ordered runs)) (by (is_due l.out.stream l.out.microframes)) in
    record {
      same = paced ∙ fed.same ∙ sym (out_stream_after packet (step_in r.device d) lost l);
      streams = subst (λ (f : FunctionFields). IsStreamOf f interface (next_life marks r interface l d).pace.stream) (sym stays.host) streams;
      format = subst (λ (s : StreamFields). IsFormat s.channels s.subslot s.bits) (sym paced) fed.format;
      whole = subst (λ (f : FunctionFields). All (λ frame. length frame ≡ channels_at f interface) (after.host.tracks interface).waiting) (sym stays.host) whole;
    }
  where
    by : (b : Bool)
        → All (λ frame. length frame ≡ channels_at r.host.function interface)
        (if b then track_after_frames (next_size l.pace) (r.host.tracks interface) else r.host.tracks interface).waiting
    by true = even_after (channels_at r.host.function interface) (next_size l.pace) (r.host.tracks interface) fed.whole
    by false = fed.whole

-- ---- the frames of a packet

-- so many frames are next
length_next : (channels n : ℕ) (t : Track) → length (next_frames channels n t) ≡ n
unfolding next_frames
length_next channels n t =
    length-append (take n t.waiting) (map (tone_frame channels t.tone) (range_with_len t.place (n - length t.waiting)))
    ∙ ap (λ (m : ℕ). length (take n t.waiting) + m)
    (length-map (range_with_len t.place (n - length t.waiting)) (tone_frame channels t.tone) ∙ length-range_with_len t.place (n - length t.waiting))
    ∙ whole (length-take n t.waiting)
  where
    whole : length (take n t.waiting) ≡ min n (length t.waiting) → length (take n t.waiting) + (n - length t.waiting) ≡ n
    whole taken = omega (arith, taken)

-- each with a sample for each channel
tones_even : (channels : ℕ) (tone : Tone) (ns : List ℕ) → All (λ frame. length frame ≡ channels) (map (tone_frame channels tone) ns)
tones_even channels tone [] k d below = absurd (omega arith)
tones_even channels tone (n ∷ ns) zero d below = length-map (range_with_len 0 channels) (tone_sample tone n) ∙ length-range_with_len 0 channels
tones_even channels tone (n ∷ ns) (suc k) d below = tones_even channels tone ns k d (omega arith)

next_even : (channels n : ℕ) (t : Track) → All (λ frame. length frame ≡ channels) t.waiting → All (λ frame. length frame ≡ channels) (next_frames channels n t)
unfolding next_frames
next_even channels n t even =
    All-append (λ frame. length frame ≡ channels) (take n t.waiting) (map (tone_frame channels t.tone) (range_with_len t.place (n - length t.waiting)))
    (All-take (λ frame. length frame ≡ channels) n t.waiting even)
    (tones_even channels t.tone (range_with_len t.place (n - length t.waiting)))

-- what is packed has as many frames
packed_frames : (stream : StreamFields) (frames : List (List ℤ)) → 0 < stream.channels * stream.subslot → All (λ frame. length frame ≡ stream.channels) frames
    → length (frames_of stream (bytes_of_frames stream.subslot stream.bits frames)) ≡ length frames
packed_frames stream frames wide even =
    let bytes : List ℕ = bytes_of_frames stream.subslot stream.bits frames in
    length-frames_of_bytes stream.channels stream.subslot stream.bits bytes
    ∙ ap (whole_frames stream.channels stream.subslot) (sym (append-nil bytes))
    ∙ whole_frames-bytes_of_frames stream.channels stream.subslot stream.bits frames [] even wide

pub packets_have_their_frames : PacketsHaveTheirFrames
unfolding life_of packet_of
packets_have_their_frames r interface l lives fed =
    option_and_then_some _ (r.device.outs interface) l lives (λ out outs after_out.
    option_and_then_some _ (r.host.paces interface) l after_out (λ pace paces after_pace.
    option_and_then_some _ (domain_on r interface) l after_pace (λ d domain after_domain.
    (let placed = mapped _ (stream_index r.device.function interface) l after_domain in
    let t : Track = r.host.tracks interface in
    let own : r.host.paces interface ≡ Some l.pace = paces ∙ ap (λ (m : Life). Some m.pace) placed.2 in
    let s : StreamFields = l.pace.stream in
    let linked : channels_at r.host.function interface ≡ s.channels = sym (channels_of r.host.function interface s fed.streams) in
    let waits : All (λ frame. length frame ≡ s.channels) t.waiting = subst (λ (n : ℕ). All (λ frame. length frame ≡ n) t.waiting) linked fed.whole in
    ap (λ (o : Option Pace). length (frames_of l.out.stream (option_map_or (λ p. bytes_of_frames p.stream.subslot p.stream.bits (next_frames p.stream.channels (next_size p) t)) o []))) own
    ∙ ap (λ (of : StreamFields). length (frames_of of (bytes_of_frames s.subslot s.bits (next_frames s.channels (next_size l.pace) t)))) (sym fed.same)
    ∙ packed_frames s (next_frames s.channels (next_size l.pace) t) (frame_bytes-pos s.channels s.subslot s.bits fed.format) (next_even s.channels (next_size l.pace) t waits)
    ∙ length_next s.channels (next_size l.pace) t))))
