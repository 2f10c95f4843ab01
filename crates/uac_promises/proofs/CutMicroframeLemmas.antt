-- A microframe leaves it so that packets bring what was sent, cut; and so it is when the turn of each of its packets comes.
use Rattle.std.proofs.Common.{◌≡◌, ◌∙◌, ap, ℕ, zero, suc, ◌+◌, ◌==◌, Bool, true, false, if◌then◌else◌, ℤ, List, [], ◌∷◌, take, drop, Option, Some, None}
use Rattle.std.specs.List.{filter, fold}
use Rattle.std.specs.Option.{option_map_or}
use Rattle.uac_units.specs.Hearing.{at_most_u64}
use Rattle.uac_flow.specs.FlowStreams.{InStream, sent_in_frames}
use Rattle.uac_host.specs.HostWorld.{HostWorld}
use Rattle.uac_host.specs.HostCalls.{heard_in}
use Rattle.uac_device.specs.DeviceWorld.{DeviceWorld, after_advance, feedback_in, frames_in, next_ticks, packet_in, set_jack}
use Rattle.uac_script.specs.Phrase.{PhraseMark}
use Rattle.uac_streaming.specs.Telling.{without_event}
use Rattle.uac_streaming.specs.StreamingWorld.{StreamingWorld, all_feedback, all_ends, fetched_lines, in_lines, in_packet_turn, in_packets, is_in_due, is_out_due, loses_in, loses_out, loses_feedback, numbers, out_packets, out_turn, packet_fetched, packet_sent_out, feedback_lines, feedback_made, feedback_turn, sent_out_lines, end_turn}
use Rattle.uac_device.specs.declared.jacks.Jack.{Jack}
use Rattle.uac_device.specs.Jacks.{next_frame}
use Rattle.uac_running.specs.RunningWorld.{RunningWorld, streaming_of, with_streaming}
use Rattle.uac_running.specs.Events.{after_all_jacks, domain_microframe, domain_microframes, ends_and_feedback, microframe, microframes, packets_and_ticks, tick, tick_times}
use Rattle.uac_levels.proofs.TellingTurnLemmas.{turns_keep}
use Rattle.uac_promises.specs.CutSamples.{MicroframeIsCut, PacketsAreCut, at_in_turn, at_out_turn, cut_frames}
use Rattle.uac_promises.proofs.CutGraphLemmas.{IsFrame-tone}
use Rattle.uac_promises.proofs.CutPacketsLemmas.{AreSampled, in_is_cut, out_is_cut}
use Rattle.uac_promises.proofs.CutTurnLemmas.{Sampled, advance_keeps, ends_keeps, fetches_keeps, jacks_keeps, feedback_made_keeps, sends_keeps, ticks_keeps}

-- of a running world
abbrev pub RunIsSampled : RunningWorld → Type 0
RunIsSampled r = AreSampled r.host r.device

-- ---- turns

module _ (detail : ℕ) (marks : List PhraseMark) where
  out_keeps : (n : ℕ) (w : StreamingWorld) → Sampled w → Sampled (out_turn detail marks n w).world
  unfolding out_turn
  out_keeps n w is = by (is_out_due w n)
    where
      by : (b : Bool)
          → Sampled (if b then record { lines = sent_out_lines detail (loses_out marks n) n w; world = packet_sent_out (loses_out marks n) n w }
          else without_event w).world
      by true = sends_keeps (loses_out marks n) n w is
      by false = is

  in_keeps : (n : ℕ) (w : StreamingWorld) → Sampled w → Sampled (in_packet_turn detail marks n w).world
  unfolding in_packet_turn
  in_keeps n w is = by (is_in_due w n)
    where
      by : (b : Bool)
          → Sampled (if b then record { lines = fetched_lines detail (loses_in marks n) n w; world = packet_fetched (loses_in marks n) n w }
          else without_event w).world
      by true = fetches_keeps (loses_in marks n) n w is
      by false = is

  ended_keeps : (n : ℕ) (w : StreamingWorld) → Sampled w → Sampled (end_turn detail n w).world
  unfolding end_turn
  ended_keeps n w is = ends_keeps n w is

  feedback_keeps : (n : ℕ) (w : StreamingWorld) → Sampled w → Sampled (feedback_turn detail marks n w).world
  unfolding feedback_turn
  feedback_keeps n w is = by (feedback_in w.device n)
    where
      by : (o : Option ℕ)
          → Sampled (option_map_or (λ value. record { lines = feedback_lines detail (loses_feedback marks n) value n; world = feedback_made (loses_feedback marks n) value n w })
          o (without_event w)).world
      by None = is
      by (Some value) = feedback_made_keeps (loses_feedback marks n) value n w is

  all_out_keep : (w : StreamingWorld) → Sampled w → Sampled (out_packets detail marks w).world
  unfolding out_packets
  all_out_keep w is = turns_keep Sampled (out_turn detail marks) out_keeps (numbers w.device.function) w is

  all_in_keep : (w : StreamingWorld) → Sampled w → Sampled (in_packets detail marks w).world
  unfolding in_packets
  all_in_keep w is = turns_keep Sampled (in_packet_turn detail marks) in_keeps (numbers w.device.function) w is

  all_ends_keep : (w : StreamingWorld) → Sampled w → Sampled (all_ends detail w).world
  unfolding all_ends
  all_ends_keep w is = turns_keep Sampled (end_turn detail) ended_keeps (numbers w.device.function) w is

  all_feedback_keep : (w : StreamingWorld) → Sampled w → Sampled (all_feedback detail marks w).world
  unfolding all_feedback
  all_feedback_keep w is = turns_keep Sampled (feedback_turn detail marks) feedback_keeps (numbers w.device.function) w is

-- ---- ticks

all_jacks_keep : (jacks : List Jack) (h : HostWorld) (w : DeviceWorld) → AreSampled h w
    → AreSampled h (fold (λ u j. set_jack j.terminal (next_frame j) u) w jacks)
unfolding next_frame
all_jacks_keep [] h w is = is
all_jacks_keep (j ∷ js) h w is =
    all_jacks_keep js h (set_jack j.terminal (next_frame j) w) (jacks_keeps j.terminal (next_frame j) (IsFrame-tone j.channels j.tone j.place).1 h w is)

tick_keeps : (c : ℕ) (r : RunningWorld) → RunIsSampled r → RunIsSampled (tick c r).world
unfolding tick after_all_jacks
tick_keeps c r is =
    let jacks : List Jack = filter (λ (j : Jack). j.domain == c) r.jacks in
    ticks_keeps c r.host (after_all_jacks c r) (all_jacks_keep jacks r.host r.device is)

times_keep : (count c : ℕ) (r : RunningWorld) → RunIsSampled r → RunIsSampled (tick_times count c r).world
unfolding tick_times
times_keep zero c r is = is
times_keep (suc count) c r is = times_keep count c (tick c r).world (tick_keeps c r is)

domain_keeps : (c : ℕ) (r : RunningWorld) → RunIsSampled r → RunIsSampled (domain_microframe c r).world
unfolding domain_microframe
domain_keeps c r is =
    times_keep (next_ticks c r.device) c (record r { device = after_advance c r.device }) (advance_keeps c r.host r.device is)

domains_keep : (clocks : List ℕ) (r : RunningWorld) → RunIsSampled r → RunIsSampled (domain_microframes clocks r).world
unfolding domain_microframes
domains_keep [] r is = is
domains_keep (c ∷ cs) r is = domains_keep cs (domain_microframe c r).world (domain_keeps c r is)

-- ---- a microframe

before_the_end_keep : (marks : List PhraseMark) (r : RunningWorld) → RunIsSampled r → RunIsSampled (packets_and_ticks marks r).world
unfolding packets_and_ticks
before_the_end_keep marks r is =
    let sent = with_streaming r (out_packets r.detail marks (streaming_of r)).world in
    let fetched = with_streaming sent (in_packets sent.detail marks (streaming_of sent)).world in
    domains_keep fetched.device.function.domains fetched
    (all_in_keep r.detail marks (streaming_of sent) (all_out_keep r.detail marks (streaming_of r) is))

the_end_keeps : (marks : List PhraseMark) (r : RunningWorld) → RunIsSampled r → RunIsSampled (ends_and_feedback marks r).world
unfolding ends_and_feedback
the_end_keeps marks r is =
    all_feedback_keep r.detail marks (all_ends r.detail (streaming_of r)).world (all_ends_keep r.detail marks (streaming_of r) is)

pub microframe_keeps : (marks : List PhraseMark) (r : RunningWorld) → RunIsSampled r → RunIsSampled (microframe marks r).world
unfolding microframe
microframe_keeps marks r is =
    let numbered : RunningWorld = record r { time = at_most_u64 (r.time + 1) } in
    the_end_keeps marks (packets_and_ticks marks numbered).world (before_the_end_keep marks numbered is)

pub microframes_keep : (marks : List PhraseMark) (count : ℕ) (r : RunningWorld) → RunIsSampled r → RunIsSampled (microframes marks count r).world
unfolding microframes
microframes_keep marks zero r is = is
microframes_keep marks (suc count) r is = microframes_keep marks count (microframe marks r).world (microframe_keeps marks r is)

-- ---- each packet

told_cut : (w : StreamingWorld) → Sampled w → (detail : ℕ) (lost : Bool) (interface : ℕ) (i : InStream) → w.device.ins interface ≡ Some i
    → fetched_lines detail lost interface w
    ≡ in_lines detail lost interface (sent_in_frames i) (cut_frames i.stream.bits (take (sent_in_frames i) (drop i.gone i.made)))
unfolding frames_in
told_cut w is detail lost interface i there =
    ap (λ (o : Option InStream). in_lines detail lost interface (option_map_or sent_in_frames o 0) (heard_in w.host interface (packet_in w.device interface))) there
    ∙ ap (λ (frames : List (List ℤ)). in_lines detail lost interface (sent_in_frames i) frames) (in_is_cut w.host w.device is interface i there)

cut_now : (w : StreamingWorld) → Sampled w → PacketsAreCut w
cut_now w is = record { arrive = out_is_cut w.host w.device is; heard = in_is_cut w.host w.device is; told = told_cut w is }

pub microframe_is_cut : (marks : List PhraseMark) (r : RunningWorld) → RunIsSampled r → MicroframeIsCut marks r
microframe_is_cut marks r is = record {
  out = λ turns. cut_now (at_out_turn marks turns r)
      (turns_keep Sampled (out_turn r.detail marks) (out_keeps r.detail marks) (take turns (numbers r.device.function)) (streaming_of r) is);
  from = λ turns. cut_now (at_in_turn marks turns r)
      (turns_keep Sampled (in_packet_turn r.detail marks) (in_keeps r.detail marks) (take turns (numbers r.device.function)) (out_packets r.detail marks (streaming_of r)).world
      (all_out_keep r.detail marks (streaming_of r) is));
}
