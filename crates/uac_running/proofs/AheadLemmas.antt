-- Microframes of a running device whose ticks wait while counts run ahead: each part of a microframe, before the ticks that wait or
-- behind them.
use Rattle.std.proofs.Common.{◌≡◌, ◌∙◌, sym, ap, arith, subst, refl, add-zero, ℕ, zero, suc, ◌+◌, ◌<◌, ◌≤◌, true, List, [], ◌∷◌, length, replicate, Option, Result, IsErrAnd, Ok, Err}
use Rattle.std.specs.Prelude.{IfOk}
use Rattle.uac_edges.specs.Writing.{AppendsFront}
use Rattle.uac_script.specs.Phrase.{PhraseMark}
use Rattle.uac_transcript.specs.Printing.{Prints, text_of}
use Rattle.uac_transcript.proofs.PrintingLemmas.{Tells-handed_on}
use Rattle.std.proofs.lemmas.List.{append-nil, get_or-replicate, length-replicate}
use Rattle.std.specs.List.{All, list_all}
use Rattle.uac_units.specs.Hearing.{Reading, at_most_u64}
use Rattle.uac_topology.specs.Function.{FunctionFields}
use Rattle.uac_device.specs.declared.jacks.Jack.{Jack}
use Rattle.uac_device.specs.Jacks.{tones_of}
use Rattle.uac_device.specs.DeviceWorld.{DeviceWorld, after_advance, after_end, after_receiving, feedback_in, next_ticks, renders_of}
use Rattle.uac_device.specs.DeviceTicks.{MeetsNothing, Tones, after_tick_times, played_in, readings_after}
use Rattle.uac_device.specs.DeviceWaits.{AreSteady, HaveSent, SentAreThere, after_sent, feedback_later_in, later, settled}
use Rattle.uac_device.proofs.DeviceWaitsLemmas.{advance_settled, advance_steady, feedback_settled, next_ticks_settled}
use Rattle.uac_device.proofs.DeviceWaitsTicksLemmas.{advance_have_sent, domains_settled, function_settled, later_have_sent, less_steady, none_have_sent, settled_none_sent, settled_steady, steady_meets_nothing, ticks_settled}
use Rattle.uac_device.proofs.DeviceWaitsHeardLemmas.{none_are_there, nothing_waits, played_settled, readings_more, readings_same, renders_settled, sent_are_there, tones_later}
use Rattle.uac_ring.specs.declared.counts.StreamCounts.{StreamCounts}
use Rattle.uac_transcript.specs.Transcript.{Said}
use Rattle.uac_streaming.specs.Telling.{Telling, telling_after, without_event}
use Rattle.uac_streaming.specs.StreamingWorld.{StreamingWorld, all_ends, all_feedback, in_packets, numbers_in, numbers_out, out_packets}
use Rattle.uac_streaming.specs.StreamingWaits.{LosesNoPacket, after_reports_of, fits, sent_after, sent_on, streams_settled, with_device}
use Rattle.uac_streaming.proofs.StreamingWaitsLemmas.{ends_have_sent, ends_keep, ends_silent, ends_steady, ends_wait, ins_have_sent, ins_lossless, ins_wait, none_sent_on, outs_have_sent, outs_keep, outs_lossless, outs_silent, outs_steady, outs_wait, reports_device, reports_wait, sent_length}
use Rattle.uac_running.specs.RunningWorld.{RunningWorld, streaming_of, with_streaming}
use Rattle.uac_running.specs.Events.{all_domains, domain_microframe, domain_microframes, ends_and_feedback, followed_by, jacks_after_frame, microframe, number_said, of_streams, packets_and_ticks, tick, tick_times}
use Rattle.uac_running.specs.EventTicks.{jacks_after, met_after, renders_after, running_after}
use Rattle.uac_running.specs.Ahead.{IsAhead, IsLone, behind, clocked, device_settled, ended, gone_ahead, numbered, outs_sent, sent_of, sent_then, ticks_then}
use Rattle.uac_running.specs.RunningKept.{RunningFields, RunningStands, RunningStandsBetween}
use Rattle.uac_streaming.specs.Room.{HaveRoom}
use Rattle.uac_streaming.proofs.RoomDeviceLemmas.{HaveSmallNumbers}
use Rattle.uac_device.specs.DeviceKept.{IsDeviationInRange}
use Rattle.uac_streaming.proofs.RoomLemmas.{next_few}
use Rattle.uac_running.proofs.RoomLemmas.{microframe_room}
use Rattle.uac_running.proofs.EventRowsLemmas.{lines_nothing, met_nothing, ticked_function}
use Rattle.uac_running.proofs.EventTicksLemmas.{jacks_each, ticks_by_parts}

-- ---- renders and readings of a world with other streams

renders_like : (domain n : ℕ) (r v : RunningWorld) → v.renders ≡ r.renders → renders_of domain v.device ≡ renders_of domain r.device → renders_after domain n v ≡ renders_after domain n r
unfolding renders_after
renders_like domain zero r v same of = same
renders_like domain (suc t) r v same of =
    ap (λ (k : ℕ). at_most_u64 (k + renders_of domain v.device)) (renders_like domain t r v same of)
    ∙ ap (λ (k : ℕ). at_most_u64 (renders_after domain t r + k)) of

rendered_alike : (domain : ℕ) (v w : DeviceWorld) → v.function ≡ w.function → renders_of domain v ≡ renders_of domain w
unfolding renders_of
rendered_alike domain v w same = ap (λ (f : FunctionFields). renders_in domain f) same
  where
    renders_in : ℕ → FunctionFields → ℕ
    renders_in domain f = renders_of domain (record v { function = f })

-- streams that play the same at each of the ticks that wait
abbrev PlaySame : ℕ → ℕ → RunningWorld → StreamingWorld → Type 0
PlaySame domain n r w = (u : ℕ) → u < n → played_in domain (tones_of domain r.jacks) w.device u ≡ played_in domain (tones_of domain r.jacks) r.device u

-- what becomes of the streams behind the ticks, becomes of them before
streams_behind : (domain n : ℕ) (sent : List ℕ) (r : RunningWorld) (w : StreamingWorld) → w.device.function ≡ r.device.function → PlaySame domain n r w
    → with_streaming (behind domain n sent r) (streams_settled domain (tones_of domain r.jacks) n (sent_of sent r) w) ≡ behind domain n sent (with_streaming r w)
streams_behind domain n sent r w function same =
    ap (λ (ns : List ℕ). record (with_streaming r w) {
      device = settled domain (tones_of domain r.jacks) n (sent_on ns sent) w.device;
      jacks = jacks_after domain n r.jacks;
      meters = readings_after domain (tones_of domain r.jacks) r.device n r.meters;
      renders = renders_after domain n r;
    }) (ap numbers_in (sym function))
    ∙ ap (λ (shown : List Reading). record (with_streaming r w) {
      device = device_settled domain n sent (with_streaming r w);
      jacks = jacks_after domain n r.jacks;
      meters = shown;
      renders = renders_after domain n r;
    }) (sym (readings_same domain (tones_of domain r.jacks) n w.device r.device r.meters function same))
    ∙ ap (λ (count : ℕ). record (with_streaming r w) {
      device = device_settled domain n sent (with_streaming r w);
      jacks = jacks_after domain n r.jacks;
      meters = readings_after domain (tones_of domain r.jacks) w.device n r.meters;
      renders = count;
    }) (sym (renders_like domain n r (with_streaming r w) refl (rendered_alike domain w.device r.device function)))

-- an event of the streams that may as well come before the ticks
event_behind : (event : StreamingWorld → Telling StreamingWorld) (domain n : ℕ) (sent : List ℕ) (r : RunningWorld) (w : StreamingWorld)
    → event (streams_settled domain (tones_of domain r.jacks) n (sent_of sent r) (streaming_of r)) ≡ without_event (streams_settled domain (tones_of domain r.jacks) n (sent_of sent r) w)
    → w.device.function ≡ r.device.function → PlaySame domain n r w
    → of_streams event (behind domain n sent r) ≡ without_event (behind domain n sent (with_streaming r w))
event_behind event domain n sent r w is function same =
    ap (λ (told : Telling StreamingWorld). record { lines = told.lines; world = with_streaming (behind domain n sent r) told.world }) is
    ∙ ap (λ (v : RunningWorld). without_event v) (streams_behind domain n sent r w function same)

-- an event of the device that leaves what is played, and may come before any of the ticks
play_same : (domain n : ℕ) (r : RunningWorld) (w : StreamingWorld) (change : DeviceWorld → DeviceWorld) → w.device ≡ change r.device
    → ((v : DeviceWorld) → (change v).played ≡ v.played)
    → ((u : ℕ) → u < n → change (settled domain (tones_of domain r.jacks) (suc u) (λ k. 0) r.device) ≡ settled domain (tones_of domain r.jacks) (suc u) (λ k. 0) (change r.device))
    → PlaySame domain n r w
play_same domain n r w change is keeps may u less =
    let tones = tones_of domain r.jacks in
    ap (λ (v : DeviceWorld). played_in domain tones v u) is
    ∙ sym (played_settled domain tones u (λ k. 0) (change r.device))
    ∙ ap (λ (v : DeviceWorld). v.played) (sym (may u less))
    ∙ keeps (settled domain tones (suc u) (λ k. 0) r.device)
    ∙ played_settled domain tones u (λ k. 0) r.device

-- ---- packets to the device

outs_play : (domain n : ℕ) (r : RunningWorld) → AreSteady domain n r.device → list_all (fits (streaming_of r)) (numbers_out r.device.function) ≡ true
    → PlaySame domain n r (outs_sent r)
unfolding after_receiving
outs_play domain n r steady fit =
    let tones = tones_of domain r.jacks in
    λ u less.
    sym (played_settled domain tones u (λ k. 0) (outs_sent r).device)
    ∙ ap (λ (told : Telling StreamingWorld). told.world.device.played)
    (sym (outs_wait domain tones (suc u) (λ k. 0) (streaming_of r) (less_steady domain n (suc u) r.device (omega (arith, less)) steady) fit))
    ∙ outs_keep (λ (v : DeviceWorld). v.played) (λ interface packet v. refl) (streams_settled domain tones (suc u) (λ k. 0) (streaming_of r))
    ∙ played_settled domain tones u (λ k. 0) r.device

outs_function : (r : RunningWorld) → (outs_sent r).device.function ≡ r.device.function
unfolding after_receiving
outs_function r = outs_keep (λ (v : DeviceWorld). v.function) (λ interface packet v. refl) (streaming_of r)

outs_behind : (domain n : ℕ) (sent : List ℕ) (r : RunningWorld) → AreSteady domain n r.device → list_all (fits (streaming_of r)) (numbers_out r.device.function) ≡ true
    → of_streams (out_packets 0 []) (behind domain n sent r) ≡ without_event (behind domain n sent (with_streaming r (outs_sent r)))
outs_behind domain n sent r steady fit =
    event_behind (out_packets 0 []) domain n sent r (outs_sent r) (outs_wait domain (tones_of domain r.jacks) n (sent_of sent r) (streaming_of r) steady fit)
    (outs_function r) (outs_play domain n r steady fit)

-- ---- packets from the device

ins_behind : (domain n : ℕ) (sent : List ℕ) (r : RunningWorld) → AreSteady domain n r.device → length (numbers_in r.device.function) ≤ length sent
    → of_streams (in_packets 0 []) (behind domain n sent r) ≡ without_event (behind domain n (sent_after (numbers_in r.device.function) n sent r.device) r)
ins_behind domain n sent r steady all =
    ap (λ (told : Telling StreamingWorld). record { lines = told.lines; world = with_streaming (behind domain n sent r) told.world })
    (ins_wait domain (tones_of domain r.jacks) n sent (streaming_of r) steady all)

-- ---- the clock, and its ticks

advance_function : (domain : ℕ) (r : RunningWorld) → (after_advance domain r.device).function ≡ r.device.function
unfolding after_advance
advance_function domain r = refl

advance_play : (domain n : ℕ) (r : RunningWorld) → AreSteady domain n r.device → PlaySame domain n r (with_device (after_advance domain r.device) (streaming_of r))
unfolding after_advance
advance_play domain n r steady =
    play_same domain n r (with_device (after_advance domain r.device) (streaming_of r)) (after_advance domain) refl (λ v. refl)
    (λ u less.
    advance_settled domain (tones_of domain r.jacks) (suc u) (λ k. 0) r.device (less_steady domain n (suc u) r.device (omega (arith, less)) steady))

clock_behind : (domain n : ℕ) (sent : List ℕ) (r : RunningWorld) → AreSteady domain n r.device
    → record (behind domain n sent r) { device = after_advance domain (behind domain n sent r).device } ≡ behind domain n sent (record r { device = after_advance domain r.device })
clock_behind domain n sent r steady =
    ap (λ (v : DeviceWorld). record (behind domain n sent r) { device = v }) (advance_settled domain (tones_of domain r.jacks) n (sent_of sent r) r.device steady)
    ∙ streams_behind domain n sent r (with_device (after_advance domain r.device) (streaming_of r)) (advance_function domain r) (advance_play domain n r steady)

-- tones, jacks and renders behind some ticks
jacks_join : (domain n t : ℕ) (jacks : List Jack) → jacks_after domain t (jacks_after domain n jacks) ≡ jacks_after domain (n + t) jacks
unfolding jacks_after
jacks_join domain n zero jacks = ap (λ (k : ℕ). jacks_after domain k jacks) (sym (add-zero n))
jacks_join domain n (suc t) jacks =
    let same : suc (n + t) ≡ n + suc t = omega arith in
    ap (jacks_after_frame domain) (jacks_join domain n t jacks) ∙ ap (λ (k : ℕ). jacks_after domain k jacks) same

tones_behind : (domain n : ℕ) (jacks : List Jack) → tones_of domain (jacks_after domain n jacks) ≡ later n (tones_of domain jacks)
tones_behind domain n jacks = ap (tones_of domain) (jacks_each domain n jacks) ∙ tones_later domain n jacks

renders_join : (domain n t : ℕ) (sent : List ℕ) (r : RunningWorld) → renders_after domain t (behind domain n sent r) ≡ renders_after domain (n + t) r
unfolding renders_after
renders_join domain n zero sent r = ap (λ (k : ℕ). renders_after domain k r) (sym (add-zero n))
renders_join domain n (suc t) sent r =
    let same : suc (n + t) ≡ n + suc t = omega arith in
    ap (λ (k : ℕ). at_most_u64 (renders_after domain t (behind domain n sent r) + k)) (renders_settled domain (tones_of domain r.jacks) n (sent_of sent r) r.device)
    ∙ ap (λ (k : ℕ). at_most_u64 (k + renders_of domain r.device)) (renders_join domain n t sent r)
    ∙ ap (λ (k : ℕ). renders_after domain k r) same

-- none of the ticks that come then meets anything
left_steady : (domain n t : ℕ) (sent : List ℕ) (r : RunningWorld) → AreSteady domain (n + t) r.device → HaveSent n (sent_of sent r) r.device
    → MeetsNothing domain t (behind domain n sent r).device
left_steady domain n t sent r steady have =
    steady_meets_nothing domain t (behind domain n sent r).device (settled_steady domain (tones_of domain r.jacks) n t (sent_of sent r) r.device steady have)

-- so many ticks more
more_behind : (domain n t : ℕ) (sent : List ℕ) (r : RunningWorld) → AreSteady domain (n + t) r.device → HaveSent n (sent_of sent r) r.device
    → running_after domain t (behind domain n sent r) ≡ behind domain (n + t) sent r
unfolding running_after
more_behind domain n t sent r steady have =
    let tones = tones_of domain r.jacks in
    let v = behind domain n sent r in
    let shown = readings_after domain tones r.device n r.meters in
    ap (λ (given : Tones). record r {
      device = after_tick_times domain given t v.device;
      jacks = jacks_after domain t v.jacks;
      met = met_after domain t v;
      meters = readings_after domain given v.device t shown;
      renders = renders_after domain t v;
    }) (tones_behind domain n r.jacks)
    ∙ ap (λ (device : DeviceWorld). record r {
      device = device;
      jacks = jacks_after domain t v.jacks;
      met = met_after domain t v;
      meters = readings_after domain (later n tones) v.device t shown;
      renders = renders_after domain t v;
    }) (ticks_settled domain tones n t (sent_of sent r) r.device steady)
    ∙ ap (λ (jacks : List Jack). record r {
      device = settled domain tones (n + t) (sent_of sent r) r.device;
      jacks = jacks;
      met = met_after domain t v;
      meters = readings_after domain (later n tones) v.device t shown;
      renders = renders_after domain t v;
    }) (jacks_join domain n t r.jacks)
    ∙ ap (λ (met : ℕ → StreamCounts). record r {
      device = settled domain tones (n + t) (sent_of sent r) r.device;
      jacks = jacks_after domain (n + t) r.jacks;
      met = met;
      meters = readings_after domain (later n tones) v.device t shown;
      renders = renders_after domain t v;
    }) (met_nothing domain t v (λ u less. left_steady domain n t sent r steady have (tones_of domain v.jacks) u less))
    ∙ ap (λ (meters : List Reading). record r {
      device = settled domain tones (n + t) (sent_of sent r) r.device;
      jacks = jacks_after domain (n + t) r.jacks;
      meters = meters;
      renders = renders_after domain t v;
    }) (readings_more domain tones n t (sent_of sent r) r.device r.meters steady)
    ∙ ap (λ (count : ℕ). record r {
      device = settled domain tones (n + t) (sent_of sent r) r.device;
      jacks = jacks_after domain (n + t) r.jacks;
      meters = readings_after domain tones r.device (n + t) r.meters;
      renders = count;
    }) (renders_join domain n t sent r)

ticks_behind : (domain n t : ℕ) (sent : List ℕ) (r : RunningWorld) → IsLone domain r → AreSteady domain (n + t) r.device → HaveSent n (sent_of sent r) r.device
    → tick_times t domain (behind domain n sent r) ≡ without_event (behind domain (n + t) sent r)
ticks_behind domain n t sent r lone steady have =
    ticks_by_parts t domain (behind domain n sent r)
    ∙ ap (λ (lines : List Said). record { lines = lines; world = running_after domain t (behind domain n sent r) })
    (lines_nothing domain t (behind domain n sent r)
    (λ u less. left_steady domain n t sent r steady have (tones_of domain (behind domain n sent r).jacks) u less) lone.detail)
    ∙ ap (λ (v : RunningWorld). without_event v) (more_behind domain n t sent r steady have)

-- the domain's part of a microframe
domain_behind : (domain n : ℕ) (sent : List ℕ) (r : RunningWorld) → IsLone domain r → AreSteady domain (n + next_ticks domain r.device) r.device → HaveSent n (sent_of sent r) r.device
    → all_domains (behind domain n sent r) ≡ without_event (behind domain (n + next_ticks domain r.device) sent (record r { device = after_advance domain r.device }))
unfolding domain_microframes domain_microframe after_advance
domain_behind domain n sent r lone steady have =
    let v = behind domain n sent r in
    let t = next_ticks domain r.device in
    let told : Telling RunningWorld = tick_times (next_ticks domain v.device) domain (record v { device = after_advance domain v.device }) in
    ap (λ (ds : List ℕ). domain_microframes ds v) (ap (λ (f : FunctionFields). f.domains) (function_settled domain (tones_of domain r.jacks) n (sent_of sent r) r.device) ∙ lone.only)
    ∙ ap (λ (lines : List Said). record { lines = lines; world = told.world }) (append-nil told.lines)
    ∙ ap (λ (k : ℕ). tick_times k domain (record v { device = after_advance domain v.device })) (next_ticks_settled domain (tones_of domain r.jacks) n (sent_of sent r) r.device)
    ∙ ap (λ (w : RunningWorld). tick_times t domain w) (clock_behind domain n sent r (less_steady domain (n + t) n r.device (omega arith) steady))
    ∙ ticks_behind domain n t sent (record r { device = after_advance domain r.device }) (record { detail = lone.detail; only = lone.only; few = lone.few })
    (advance_steady domain (n + t) r.device steady) (advance_have_sent domain n (sent_of sent r) r.device have)

-- ---- the end of the microframe, and reports

ends_function : (r : RunningWorld) → (all_ends 0 (streaming_of r)).world.device.function ≡ r.device.function
unfolding after_end
ends_function r = ends_keep (λ (v : DeviceWorld). v.function) (λ interface v. refl) (streaming_of r)

ends_play : (domain n : ℕ) (r : RunningWorld) → AreSteady domain n r.device → PlaySame domain n r (all_ends 0 (streaming_of r)).world
unfolding after_end
ends_play domain n r steady =
    let tones = tones_of domain r.jacks in
    λ u less.
    sym (played_settled domain tones u (λ k. 0) (all_ends 0 (streaming_of r)).world.device)
    ∙ ap (λ (told : Telling StreamingWorld). told.world.device.played)
    (sym (ends_wait domain tones (suc u) (λ k. 0) (streaming_of r) (less_steady domain n (suc u) r.device (omega (arith, less)) steady)))
    ∙ ends_keep (λ (v : DeviceWorld). v.played) (λ interface v. refl) (streams_settled domain tones (suc u) (λ k. 0) (streaming_of r))
    ∙ played_settled domain tones u (λ k. 0) r.device

ends_behind : (domain n : ℕ) (sent : List ℕ) (r : RunningWorld) → AreSteady domain n r.device
    → of_streams (all_ends 0) (behind domain n sent r) ≡ without_event (behind domain n sent (with_streaming r (all_ends 0 (streaming_of r)).world))
ends_behind domain n sent r steady =
    event_behind (all_ends 0) domain n sent r (all_ends 0 (streaming_of r)).world (ends_wait domain (tones_of domain r.jacks) n (sent_of sent r) (streaming_of r) steady)
    (ends_function r) (ends_play domain n r steady)

pub reports_behind : (marks : List PhraseMark) (domain n : ℕ) (sent : List ℕ) (r : RunningWorld)
    → of_streams (all_feedback 0 marks) (behind domain n sent r)
    ≡ without_event (behind domain n sent (with_streaming r (after_reports_of marks (device_settled domain n sent r) (streaming_of r))))
reports_behind marks domain n sent r =
    let reported = after_reports_of marks (device_settled domain n sent r) (streaming_of r) in
    event_behind (all_feedback 0 marks) domain n sent r reported (reports_wait marks domain (tones_of domain r.jacks) n (sent_of sent r) (streaming_of r))
    (ap (λ (v : DeviceWorld). v.function) (reports_device marks (device_settled domain n sent r) (streaming_of r)))
    (λ u less. ap (λ (v : DeviceWorld). played_in domain (tones_of domain r.jacks) v u) (reports_device marks (device_settled domain n sent r) (streaming_of r)))

-- ---- a microframe

-- what says nothing, and then something else that says nothing
then_silent : (first next : RunningWorld → Telling RunningWorld) (r v w : RunningWorld) → first r ≡ without_event v → next v ≡ without_event w
    → followed_by first next r ≡ without_event w
then_silent first next r v w one two = ap (λ (told : Telling RunningWorld). telling_after told.lines (next told.world)) one ∙ two

numbered_behind : (domain n : ℕ) (sent : List ℕ) (r : RunningWorld) → numbered (behind domain n sent r) ≡ behind domain n sent (numbered r)
numbered_behind domain n sent r =
    ap (λ (count : ℕ). record (numbered (behind domain n sent r)) { renders = count }) (sym (renders_like domain n r (numbered r) refl refl))

-- the world after the packets to the device, after the clock went on, and at the end of the microframe
abbrev with_outs : RunningWorld → RunningWorld
with_outs r = with_streaming r (outs_sent r)

abbrev with_clock : ℕ → RunningWorld → RunningWorld
with_clock domain r = with_streaming r (clocked domain r)

abbrev with_ends : ℕ → RunningWorld → RunningWorld
with_ends domain r = with_streaming r (ended domain r)

lone_outs : (domain : ℕ) (r : RunningWorld) → IsLone domain r → IsLone domain (with_outs r)
lone_outs domain r lone = record {
  detail = lone.detail;
  only = ap (λ (f : FunctionFields). f.domains) (outs_function r) ∙ lone.only;
  few = subst (λ (f : FunctionFields). length (numbers_in f) ≤ 8) (sym (outs_function r)) lone.few;
}

pub ended_function : (domain : ℕ) (r : RunningWorld) → (ended domain r).device.function ≡ r.device.function
ended_function domain r = ends_function (with_clock domain r) ∙ advance_function domain (with_outs r) ∙ outs_function r

gone_function : (marks : List PhraseMark) (domain n : ℕ) (sent : List ℕ) (r : RunningWorld) → (gone_ahead marks domain n sent r).device.function ≡ r.device.function
gone_function marks domain n sent r =
    ap (λ (v : DeviceWorld). v.function)
    (reports_device marks (device_settled domain (ticks_then domain n r) (sent_then n sent r) (with_ends domain r)) (ended domain r))
    ∙ ended_function domain r

-- streams that are steady over this microframe, too
module _ (domain n : ℕ) (r : RunningWorld) (steady : AreSteady domain (n + 27) r.device)
    (fit : list_all (fits (streaming_of r)) (numbers_out r.device.function) ≡ true) (few : next_ticks domain (outs_sent r).device ≤ 27) where
  more_steady : (k : ℕ) → k ≤ n + 27 → AreSteady domain k r.device
  more_steady k less = less_steady domain (n + 27) k r.device less steady

  outs_still : (k : ℕ) → k ≤ n + 27 → AreSteady domain k (outs_sent r).device
  outs_still k less = outs_steady domain k (streaming_of r) (more_steady k less) fit

  pub clock_still : AreSteady domain (ticks_then domain n r) (clocked domain r).device
  clock_still = advance_steady domain (ticks_then domain n r) (outs_sent r).device (outs_still (ticks_then domain n r) (omega (arith, few)))

  pub ends_still : AreSteady domain (ticks_then domain n r) (ended domain r).device
  ends_still = ends_steady domain (ticks_then domain n r) (clocked domain r) clock_still

module _ (marks : List PhraseMark) (domain n : ℕ) (sent : List ℕ) (r : RunningWorld) (lone : IsLone domain r) (steady : AreSteady domain (n + 27) r.device)
    (fit : list_all (fits (streaming_of r)) (numbers_out r.device.function) ≡ true) (few : next_ticks domain (outs_sent r).device ≤ 27)
    (have : HaveSent n (sent_of sent r) r.device) (all : length (numbers_in r.device.function) ≤ length sent) where
  -- so many ticks wait then, and so many frames were sent
  abbrev ticks_now : ℕ
  ticks_now = ticks_then domain n r

  abbrev sent_now : List ℕ
  sent_now = sent_then n sent r

  pub gone_steady : AreSteady domain ticks_now (gone_ahead marks domain n sent r).device
  gone_steady =
      subst (AreSteady domain ticks_now) (sym (reports_device marks (device_settled domain ticks_now sent_now (with_ends domain r)) (ended domain r)))
      (ends_still domain n r steady fit few)

  outs_have : HaveSent n (sent_of sent (with_outs r)) (outs_sent r).device
  outs_have =
      subst (λ (f : FunctionFields). HaveSent n (sent_on (numbers_in f) sent) (outs_sent r).device) (sym (outs_function r))
      (outs_have_sent domain n (sent_of sent r) (streaming_of r) (more_steady domain n r steady fit few n (omega arith)) fit have)

  -- each interface with a stream from the device has its number still
  outs_all : length (numbers_in (outs_sent r).device.function) ≤ length sent
  outs_all = subst (λ (f : FunctionFields). length (numbers_in f) ≤ length sent) (sym (outs_function r)) all

  ins_have : HaveSent n (sent_of sent_now (with_outs r)) (outs_sent r).device
  ins_have = ins_have_sent n sent (outs_sent r).device outs_all outs_have

  ends_have : HaveSent ticks_now (sent_of sent_now (with_outs r)) (ended domain r).device
  ends_have =
      ends_have_sent ticks_now (sent_of sent_now (with_outs r)) (clocked domain r)
      (later_have_sent n ticks_now (sent_of sent_now (with_outs r)) (clocked domain r).device (omega arith)
      (advance_have_sent domain n (sent_of sent_now (with_outs r)) (outs_sent r).device ins_have))

  pub gone_all : length (numbers_in (gone_ahead marks domain n sent r).device.function) ≤ length sent_now
  gone_all =
      let same = sent_length (numbers_in (outs_sent r).device.function) n sent (outs_sent r).device outs_all in
      subst (λ (f : FunctionFields). length (numbers_in f) ≤ length sent_now) (outs_function r ∙ sym (gone_function marks domain n sent r))
      (omega (arith, outs_all, same))

  pub gone_have : HaveSent ticks_now (sent_of sent_now (gone_ahead marks domain n sent r)) (gone_ahead marks domain n sent r).device
  gone_have =
      subst (λ (f : FunctionFields). HaveSent ticks_now (sent_on (numbers_in f) sent_now) (gone_ahead marks domain n sent r).device)
      (outs_function r ∙ sym (gone_function marks domain n sent r))
      (subst (HaveSent ticks_now (sent_of sent_now (with_outs r)))
      (sym (reports_device marks (device_settled domain ticks_now sent_now (with_ends domain r)) (ended domain r))) ends_have)

  packets_behind : LosesNoPacket marks
      → packets_and_ticks marks (behind domain n sent r) ≡ without_event (behind domain ticks_now sent_now (with_clock domain r))
  unfolding packets_and_ticks
  packets_behind none =
      let v = behind domain n sent r in
      ap (λ (detail : ℕ). followed_by (of_streams (out_packets detail marks)) (followed_by (of_streams (in_packets detail marks)) all_domains) v) lone.detail
      ∙ ap (λ (outs : StreamingWorld → Telling StreamingWorld). followed_by (of_streams outs) (followed_by (of_streams (in_packets 0 marks)) all_domains) v)
      (outs_lossless marks 0 none)
      ∙ ap (λ (ins : StreamingWorld → Telling StreamingWorld). followed_by (of_streams (out_packets 0 [])) (followed_by (of_streams ins) all_domains) v)
      (ins_lossless marks 0 none)
      ∙ then_silent (of_streams (out_packets 0 [])) (followed_by (of_streams (in_packets 0 [])) all_domains) v (behind domain n sent (with_outs r))
      (behind domain ticks_now sent_now (with_clock domain r)) (outs_behind domain n sent r (more_steady domain n r steady fit few n (omega arith)) fit)
      (then_silent (of_streams (in_packets 0 [])) all_domains (behind domain n sent (with_outs r)) (behind domain n sent_now (with_outs r))
      (behind domain ticks_now sent_now (with_clock domain r))
      (ins_behind domain n sent (with_outs r) (outs_still domain n r steady fit few n (omega arith)) outs_all)
      (domain_behind domain n sent_now (with_outs r) (lone_outs domain r lone) (outs_still domain n r steady fit few ticks_now (omega (arith, few))) ins_have))

  ends_and_reports_behind : ends_and_feedback marks (behind domain ticks_now sent_now (with_clock domain r)) ≡ without_event (behind domain ticks_now sent_now (gone_ahead marks domain n sent r))
  unfolding ends_and_feedback
  ends_and_reports_behind =
      let v = behind domain ticks_now sent_now (with_clock domain r) in
      ap (λ (detail : ℕ). followed_by (of_streams (all_ends detail)) (of_streams (all_feedback detail marks)) v) lone.detail
      ∙ then_silent (of_streams (all_ends 0)) (of_streams (all_feedback 0 marks)) v (behind domain ticks_now sent_now (with_ends domain r))
      (behind domain ticks_now sent_now (gone_ahead marks domain n sent r)) (ends_behind domain ticks_now sent_now (with_clock domain r) (clock_still domain n r steady fit few))
      (reports_behind marks domain ticks_now sent_now (with_ends domain r))

  whole_behind : LosesNoPacket marks → followed_by (packets_and_ticks marks) (ends_and_feedback marks) (behind domain n sent r)
      ≡ without_event (behind domain ticks_now sent_now (gone_ahead marks domain n sent r))
  whole_behind none =
      then_silent (packets_and_ticks marks) (ends_and_feedback marks) (behind domain n sent r) (behind domain ticks_now sent_now (with_clock domain r))
      (behind domain ticks_now sent_now (gone_ahead marks domain n sent r)) (packets_behind none) ends_and_reports_behind

-- a microframe behind the ticks that wait says nothing, and is one before them
pub microframe_behind : (marks : List PhraseMark) (domain n : ℕ) (sent : List ℕ) (r : RunningWorld) → LosesNoPacket marks → IsLone domain r → AreSteady domain (n + 27) r.device
    → list_all (fits (streaming_of r)) (numbers_out r.device.function) ≡ true → next_ticks domain (outs_sent (numbered r)).device ≤ 27
    → HaveSent n (sent_of sent r) r.device → length (numbers_in r.device.function) ≤ length sent
    → microframe marks (behind domain n sent r)
    ≡ without_event (behind domain (ticks_then domain n (numbered r)) (sent_then n sent (numbered r)) (gone_ahead marks domain n sent (numbered r)))
unfolding microframe
microframe_behind marks domain n sent r none lone steady fit few have all =
    let v = behind domain n sent r in
    let told = followed_by (packets_and_ticks marks) (ends_and_feedback marks) (numbered v) in
    ap (λ (detail : ℕ). telling_after (number_said detail (at_most_u64 (v.time + 1))) told) lone.detail
    ∙ ap (λ (w : RunningWorld). followed_by (packets_and_ticks marks) (ends_and_feedback marks) w) (numbered_behind domain n sent r)
    ∙ whole_behind marks domain n sent (numbered r) (record { detail = lone.detail; only = lone.only; few = lone.few }) steady fit few have all none

-- ---- what a microframe keeps

tick_detail : (domain : ℕ) (r : RunningWorld) → (tick domain r).world.detail ≡ r.detail
unfolding tick
tick_detail domain r = refl

ticks_detail : (n domain : ℕ) (r : RunningWorld) → (tick_times n domain r).world.detail ≡ r.detail
unfolding tick_times
ticks_detail zero domain r = refl
ticks_detail (suc n) domain r = ticks_detail n domain (tick domain r).world ∙ tick_detail domain r

domains_detail : (domains : List ℕ) (r : RunningWorld) → (domain_microframes domains r).world.detail ≡ r.detail
unfolding domain_microframes domain_microframe
domains_detail [] r = refl
domains_detail (domain ∷ domains) r =
    domains_detail domains (domain_microframe domain r).world
    ∙ ticks_detail (next_ticks domain r.device) domain (record r { device = after_advance domain r.device })

microframe_detail : (marks : List PhraseMark) (r : RunningWorld) → (microframe marks r).world.detail ≡ r.detail
unfolding microframe packets_and_ticks ends_and_feedback
microframe_detail marks r =
    let outs = (of_streams (out_packets r.detail marks) (numbered r)).world in
    let ins = (of_streams (in_packets r.detail marks) outs).world in
    domains_detail ins.device.function.domains ins

microframe_function : (marks : List PhraseMark) (r : RunningWorld) → HaveSmallNumbers r.device.function → HaveRoom r.device
    → (microframe marks r).world.device.function ≡ r.device.function
microframe_function marks r small room =
    (microframe_room (λ (f : FunctionFields). f ≡ r.device.function) (λ f same. subst HaveSmallNumbers (sym same) small) marks r (record { room = room; function = refl })).function

pub microframe_lone : (marks : List PhraseMark) (domain : ℕ) (r : RunningWorld) → HaveSmallNumbers r.device.function → HaveRoom r.device → IsLone domain r
    → IsLone domain (microframe marks r).world
microframe_lone marks domain r small room lone =
    let same = microframe_function marks r small room in
    record {
      detail = microframe_detail marks r ∙ lone.detail;
      only = ap (λ (f : FunctionFields). f.domains) same ∙ lone.only;
      few = subst (λ (f : FunctionFields). length (numbers_in f) ≤ 8) (sym same) lone.few;
    }

-- ---- what is kept

none_behind : (domain : ℕ) (r : RunningWorld) → r ≡ behind domain 0 (replicate 8 0) r
unfolding after_tick_times jacks_after readings_after renders_after
none_behind domain r =
    ap (λ (w : DeviceWorld). record r { device = w })
    (sym (ap (λ (sent : ℕ → ℕ). settled domain (tones_of domain r.jacks) 0 sent r.device) (none_sent_on (numbers_in r.device.function) 8)
    ∙ settled_none_sent domain (tones_of domain r.jacks) 0 r.device))

-- nothing waits yet
nothing_ahead : (domain : ℕ) (p : RunningFields) (shown : List Reading) (r : RunningWorld) → RunningStandsBetween p shown r → IsLone domain r
    → IsAhead domain 0 (replicate 8 0) p shown r
nothing_ahead domain p shown r stands lone = record {
  before = r;
  stands = stands.now;
  lone = lone;
  all = lone.few;
  meets = nothing_waits domain r.device;
  have = subst (λ (sent : ℕ → ℕ). HaveSent 0 sent r.device) (sym (none_sent_on (numbers_in r.device.function) 8)) (none_have_sent 0 r.device);
  there =
      subst (λ (sent : ℕ → ℕ). SentAreThere sent (after_tick_times domain (tones_of domain r.jacks) 0 r.device)) (sym (none_sent_on (numbers_in r.device.function) 8))
      (none_are_there (after_tick_times domain (tones_of domain r.jacks) 0 r.device));
  done = none_behind domain r;
  room = stands.room;
}

pub none_ahead : (domain ticks : ℕ) (sent : List ℕ) (p : RunningFields) (shown : List Reading) (r : RunningWorld) → ticks ≡ 0 → sent ≡ replicate 8 0
    → RunningStandsBetween p shown r → IsLone domain r → IsAhead domain ticks sent p shown r
none_ahead domain ticks sent p shown r no_ticks no_frames stands lone =
    subst (λ (k : ℕ). IsAhead domain k sent p shown r) (sym no_ticks)
    (subst (λ (ms : List ℕ). IsAhead domain 0 ms p shown r) (sym no_frames) (nothing_ahead domain p shown r stands lone))

-- and no frames are few
pub none_are_few : (n : ℕ) (sent : List ℕ) → sent ≡ replicate n 0 → All (λ m. m ≤ 2176) sent
none_are_few n sent no_frames =
    subst (All (λ m. m ≤ 2176)) (sym no_frames)
    (λ k d less.
    let zeroth = get_or-replicate n k 0 d (subst (λ (long : ℕ). k < long) (length-replicate n 0) less) in
    subst (λ (m : ℕ). m ≤ 2176) (sym zeroth) (omega arith))

few_next : (domain n : ℕ) (sent : List ℕ) (p : RunningFields) (shown : List Reading) (r : RunningWorld) (ahead : IsAhead domain n sent p shown r)
    → next_ticks domain (outs_sent (numbered ahead.before)).device ≤ 27
unfolding after_receiving
few_next domain n sent p shown r ahead =
    let b = numbered ahead.before in
    let same : r.device.domains ≡ (outs_sent b).device.domains =
    ap (λ (v : RunningWorld). v.device.domains) ahead.done ∙ domains_settled domain (tones_of domain b.jacks) n (sent_of sent b) b.device
    ∙ sym (outs_keep (λ (v : DeviceWorld). v.domains) (λ interface packet v. refl) (streaming_of b)) in
    next_few (outs_sent b).device domain (subst (All (λ d. IsDeviationInRange d.deviation)) same ahead.room.deviations)

-- where the counts of a microframe may run ahead
pub record MayGoAhead (domain n : ℕ) (sent : List ℕ) (r : RunningWorld) : Type 0 where
  pub steady : AreSteady domain (n + 27) r.device
  pub fit : list_all (fits (streaming_of r)) (numbers_out r.device.function) ≡ true

ahead_done : (marks : List PhraseMark) (domain n : ℕ) (sent : List ℕ) (p : RunningFields) (shown : List Reading) (r : RunningWorld) → LosesNoPacket marks
    → (ahead : IsAhead domain n sent p shown r) → MayGoAhead domain n sent ahead.before
    → microframe marks r
    ≡ without_event (behind domain (ticks_then domain n (numbered ahead.before)) (sent_then n sent (numbered ahead.before)) (gone_ahead marks domain n sent (numbered ahead.before)))
ahead_done marks domain n sent p shown r none ahead may =
    ap (microframe marks) ahead.done
    ∙ microframe_behind marks domain n sent ahead.before none ahead.lone may.steady may.fit (few_next domain n sent p shown r ahead) ahead.have ahead.all

pub ahead_lines : (marks : List PhraseMark) (domain n : ℕ) (sent : List ℕ) (p : RunningFields) (shown : List Reading) (r : RunningWorld) → LosesNoPacket marks
    → (ahead : IsAhead domain n sent p shown r) → MayGoAhead domain n sent ahead.before → (microframe marks r).lines ≡ []
ahead_lines marks domain n sent p shown r none ahead may = ap (λ (told : Telling RunningWorld). told.lines) (ahead_done marks domain n sent p shown r none ahead may)

-- one microframe more ran ahead
ahead_then : (marks : List PhraseMark) (domain n : ℕ) (sent : List ℕ) (p q : RunningFields) (shown : List Reading) (r : RunningWorld) → LosesNoPacket marks
    → (ahead : IsAhead domain n sent p shown r) → MayGoAhead domain n sent ahead.before → HaveRoom (microframe marks r).world.device
    → RunningStands q shown (gone_ahead marks domain n sent (numbered ahead.before))
    → IsAhead domain (ticks_then domain n (numbered ahead.before)) (sent_then n sent (numbered ahead.before)) q shown (microframe marks r).world
ahead_then marks domain n sent p q shown r none ahead may room stands =
    let b = numbered ahead.before in
    let gone = gone_ahead marks domain n sent b in
    let ticks = ticks_then domain n b in
    let lone : IsLone domain b = record { detail = ahead.lone.detail; only = ahead.lone.only; few = ahead.lone.few } in
    let same = gone_function marks domain n sent b in
    let steady = gone_steady marks domain n sent b lone may.steady may.fit (few_next domain n sent p shown r ahead) ahead.have ahead.all in
    let have = gone_have marks domain n sent b lone may.steady may.fit (few_next domain n sent p shown r ahead) ahead.have ahead.all in
    record {
      before = gone;
      stands = stands;
      lone = record {
        detail = ahead.lone.detail;
        only = ap (λ (f : FunctionFields). f.domains) same ∙ ahead.lone.only;
        few = subst (λ (f : FunctionFields). length (numbers_in f) ≤ 8) (sym same) ahead.lone.few;
      };
      all = gone_all marks domain n sent b lone may.steady may.fit (few_next domain n sent p shown r ahead) ahead.have ahead.all;
      meets = steady_meets_nothing domain ticks gone.device steady;
      have = have;
      there = sent_are_there domain (tones_of domain gone.jacks) ticks (sent_of (sent_then n sent b) gone) gone.device steady have;
      done = ap (λ (told : Telling RunningWorld). told.world) (ahead_done marks domain n sent p shown r none ahead may);
      room = room;
    }

pub ahead_more : (marks : List PhraseMark) (domain n : ℕ) (sent : List ℕ) (ticks : ℕ) (more : List ℕ) (p q : RunningFields) (shown : List Reading) (r : RunningWorld) → LosesNoPacket marks
    → (ahead : IsAhead domain n sent p shown r) → MayGoAhead domain n sent ahead.before → HaveRoom (microframe marks r).world.device
    → ticks ≡ ticks_then domain n (numbered ahead.before) → more ≡ sent_then n sent (numbered ahead.before)
    → RunningStands q shown (gone_ahead marks domain n sent (numbered ahead.before)) → IsAhead domain ticks more q shown (microframe marks r).world
ahead_more marks domain n sent ticks more p q shown r none ahead may room is_ticks is_more stands =
    subst (λ (k : ℕ). IsAhead domain k more q shown (microframe marks r).world) (sym is_ticks)
    (subst (λ (ms : List ℕ). IsAhead domain (ticks_then domain n (numbered ahead.before)) ms q shown (microframe marks r).world) (sym is_more)
    (ahead_then marks domain n sent p q shown r none ahead may room stands))

-- what waited is done
met_ahead : (domain n : ℕ) (sent : List ℕ) (p : RunningFields) (shown : List Reading) (r : RunningWorld) (ahead : IsAhead domain n sent p shown r)
    → met_after domain n ahead.before ≡ ahead.before.met
met_ahead domain n sent p shown r ahead = met_nothing domain n ahead.before (λ t less. ahead.meets (tones_of domain ahead.before.jacks) t less)

pub caught_up : (domain n : ℕ) (sent : List ℕ) (p q s : RunningFields) (shown showing : List Reading) (r : RunningWorld) (ahead : IsAhead domain n sent p shown r)
    → ((v : RunningWorld) → RunningStands p shown v → met_after domain n v ≡ v.met → RunningStands q showing (running_after domain n v))
    → ((v : RunningWorld) → RunningStands q showing v → SentAreThere (sent_of sent v) v.device
    → RunningStands s showing (record v { device = after_sent (sent_of sent v) v.device }))
    → RunningStands s showing r
unfolding running_after
caught_up domain n sent p q s shown showing r ahead ticks drops =
    let b = ahead.before in
    let met = met_ahead domain n sent p shown r ahead in
    let v = running_after domain n b in
    let same = ap numbers_in (ticked_function domain (tones_of domain b.jacks) n b.device) in
    let dropped : RunningStands s showing (record v { device = after_sent (sent_of sent v) v.device }) =
    drops v (ticks b ahead.stands met) (subst (λ (ns : List ℕ). SentAreThere (sent_on ns sent) v.device) (sym same) ahead.there) in
    subst (RunningStands s showing)
    (ap (λ (ns : List ℕ). record v { device = after_sent (sent_on ns sent) v.device }) same
    ∙ ap (λ (counts : ℕ → StreamCounts). record (behind domain n sent b) { met = counts }) met
    ∙ sym ahead.done)
    dropped

-- ---- what one is told

-- an error, up to which a front was written
no_ok : {T E : Type 0} (Q : E → Type 0) (P : T → Type 0) (r : Result T E) → IsErrAnd r Q → IfOk r P
no_ok Q P (Ok x) fails = absurd fails
no_ok Q P (Err e) fails = tt

pub stopped_ahead : {T E : Type 0} (Q : E → Type 0) (P : T → Type 0) (old new : Option (List ℕ)) (r : Result T E) (lines : List Said) → IsErrAnd r Q
    → AppendsFront old new (text_of lines) → Prints old new r lines × IfOk r P
stopped_ahead Q P old new r lines fails front = ((Tells-handed_on Q (Unit {0}) old new r lines fails front).0, no_ok Q P r fails)

-- the packets to the device, and the ends of a microframe, say nothing
pub outs_told : (marks : List PhraseMark) (domain n : ℕ) (r : RunningWorld) → LosesNoPacket marks → r.detail ≡ 0 → AreSteady domain n r.device
    → list_all (fits (streaming_of r)) (numbers_out r.device.function) ≡ true
    → of_streams (out_packets r.detail marks) r ≡ without_event (with_streaming r (outs_sent r))
outs_told marks domain n r none detail steady fit =
    ap (λ (outs : StreamingWorld → Telling StreamingWorld). of_streams outs r) (outs_lossless marks r.detail none)
    ∙ ap (λ (k : ℕ). of_streams (out_packets k []) r) detail
    ∙ ap (λ (lines : List Said). record { lines = lines; world = with_streaming r (outs_sent r) }) (outs_silent domain n (streaming_of r) steady fit)

-- where the packets went, whatever was said
pub outs_world : (marks : List PhraseMark) (r : RunningWorld) → LosesNoPacket marks → r.detail ≡ 0
    → (of_streams (out_packets r.detail marks) r).world ≡ with_streaming r (outs_sent r)
outs_world marks r none detail =
    ap (λ (outs : StreamingWorld → Telling StreamingWorld). (of_streams outs r).world) (outs_lossless marks r.detail none)
    ∙ ap (λ (k : ℕ). (of_streams (out_packets k []) r).world) detail

pub ends_told : (r : RunningWorld) → r.detail ≡ 0 → of_streams (all_ends r.detail) r ≡ without_event (with_streaming r (all_ends 0 (streaming_of r)).world)
ends_told r detail =
    ap (λ (k : ℕ). of_streams (all_ends k) r) detail
    ∙ ap (λ (lines : List Said). record { lines = lines; world = with_streaming r (all_ends 0 (streaming_of r)).world }) (ends_silent (streaming_of r))

-- the reports when so many ticks wait are those of the device when they are done
pub reports_later : (domain n : ℕ) (sent : List ℕ) (ticks : ℕ) (r : RunningWorld) → AreSteady domain (ticks_then domain n r) (ended domain r).device → ticks ≡ ticks_then domain n r
    → (interface : ℕ)
    → feedback_in (device_settled domain (ticks_then domain n r) (sent_then n sent r) (with_streaming r (ended domain r))) interface
    ≡ feedback_later_in (ended domain r).device interface ticks
reports_later domain n sent ticks r steady same interface =
    feedback_settled domain (tones_of domain r.jacks) (ticks_then domain n r) (sent_of (sent_then n sent r) (with_streaming r (ended domain r))) (ended domain r).device
    interface steady
    ∙ ap (feedback_later_in (ended domain r).device interface) (sym same)

-- what follows from three things at Ok
pub three_ok : {T E : Type 0} (P Q R S : T → Type 0) (r : Result T E) → ((x : T) → P x → Q x → R x → S x) → IfOk r P → IfOk r Q → IfOk r R → IfOk r S
three_ok P Q R S (Ok x) f p q s = f x p q s
three_ok P Q R S (Err e) f p q s = tt

-- the world behind the ticks is of the same function, and so is alone
pub function_ahead : (domain n : ℕ) (sent : List ℕ) (p : RunningFields) (shown : List Reading) (r : RunningWorld) → IsAhead domain n sent p shown r
    → p.device.function ≡ r.device.function
function_ahead domain n sent p shown r ahead =
    let b = ahead.before in
    ahead.stands.streaming.device.function ∙ sym (function_settled domain (tones_of domain b.jacks) n (sent_of sent b) b.device)
    ∙ ap (λ (v : RunningWorld). v.device.function) (sym ahead.done)

pub lone_ahead : (domain n : ℕ) (sent : List ℕ) (p : RunningFields) (shown : List Reading) (r : RunningWorld) → IsAhead domain n sent p shown r → IsLone domain r
lone_ahead domain n sent p shown r ahead =
    let b = ahead.before in
    let same : r.device.function ≡ b.device.function =
    ap (λ (v : RunningWorld). v.device.function) ahead.done ∙ function_settled domain (tones_of domain b.jacks) n (sent_of sent b) b.device in
    record {
      detail = ap (λ (v : RunningWorld). v.detail) ahead.done ∙ ahead.lone.detail;
      only = ap (λ (f : FunctionFields). f.domains) same ∙ ahead.lone.only;
      few = subst (λ (f : FunctionFields). length (numbers_in f) ≤ 8) (sym same) ahead.lone.few;
    }
