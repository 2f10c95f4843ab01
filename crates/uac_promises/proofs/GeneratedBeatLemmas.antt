-- A microframe of a device of which one interface alone runs a stream, and that to the device: it counts the stream's microframes on, and
-- has its report, come or lost, where one falls due; all else that was given it leaves.
use Rattle.std.proofs.Common.{◌≡◌, ◌∙◌, sym, refl, ap, subst, ℕ, zero, suc, ◌+◌, ◌==◌, if◌then◌else◌, Bool, true, false, List, [], ◌∷◌, Option, None, Some, is_some}
use Rattle.std.specs.List.{filter, fold}
use Rattle.std.specs.Option.{option_and_then, option_map, option_map_or}
use Rattle.uac_units.specs.Hearing.{at_most_u64}
use Rattle.uac_rate.specs.Steadiness.{SteadyHistory, with_report_given}
use Rattle.uac_topology.specs.Function.{FunctionFields}
use Rattle.uac_rate.specs.Reports.{report_of}
use Rattle.uac_flow.specs.FlowStreams.{OutStream, after_packet, after_taking, after_ticks, feedback_of, is_dry, is_due, out_level, out_after_end, after_due_end}
use Rattle.uac_device.specs.InterfaceStreams.{streams_changed_at}
use Rattle.uac_device.specs.DeviceWorld.{DeviceWorld, after_advance, feedback_in, is_on, next_ticks, after_receiving, set_jack, after_end, after_tick}
use Rattle.uac_device.specs.DeviceWorld.{after_sending_in_packet as device_sends}
use Rattle.uac_script.specs.Phrase.{PhraseMark}
use Rattle.uac_streaming.specs.Telling.{Telling, without_event}
use Rattle.uac_streaming.specs.StreamingWorld.{StreamingWorld, all_feedback, all_ends, fetched_lines, given_at, in_packet_turn, in_packets, is_in_due, is_out_due, loses_in, loses_out, loses_feedback, numbers, out_packets, out_turn, packet_fetched, packet_sent_out, packet_to, stream_index, feedback_lines, feedback_made, feedback_turn, sent_out_lines, end_turn}
use Rattle.uac_device.specs.declared.jacks.Jack.{Jack}
use Rattle.uac_running.specs.RunningWorld.{RunningWorld, streaming_of, with_streaming}
use Rattle.uac_running.specs.Events.{after_all_jacks, domain_microframe, domain_microframes, ends_and_feedback, microframe, next_frame, packets_and_ticks, tick, tick_times}
use Rattle.uac_streaming.proofs.AmongLemmas.{Among}
use Rattle.uac_levels.proofs.TellingTurnLemmas.{none_at, numbers_differ, own_number, turns_keep, turns_once}
use Rattle.uac_levels.proofs.LifeTurnLemmas.{if_false, if_true}
use Rattle.uac_promises.proofs.SteadinessBeatLemmas.{Beat, beat_of, given_following, is_told, next_beat, told_at}

-- ---- the steps of a stream

packet_beat : (packet : Option (List ℕ)) (o : OutStream) → beat_of (after_packet packet o) ≡ beat_of o
unfolding after_packet
packet_beat None o = refl
packet_beat (Some packet) o = refl

taking_beat : (o : OutStream) → beat_of (after_taking o) ≡ beat_of o
unfolding after_taking
taking_beat o = by (is_dry o) (is_some o.target)
  where
    by : (b c : Bool)
        → beat_of (if b then record o { arrived = []; taken = 0; target = None } else if c then record o { taken = o.taken + 1 } else o) ≡ beat_of o
    by true c = refl
    by false true = refl
    by false false = refl

ended_beat : (o : OutStream) → beat_of (out_after_end o) ≡ next_beat (beat_of o)
unfolding out_after_end
ended_beat o = by (is_due o.stream o.microframes)
  where
    by : (b : Bool)
        → beat_of (let s : OutStream = if b then after_due_end o else o in record s { microframes = o.microframes + 1 }) ≡ next_beat (beat_of o)
    by true = refl
    by false = refl

mapped_beat : (change : OutStream → OutStream) (next : Beat → Beat) → ((o : OutStream) → beat_of (change o) ≡ next (beat_of o))
    → (o : Option OutStream) → option_map beat_of (option_map change o) ≡ option_map next (option_map beat_of o)
mapped_beat change next same None = refl
mapped_beat change next same (Some o) = ap (λ (b : Beat). Some b) (same o)

kept_beat : (change : OutStream → OutStream) → ((o : OutStream) → beat_of (change o) ≡ beat_of o)
    → (o : Option OutStream) → option_map beat_of (option_map change o) ≡ option_map beat_of o
kept_beat change same None = refl
kept_beat change same (Some o) = ap (λ (b : Beat). Some b) (same o)

either_beat : (change : OutStream → OutStream) → ((o : OutStream) → beat_of (change o) ≡ beat_of o) → (b : Bool) (o : OutStream)
    → beat_of (if b then change o else o) ≡ beat_of o
either_beat change same true o = same o
either_beat change same false o = refl

-- ---- the streams of all interfaces

kept_at : (n k : ℕ) (change : OutStream → OutStream) → ((o : OutStream) → beat_of (change o) ≡ beat_of o) → (streams : ℕ → Option OutStream)
    → option_map beat_of (streams_changed_at n change streams k) ≡ option_map beat_of (streams k)
kept_at n k change same streams = by (k == n)
  where
    by : (b : Bool) → option_map beat_of (if b then option_map change (streams k) else streams k) ≡ option_map beat_of (streams k)
    by true = kept_beat change same (streams k)
    by false = refl

-- ---- the world of one stream

module _ (function : FunctionFields) (interface : ℕ) where
  -- a device of this function, of which no other interface runs a stream to the device, and this one runs one of this beat, if any
  pub record Plays (beat : Option Beat) (w : DeviceWorld) : Type 0 where
    pub function_is : w.function ≡ function
    pub own : option_map beat_of (w.outs interface) ≡ beat
    pub others : (n : ℕ) → (interface == n) ≡ false → w.outs n ≡ None

  -- and this was given
  pub record Beats (beat : Option Beat) (given : SteadyHistory) (w : StreamingWorld) : Type 0 where
    pub plays : Plays beat w.device
    pub given_is : w.history ≡ given

  module _ (detail : ℕ) (marks : List PhraseMark) where
    module _ (given : SteadyHistory) (beat : Option Beat) where
      out_beats : (n : ℕ) (w : StreamingWorld) → Beats beat given w → Beats beat given (out_turn detail marks n w).world
      unfolding out_turn packet_sent_out after_receiving
      out_beats n w beats = by (is_out_due w n)
        where
          by : (b : Bool)
              → Beats beat given (if b then record { lines = sent_out_lines detail (loses_out marks n) n w; world = packet_sent_out (loses_out marks n) n w }
              else without_event w).world
          by true = record {
            plays = record {
              function_is = beats.plays.function_is;
              own =
                  kept_at n interface (after_packet (packet_to (loses_out marks n) n w)) (packet_beat (packet_to (loses_out marks n) n w)) w.device.outs
                  ∙ beats.plays.own;
              others = λ m other. none_at n m (after_packet (packet_to (loses_out marks n) n w)) w.device.outs (beats.plays.others m other);
            };
            given_is = beats.given_is;
          }
          by false = beats

      in_beats : (n : ℕ) (w : StreamingWorld) → Beats beat given w → Beats beat given (in_packet_turn detail marks n w).world
      unfolding in_packet_turn packet_fetched device_sends
      in_beats n w beats = by (is_in_due w n)
        where
          by : (b : Bool)
              → Beats beat given (if b then record { lines = fetched_lines detail (loses_in marks n) n w; world = packet_fetched (loses_in marks n) n w }
              else without_event w).world
          by true = record {
            plays = record { function_is = beats.plays.function_is; own = beats.plays.own; others = beats.plays.others };
            given_is = beats.given_is;
          }
          by false = beats

      ended_other : (n : ℕ) (w : StreamingWorld) → (interface == n) ≡ false → Beats beat given w
          → Beats beat given (end_turn detail n w).world
      unfolding end_turn after_end
      ended_other n w other beats = record {
        plays = record {
          function_is = beats.plays.function_is;
          own = ap (option_map beat_of) (if_false (interface == n) _ (w.device.outs interface) other) ∙ beats.plays.own;
          others = λ m apart. none_at n m out_after_end w.device.outs (beats.plays.others m apart);
        };
        given_is = beats.given_is;
      }

      feedback_other : (n : ℕ) (w : StreamingWorld) → (interface == n) ≡ false → Beats beat given w
          → Beats beat given (feedback_turn detail marks n w).world
      unfolding feedback_turn feedback_in
      feedback_other n w other beats =
          subst (λ (o : Option OutStream). Beats beat given (option_map_or (λ value. record { lines = feedback_lines detail (loses_feedback marks n) value n; world = feedback_made (loses_feedback marks n) value n w }) (option_and_then feedback_of o) (without_event w)).world)
          (sym (beats.plays.others n other)) beats

    ended_here : (given : SteadyHistory) (beat : Option Beat) (w : StreamingWorld) → Beats beat given w
        → Beats (option_map next_beat beat) given (end_turn detail interface w).world
    unfolding end_turn after_end
    ended_here given beat w beats = record {
      plays = record {
        function_is = beats.plays.function_is;
        own =
            ap (option_map beat_of) (if_true (interface == interface) _ (w.device.outs interface) (own_number interface))
            ∙ mapped_beat out_after_end next_beat ended_beat (w.device.outs interface) ∙ ap (option_map next_beat) beats.plays.own;
        others = λ m apart. none_at interface m out_after_end w.device.outs (beats.plays.others m apart);
      };
      given_is = beats.given_is;
    }

    feedback_here : (given : SteadyHistory) (beat : Option Beat) (w : StreamingWorld) → Beats beat given w
        → Beats beat (given_following (loses_feedback marks interface) (stream_index function interface) beat given) (feedback_turn detail marks interface w).world
    unfolding feedback_turn feedback_made feedback_in feedback_of
    feedback_here given beat w beats =
        subst (λ (b : Option Beat). Beats beat (given_following lost (stream_index function interface) b given) (option_map_or made (option_and_then feedback_of (w.device.outs interface)) (without_event w)).world)
        beats.plays.own (by (w.device.outs interface))
      where
        lost : Bool
        lost = loses_feedback marks interface

        made : ℕ → Telling StreamingWorld
        made value = record { lines = feedback_lines detail lost value interface; world = feedback_made lost value interface w }

        due : (value : ℕ) (told : Bool)
            → Beats beat (told_at lost (stream_index function interface) told given)
            (option_map_or made (if told then Some value else None) (without_event w)).world
        due value true = record {
          plays = record { function_is = beats.plays.function_is; own = beats.plays.own; others = beats.plays.others };
          given_is =
              ap (λ (f : FunctionFields). given_at (stream_index f interface) (λ p. with_report_given p lost) w.history) beats.plays.function_is
              ∙ ap (given_at (stream_index function interface) (λ p. with_report_given p lost)) beats.given_is;
        }
        due value false = beats

        by : (o : Option OutStream)
            → Beats beat (given_following lost (stream_index function interface) (option_map beat_of o) given)
            (option_map_or made (option_and_then feedback_of o) (without_event w)).world
        by None = beats
        by (Some o) = due (option_map_or (λ target. report_of o.stream.nominal target (out_level o)) o.target o.stream.nominal.f) (is_told (beat_of o))

    module _ (among : Among interface (numbers function)) (given : SteadyHistory) (beat : Option Beat) where
      here_among : (w : StreamingWorld) → Beats beat given w → Among interface (numbers w.device.function)
      here_among w beats = subst (λ (f : FunctionFields). Among interface (numbers f)) (sym beats.plays.function_is) among

      pub all_out_beat : (w : StreamingWorld) → Beats beat given w → Beats beat given (out_packets detail marks w).world
      unfolding out_packets
      all_out_beat w beats = turns_keep (Beats beat given) (out_turn detail marks) (out_beats given beat) (numbers w.device.function) w beats

      pub all_in_beat : (w : StreamingWorld) → Beats beat given w → Beats beat given (in_packets detail marks w).world
      unfolding in_packets
      all_in_beat w beats = turns_keep (Beats beat given) (in_packet_turn detail marks) (in_beats given beat) (numbers w.device.function) w beats

      pub all_ends_beat : (w : StreamingWorld) → Beats beat given w → Beats (option_map next_beat beat) given (all_ends detail w).world
      unfolding all_ends
      all_ends_beat w beats =
          turns_once (end_turn detail) interface (Beats beat given) (Beats (option_map next_beat beat) given) (ended_other given beat)
          (ended_other given (option_map next_beat beat)) (ended_here given beat) (numbers w.device.function) w (numbers_differ w.device.function) (here_among w beats) beats

      pub all_feedback_beat : (w : StreamingWorld) → Beats beat given w
          → Beats beat (given_following (loses_feedback marks interface) (stream_index function interface) beat given) (all_feedback detail marks w).world
      unfolding all_feedback
      all_feedback_beat w beats =
          turns_once (feedback_turn detail marks) interface (Beats beat given) (Beats beat following) (feedback_other given beat)
          (feedback_other following beat) (feedback_here given beat) (numbers w.device.function) w (numbers_differ w.device.function) (here_among w beats) beats
        where
          following : SteadyHistory
          following = given_following (loses_feedback marks interface) (stream_index function interface) beat given

  -- ---- ticks

  module _ (beat : Option Beat) where
    jacks_play : (jacks : List Jack) (w : DeviceWorld) → Plays beat w
        → Plays beat (fold (λ u j. set_jack j.terminal (next_frame j) u) w jacks)
    unfolding set_jack
    jacks_play [] w plays = plays
    jacks_play (j ∷ js) w plays =
        jacks_play js (set_jack j.terminal (next_frame j) w)
        (record { function_is = plays.function_is; own = plays.own; others = plays.others })

    given_plays : (c : ℕ) (r : RunningWorld) → Plays beat r.device → Plays beat (after_all_jacks c r)
    unfolding after_all_jacks
    given_plays c r plays = jacks_play (filter (λ (j : Jack). j.domain == c) r.jacks) r.device plays

    ticked_plays : (c : ℕ) (w : DeviceWorld) → Plays beat w → Plays beat (after_tick c w)
    unfolding after_tick
    ticked_plays c w plays = record {
      function_is = plays.function_is;
      own =
          kept_beat (λ s. if is_on w c interface then after_taking s else s) (either_beat after_taking taking_beat (is_on w c interface)) (w.outs interface)
          ∙ plays.own;
      others = λ n other. ap (option_map (λ s. if is_on w c n then after_taking s else s)) (plays.others n other);
    }

    advanced_plays : (c : ℕ) (w : DeviceWorld) → Plays beat w → Plays beat (after_advance c w)
    unfolding after_advance
    advanced_plays c w plays =
        let count : OutStream → OutStream = after_ticks (next_ticks c w) in
        record {
          function_is = plays.function_is;
          own =
              kept_beat (λ s. if is_on w c interface then count s else s) (either_beat count (λ o. refl) (is_on w c interface)) (w.outs interface)
              ∙ plays.own;
          others = λ n other. ap (option_map (λ s. if is_on w c n then count s else s)) (plays.others n other);
        }

    module _ (given : SteadyHistory) where
      tick_beats : (c : ℕ) (r : RunningWorld) → Beats beat given (streaming_of r) → Beats beat given (streaming_of (tick c r).world)
      unfolding tick
      tick_beats c r beats = record { plays = ticked_plays c (after_all_jacks c r) (given_plays c r beats.plays); given_is = beats.given_is }

      ticks_beat : (count c : ℕ) (r : RunningWorld) → Beats beat given (streaming_of r) → Beats beat given (streaming_of (tick_times count c r).world)
      unfolding tick_times
      ticks_beat zero c r beats = beats
      ticks_beat (suc count) c r beats = ticks_beat count c (tick c r).world (tick_beats c r beats)

      domain_beats : (c : ℕ) (r : RunningWorld) → Beats beat given (streaming_of r) → Beats beat given (streaming_of (domain_microframe c r).world)
      unfolding domain_microframe
      domain_beats c r beats =
          ticks_beat (next_ticks c r.device) c (record r { device = after_advance c r.device })
          (record { plays = advanced_plays c r.device beats.plays; given_is = beats.given_is })

      domains_beat : (clocks : List ℕ) (r : RunningWorld) → Beats beat given (streaming_of r)
          → Beats beat given (streaming_of (domain_microframes clocks r).world)
      unfolding domain_microframes
      domains_beat [] r beats = beats
      domains_beat (c ∷ cs) r beats = domains_beat cs (domain_microframe c r).world (domain_beats c r beats)

  -- ---- a microframe

  pub microframe_beats : (among : Among interface (numbers function)) (marks : List PhraseMark) (r : RunningWorld) (beat : Option Beat) (given : SteadyHistory)
      → Beats beat given (streaming_of r)
      → Beats (option_map next_beat beat)
      (given_following (loses_feedback marks interface) (stream_index function interface) (option_map next_beat beat) given)
      (streaming_of (microframe marks r).world)
  unfolding microframe packets_and_ticks ends_and_feedback
  microframe_beats among marks r beat given beats =
      let v : RunningWorld = record r { time = at_most_u64 (r.time + 1) } in
      let sent = with_streaming v (out_packets v.detail marks (streaming_of v)).world in
      let fetched = with_streaming sent (in_packets v.detail marks (streaming_of sent)).world in
      let u = (packets_and_ticks marks v).world in
      all_feedback_beat u.detail marks among given (option_map next_beat beat) (all_ends u.detail (streaming_of u)).world
      (all_ends_beat u.detail marks among given beat (streaming_of u)
      (domains_beat beat given fetched.device.function.domains fetched
      (all_in_beat v.detail marks among given beat (streaming_of sent) (all_out_beat v.detail marks among given beat (streaming_of v) beats))))
