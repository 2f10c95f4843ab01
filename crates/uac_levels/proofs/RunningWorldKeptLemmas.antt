-- What each step of a microframe leaves so, the microframe leaves so.
use Rattle.std.proofs.Common.{ℕ, zero, suc, ◌+◌, ◌==◌, Bool, true, false, if◌then◌else◌, ℤ, List, [], ◌∷◌, Option, Some, None}
use Rattle.std.specs.List.{filter, fold}
use Rattle.std.specs.Option.{option_map_or}
use Rattle.uac_units.specs.Hearing.{at_most_u64}
use Rattle.uac_device.specs.DeviceWorld.{after_advance, feedback_in, next_ticks, set_jack, after_end, after_tick}
use Rattle.uac_script.specs.Phrase.{PhraseMark}
use Rattle.uac_ring.specs.declared.counts.StreamCounts.{StreamCounts}
use Rattle.uac_streaming.specs.Telling.{without_event}
use Rattle.uac_streaming.specs.StreamingWorld.{StreamingWorld, all_feedback, all_ends, fetched_lines, found_counts, in_packet_turn, in_packets, is_in_due, is_out_due, loses_in, loses_out, loses_feedback, numbers, out_packets, out_turn, packet_fetched, packet_sent_out, feedback_lines, feedback_made, feedback_turn, sent_out_lines, end_turn}
use Rattle.uac_device.specs.declared.jacks.Jack.{Jack}
use Rattle.uac_running.specs.RunningWorld.{RunningWorld, streaming_of, with_streaming}
use Rattle.uac_running.specs.Events.{after_all_jacks, domain_microframe, domain_microframes, ends_and_feedback, microframe, next_frame, packets_and_ticks, tick, tick_times}
use Rattle.uac_levels.proofs.TellingTurnLemmas.{turns_keep}

-- each step leaves it so
pub record IsKeptByEach (P : StreamingWorld → Type 0) : Type 0 where
  pub sends : (lost : Bool) (n : ℕ) (w : StreamingWorld) → P w → P (packet_sent_out lost n w)
  pub fetches : (lost : Bool) (n : ℕ) (w : StreamingWorld) → P w → P (packet_fetched lost n w)
  pub ends : (n : ℕ) (w : StreamingWorld) → P w → P (record w { device = after_end n w.device })
  pub reports : (lost : Bool) (value n : ℕ) (w : StreamingWorld) → P w → P (feedback_made lost value n w)
  pub jacks : (terminal : ℕ) (frame : List ℤ) (w : StreamingWorld) → P w → P (record w { device = set_jack terminal frame w.device })
  pub ticks : (c : ℕ) (met : ℕ → StreamCounts) (w : StreamingWorld) → P w → P (record w { device = after_tick c w.device; met = met })
  pub goes_on : (c : ℕ) (w : StreamingWorld) → P w → P (record w { device = after_advance c w.device })

module _ (P : StreamingWorld → Type 0) (each : IsKeptByEach P) where
  -- of a running world
  abbrev Now : RunningWorld → Type 0
  Now r = P (streaming_of r)

  -- ---- streams

  module _ (detail : ℕ) (marks : List PhraseMark) where
    out_keeps : (n : ℕ) (w : StreamingWorld) → P w → P (out_turn detail marks n w).world
    unfolding out_turn
    out_keeps n w is = by (is_out_due w n)
      where
        by : (b : Bool)
            → P (if b then record { lines = sent_out_lines detail (loses_out marks n) n w; world = packet_sent_out (loses_out marks n) n w }
            else without_event w).world
        by true = each.sends (loses_out marks n) n w is
        by false = is

    in_keeps : (n : ℕ) (w : StreamingWorld) → P w → P (in_packet_turn detail marks n w).world
    unfolding in_packet_turn
    in_keeps n w is = by (is_in_due w n)
      where
        by : (b : Bool)
            → P (if b then record { lines = fetched_lines detail (loses_in marks n) n w; world = packet_fetched (loses_in marks n) n w }
            else without_event w).world
        by true = each.fetches (loses_in marks n) n w is
        by false = is

    ended_keeps : (n : ℕ) (w : StreamingWorld) → P w → P (end_turn detail n w).world
    unfolding end_turn
    ended_keeps n w is = each.ends n w is

    report_keeps : (n : ℕ) (w : StreamingWorld) → P w → P (feedback_turn detail marks n w).world
    unfolding feedback_turn
    report_keeps n w is = by (feedback_in w.device n)
      where
        by : (o : Option ℕ)
            → P (option_map_or (λ value. record { lines = feedback_lines detail (loses_feedback marks n) value n; world = feedback_made (loses_feedback marks n) value n w })
            o (without_event w)).world
        by None = is
        by (Some value) = each.reports (loses_feedback marks n) value n w is

    pub all_out_keep : (w : StreamingWorld) → P w → P (out_packets detail marks w).world
    unfolding out_packets
    all_out_keep w is = turns_keep P (out_turn detail marks) out_keeps (numbers w.device.function) w is

    pub all_in_keep : (w : StreamingWorld) → P w → P (in_packets detail marks w).world
    unfolding in_packets
    all_in_keep w is = turns_keep P (in_packet_turn detail marks) in_keeps (numbers w.device.function) w is

    pub all_ends_keep : (w : StreamingWorld) → P w → P (all_ends detail w).world
    unfolding all_ends
    all_ends_keep w is = turns_keep P (end_turn detail) ended_keeps (numbers w.device.function) w is

    pub all_feedback_keep : (w : StreamingWorld) → P w → P (all_feedback detail marks w).world
    unfolding all_feedback
    all_feedback_keep w is = turns_keep P (feedback_turn detail marks) report_keeps (numbers w.device.function) w is

  -- ---- ticks

  jacks_keep : (jacks : List Jack) (w : StreamingWorld) → P w
      → P (record w { device = fold (λ u j. set_jack j.terminal (next_frame j) u) w.device jacks })
  jacks_keep [] w is = is
  jacks_keep (j ∷ js) w is =
      jacks_keep js (record w { device = set_jack j.terminal (next_frame j) w.device }) (each.jacks j.terminal (next_frame j) w is)

  pub given_keeps : (c : ℕ) (r : RunningWorld) → Now r → P (record (streaming_of r) { device = after_all_jacks c r })
  unfolding after_all_jacks
  given_keeps c r is = jacks_keep (filter (λ (j : Jack). j.domain == c) r.jacks) (streaming_of r) is

  pub tick_keeps : (c : ℕ) (r : RunningWorld) → Now r → Now (tick c r).world
  unfolding tick
  tick_keeps c r is =
      each.ticks c (found_counts c (after_all_jacks c r) r.met) (record (streaming_of r) { device = after_all_jacks c r }) (given_keeps c r is)

  pub advanced_keeps : (c : ℕ) (r : RunningWorld) → Now r → Now (record r { device = after_advance c r.device })
  advanced_keeps c r is = each.goes_on c (streaming_of r) is

  ticks_keep : (count c : ℕ) (r : RunningWorld) → Now r → Now (tick_times count c r).world
  unfolding tick_times
  ticks_keep zero c r is = is
  ticks_keep (suc count) c r is = ticks_keep count c (tick c r).world (tick_keeps c r is)

  pub domain_keeps : (c : ℕ) (r : RunningWorld) → Now r → Now (domain_microframe c r).world
  unfolding domain_microframe
  domain_keeps c r is = ticks_keep (next_ticks c r.device) c (record r { device = after_advance c r.device }) (advanced_keeps c r is)

  domains_keep : (clocks : List ℕ) (r : RunningWorld) → Now r → Now (domain_microframes clocks r).world
  unfolding domain_microframes
  domains_keep [] r is = is
  domains_keep (c ∷ cs) r is = domains_keep cs (domain_microframe c r).world (domain_keeps c r is)

  -- ---- a microframe

  pub before_ticks_keep : (marks : List PhraseMark) (r : RunningWorld) → Now r
      → (let sent = with_streaming r (out_packets r.detail marks (streaming_of r)).world in
      Now (with_streaming sent (in_packets sent.detail marks (streaming_of sent)).world))
  before_ticks_keep marks r is =
      let sent = with_streaming r (out_packets r.detail marks (streaming_of r)).world in
      all_in_keep r.detail marks (streaming_of sent) (all_out_keep r.detail marks (streaming_of r) is)

  pub before_the_end_keep : (marks : List PhraseMark) (r : RunningWorld) → Now r → Now (packets_and_ticks marks r).world
  unfolding packets_and_ticks
  before_the_end_keep marks r is =
      let sent = with_streaming r (out_packets r.detail marks (streaming_of r)).world in
      let fetched = with_streaming sent (in_packets sent.detail marks (streaming_of sent)).world in
      domains_keep fetched.device.function.domains fetched (before_ticks_keep marks r is)

  the_end_keeps : (marks : List PhraseMark) (r : RunningWorld) → Now r → Now (ends_and_feedback marks r).world
  unfolding ends_and_feedback
  the_end_keeps marks r is =
      all_feedback_keep r.detail marks (all_ends r.detail (streaming_of r)).world (all_ends_keep r.detail marks (streaming_of r) is)

  pub microframe_keeps : (marks : List PhraseMark) (r : RunningWorld) → Now r → Now (microframe marks r).world
  unfolding microframe
  microframe_keeps marks r is =
      let numbered : RunningWorld = record r { time = at_most_u64 (r.time + 1) } in
      the_end_keeps marks (packets_and_ticks marks numbered).world (before_the_end_keep marks numbered is)
