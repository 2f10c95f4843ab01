-- Each event of a run adds little to its counts.
use Rattle.std.proofs.Common.{◌≡◌, arith, ap, sym, ℕ, zero, suc, ◌+◌, ◌-◌, ◌*◌, ◌/◌, ◌^◌, ◌≤◌, ◌==◌, Bool, true, false, if◌then◌else◌, cond, List, [], ◌∷◌, ◌++◌, length, sum, Option, Some, None, is_some, length-append}
use Rattle.std.specs.List.{All, filter, find, fold, range_with_len}
use Rattle.std.specs.Option.{option_map_or}
use Rattle.std.proofs.Math.Nat.{min-le_left}
use Rattle.std.proofs.lemmas.List.{take_at}
use Rattle.std.proofs.lemmas.List.Elements.{All-cons, All-map, All-nil, All-weaker}
use Rattle.std.proofs.lemmas.List.FromFn.{length-range_with_len}
use Rattle.std.proofs.lemmas.List.Sums.{count_by-le-length, length-filter}
use Rattle.uac_clock.specs.Ticks.{ticks_in}
use Rattle.uac_topology.specs.Function.{FunctionFields, interface_in}
use Rattle.uac_graph.proofs.NeedsLemmas.{needed_few}
use Rattle.uac_units.specs.Hearing.{at_most_u64}
use Rattle.uac_ring.specs.declared.arrival.Arrival.{Arrival}
use Rattle.uac_ring.specs.declared.arrival.Arrival.TheVariants as arrivals
use Rattle.uac_device.specs.DeviceWorld.{DeviceWorld, Domain, after_advance, arrival_in, feedback_in, next_ticks, after_receiving, renders_of, after_sending_in_packet, set_jack, after_end, step_in, steps_with_next, after_tick}
use Rattle.uac_device.specs.DeviceKept.{IsDeviationInRange}
use Rattle.uac_script.specs.Phrase.{PhraseMark}
use Rattle.uac_ring.specs.declared.counts.StreamCounts.{StreamCounts}
use Rattle.uac_streaming.specs.Telling.{Telling, without_event, in_turn}
use Rattle.uac_streaming.specs.StreamingWorld.{StreamingWorld, after_arrival, all_feedback, all_ends, counted_at, fetched_lines, finds_empty, finds_full, found_counts, in_packet_turn, in_packets, is_in_due, is_out_due, loses_in, loses_out, loses_feedback, numbers, one_lost, one_missed, one_over, one_under, out_packets, out_turn, packet_fetched, packet_sent_out, packet_to, feedback_lines, feedback_made, feedback_turn, sent_out_lines, end_turn}
use Rattle.uac_streaming.proofs.RoomLemmas.{next_few}
use Rattle.uac_device.specs.declared.jacks.Jack.{Jack}
use Rattle.uac_running.specs.RunningWorld.{RunningWorld, streaming_of, with_streaming}
use Rattle.uac_levels.proofs.TellingTurnLemmas.{own_number}
use Rattle.uac_running.specs.Events.{after_one, after_all_jacks, domain_microframe, domain_microframes, ends_and_feedback, microframe, microframes, next_frame, packets_and_ticks, tick, tick_times}

-- ---- counts up to a bound

-- a domain that ticked so often at most, whose clock is off by at most a tenth
pub record IsTimed (most : ℕ) (d : Domain) : Type 0 where
  pub ticks : sum d.steps / 65536 ≤ most
  pub range : IsDeviationInRange d.deviation

-- what streams met, each so often at most
pub record HasMet (most : ℕ) (c : StreamCounts) : Type 0 where
  pub under : c.under ≤ most
  pub over : c.over ≤ most
  pub lost : c.lost ≤ most
  pub missed : c.missed ≤ most

-- the counts of domains and streams, of a function of at most eight domains and 256 entities
pub record HaveCounted (most : ℕ) (w : StreamingWorld) : Type 0 where
  pub domains : length w.device.function.domains ≤ 8
  pub entities : length w.device.function.entities ≤ 256
  pub clocks : All (IsTimed most) w.device.domains
  pub met : (interface : ℕ) → HasMet most (w.met interface)

-- a jack's tone gave so many frames at most
abbrev pub HasGiven : ℕ → Jack → Type 0
HasGiven most j = j.place ≤ most

-- all counts of a run
pub record HasCounted (most : ℕ) (r : RunningWorld) : Type 0 where
  pub streams : HaveCounted most (streaming_of r)
  pub time : r.time ≤ most
  pub renders : r.renders ≤ most
  pub frames : All (HasGiven most) r.jacks

-- ---- up to a greater bound

timed_within : (most limit : ℕ) → most ≤ limit → (d : Domain) → IsTimed most d → IsTimed limit d
timed_within most limit more d is = record { ticks = omega (arith, is.ticks, more); range = is.range }

all_timed : (most limit : ℕ) → most ≤ limit → (ds : List Domain) → All (IsTimed most) ds → All (IsTimed limit) ds
all_timed most limit more ds are = All-weaker (IsTimed most) (IsTimed limit) (timed_within most limit more) ds are

met_within : (most limit : ℕ) → most ≤ limit → (c : StreamCounts) → HasMet most c → HasMet limit c
met_within most limit more c is = record {
  under = omega (arith, is.under, more);
  over = omega (arith, is.over, more);
  lost = omega (arith, is.lost, more);
  missed = omega (arith, is.missed, more);
}

streams_within : (most limit : ℕ) → most ≤ limit → (w : StreamingWorld) → HaveCounted most w → HaveCounted limit w
streams_within most limit more w is = record {
  domains = is.domains;
  entities = is.entities;
  clocks = all_timed most limit more w.device.domains is.clocks;
  met = λ k. met_within most limit more (w.met k) (is.met k);
}

all_given_within : (most limit : ℕ) → most ≤ limit → (js : List Jack) → All (HasGiven most) js → All (HasGiven limit) js
all_given_within most limit more js are = All-weaker (HasGiven most) (HasGiven limit) (λ j is. omega (arith, is, more)) js are

pub within : (most limit : ℕ) → most ≤ limit → (r : RunningWorld) → HasCounted most r → HasCounted limit r
within most limit more r is = record {
  streams = streams_within most limit more (streaming_of r) is.streams;
  time = omega (arith, is.time, more);
  renders = omega (arith, is.renders, more);
  frames = all_given_within most limit more r.jacks is.frames;
}

-- ---- what streams meet

sum_adds : (count more most bound : ℕ) → count ≤ most → more ≤ bound → at_most_u64 (count + more) ≤ most + bound
sum_adds count more most bound few less = let cut = min-le_left (count + more) (2 ^ 64 - 1) in omega (arith, cut, few, less)

one_adds : (count most : ℕ) → count ≤ most → at_most_u64 (count + 1) ≤ most + 1
one_adds count most few = sum_adds count 1 most 1 few (omega arith)

lost_adds : (most : ℕ) (c : StreamCounts) → HasMet most c → HasMet (most + 1) (one_lost c)
lost_adds most c is = record {
  under = omega (arith, is.under);
  over = omega (arith, is.over);
  lost = one_adds c.lost most is.lost;
  missed = omega (arith, is.missed);
}

over_adds : (most : ℕ) (c : StreamCounts) → HasMet most c → HasMet (most + 1) (one_over c)
over_adds most c is = record {
  under = omega (arith, is.under);
  over = one_adds c.over most is.over;
  lost = omega (arith, is.lost);
  missed = omega (arith, is.missed);
}

under_adds : (most : ℕ) (c : StreamCounts) → HasMet most c → HasMet (most + 1) (one_under c)
under_adds most c is = record {
  under = one_adds c.under most is.under;
  over = omega (arith, is.over);
  lost = omega (arith, is.lost);
  missed = omega (arith, is.missed);
}

missed_adds : (most : ℕ) (c : StreamCounts) → HasMet most c → HasMet (most + 1) (one_missed c)
missed_adds most c is = record {
  under = omega (arith, is.under);
  over = omega (arith, is.over);
  lost = omega (arith, is.lost);
  missed = one_adds c.missed most is.missed;
}

arrival_adds : (most : ℕ) (a : Arrival) (c : StreamCounts) → HasMet most c → HasMet (most + 1) (after_arrival a c)
arrival_adds most arrivals.Taken c is = met_within most (most + 1) (omega arith) c is
arrival_adds most arrivals.Lost c is = lost_adds most c is
arrival_adds most arrivals.Over c is = over_adds most c is

-- a change, or none
changed_adds : (most : ℕ) (change : StreamCounts → StreamCounts) → ((c : StreamCounts) → HasMet most c → HasMet (most + 1) (change c))
    → (b : Bool) (c : StreamCounts) → HasMet most c → HasMet (most + 1) (if b then change c else c)
changed_adds most change adds true c is = adds c is
changed_adds most change adds false c is = met_within most (most + 1) (omega arith) c is

met_adds : (most n : ℕ) (change : StreamCounts → StreamCounts) (met : ℕ → StreamCounts)
    → ((c : StreamCounts) → HasMet most c → HasMet (most + 1) (change c)) → ((k : ℕ) → HasMet most (met k))
    → (k : ℕ) → HasMet (most + 1) (counted_at n change met k)
met_adds most n change met adds is k = changed_adds most change adds (k == n) (met k) (is k)

found_adds : (most clock : ℕ) (w : DeviceWorld) (met : ℕ → StreamCounts) → ((k : ℕ) → HasMet most (met k))
    → (k : ℕ) → HasMet (most + 2) (found_counts clock w met k)
unfolding found_counts
found_adds most clock w met is k = by (finds_empty clock w k) (finds_full clock w k)
  where
    c : StreamCounts
    c = met k

    by : (empty full : Bool)
        → HasMet (most + 2) (if full then one_over (if empty then one_under c else c) else (if empty then one_under c else c))
    by true true =
        met_within (most + 1 + 1) (most + 2) (omega arith) (one_over (one_under c)) (over_adds (most + 1) (one_under c) (under_adds most c (is k)))
    by true false = met_within (most + 1) (most + 2) (omega arith) (one_under c) (under_adds most c (is k))
    by false true = met_within (most + 1) (most + 2) (omega arith) (one_over c) (over_adds most c (is k))
    by false false = met_within most (most + 2) (omega arith) c (is k)

-- ---- packets, ends and reports

sent_adds : (lost : Bool) (n most : ℕ) (w : StreamingWorld) → HaveCounted most w → HaveCounted (most + 1) (packet_sent_out lost n w)
unfolding packet_sent_out after_receiving
sent_adds lost n most w is =
    let arrival = arrival_in w.device n (packet_to lost n w) in
    record {
      domains = is.domains;
      entities = is.entities;
      clocks = all_timed most (most + 1) (omega arith) w.device.domains is.clocks;
      met = met_adds most n (after_arrival arrival) w.met (arrival_adds most arrival) is.met;
    }

fetched_adds : (lost : Bool) (n most : ℕ) (w : StreamingWorld) → HaveCounted most w → HaveCounted (most + 1) (packet_fetched lost n w)
unfolding packet_fetched after_sending_in_packet
fetched_adds lost n most w is = record {
  domains = is.domains;
  entities = is.entities;
  clocks = all_timed most (most + 1) (omega arith) w.device.domains is.clocks;
  met = met_adds most n (λ c. if lost then one_lost c else c) w.met (changed_adds most one_lost (lost_adds most) lost) is.met;
}

ended_adds : (n most : ℕ) (w : StreamingWorld) → HaveCounted most w → HaveCounted (most + 1) (record w { device = after_end n w.device })
unfolding after_end
ended_adds n most w is = record {
  domains = is.domains;
  entities = is.entities;
  clocks = all_timed most (most + 1) (omega arith) w.device.domains is.clocks;
  met = λ k. met_within most (most + 1) (omega arith) (w.met k) (is.met k);
}

feedback_made_adds : (lost : Bool) (value n most : ℕ) (w : StreamingWorld) → HaveCounted most w
    → HaveCounted (most + 1) (feedback_made lost value n w)
unfolding feedback_made
feedback_made_adds lost value n most w is = record {
  domains = is.domains;
  entities = is.entities;
  clocks = all_timed most (most + 1) (omega arith) w.device.domains is.clocks;
  met = met_adds most n (λ c. if lost then one_missed c else c) w.met (changed_adds most one_missed (missed_adds most) lost) is.met;
}

-- ---- for each interface

bytes_few : (test : ℕ → Bool) → length (filter test (range_with_len 0 256)) ≤ 256
bytes_few test =
    omega (arith, length-filter test (range_with_len 0 256), count_by-le-length test (range_with_len 0 256), length-range_with_len 0 256)

numbers_few : (function : FunctionFields) → length (numbers function) ≤ 256
unfolding numbers
numbers_few function = bytes_few (λ n. is_some (interface_in function n))

-- each of these adds one at most
abbrev AddsOne : (ℕ → StreamingWorld → Telling StreamingWorld) → Type 0
AddsOne event = (n most : ℕ) (w : StreamingWorld) → HaveCounted most w → HaveCounted (most + 1) (event n w).world

turns_add : (event : ℕ → StreamingWorld → Telling StreamingWorld) → AddsOne event → (ns : List ℕ) (most limit : ℕ) (w : StreamingWorld)
    → most + length ns ≤ limit → HaveCounted most w → HaveCounted limit (in_turn event ns w).world
unfolding in_turn
turns_add event adds [] most limit w few is = streams_within most limit (omega arith) w is
turns_add event adds (n ∷ ns) most limit w few is =
    turns_add event adds ns (most + 1) limit (event n w).world (omega arith) (adds n most w is)

all_turns_add : (event : ℕ → StreamingWorld → Telling StreamingWorld) → AddsOne event → (most : ℕ) (w : StreamingWorld)
    → HaveCounted most w → HaveCounted (most + 256) (in_turn event (numbers w.device.function) w).world
all_turns_add event adds most w is =
    turns_add event adds (numbers w.device.function) most (most + 256) w (omega (arith, numbers_few w.device.function)) is

module _ (detail : ℕ) (marks : List PhraseMark) where
  out_adds : AddsOne (out_turn detail marks)
  unfolding out_turn
  out_adds n most w is = by (is_out_due w n)
    where
      by : (b : Bool)
          → HaveCounted (most + 1) (if b then record { lines = sent_out_lines detail (loses_out marks n) n w; world = packet_sent_out (loses_out marks n) n w }
          else without_event w).world
      by true = sent_adds (loses_out marks n) n most w is
      by false = streams_within most (most + 1) (omega arith) w is

  in_adds : AddsOne (in_packet_turn detail marks)
  unfolding in_packet_turn
  in_adds n most w is = by (is_in_due w n)
    where
      by : (b : Bool)
          → HaveCounted (most + 1) (if b then record { lines = fetched_lines detail (loses_in marks n) n w; world = packet_fetched (loses_in marks n) n w }
          else without_event w).world
      by true = fetched_adds (loses_in marks n) n most w is
      by false = streams_within most (most + 1) (omega arith) w is

  end_turn_adds : AddsOne (end_turn detail)
  unfolding end_turn
  end_turn_adds n most w is = ended_adds n most w is

  feedback_adds : AddsOne (feedback_turn detail marks)
  unfolding feedback_turn
  feedback_adds n most w is = by (feedback_in w.device n)
    where
      by : (o : Option ℕ)
          → HaveCounted (most + 1) (option_map_or (λ value. record { lines = feedback_lines detail (loses_feedback marks n) value n; world = feedback_made (loses_feedback marks n) value n w })
          o (without_event w)).world
      by None = streams_within most (most + 1) (omega arith) w is
      by (Some value) = feedback_made_adds (loses_feedback marks n) value n most w is

  all_out_add : (most : ℕ) (w : StreamingWorld) → HaveCounted most w → HaveCounted (most + 256) (out_packets detail marks w).world
  unfolding out_packets
  all_out_add = all_turns_add (out_turn detail marks) out_adds

  all_in_add : (most : ℕ) (w : StreamingWorld) → HaveCounted most w → HaveCounted (most + 256) (in_packets detail marks w).world
  unfolding in_packets
  all_in_add = all_turns_add (in_packet_turn detail marks) in_adds

  all_ends_add : (most : ℕ) (w : StreamingWorld) → HaveCounted most w → HaveCounted (most + 256) (all_ends detail w).world
  unfolding all_ends
  all_ends_add = all_turns_add (end_turn detail) end_turn_adds

  all_feedback_add : (most : ℕ) (w : StreamingWorld) → HaveCounted most w → HaveCounted (most + 256) (all_feedback detail marks w).world
  unfolding all_feedback
  all_feedback_add = all_turns_add (feedback_turn detail marks) feedback_adds

-- ---- ticks

jacks_counted : (most : ℕ) (jacks : List Jack) (w : StreamingWorld) → HaveCounted most w
    → HaveCounted most (record w { device = fold (λ u j. set_jack j.terminal (next_frame j) u) w.device jacks })
unfolding set_jack
jacks_counted most [] w is = is
jacks_counted most (j ∷ js) w is =
    jacks_counted most js (record w { device = set_jack j.terminal (next_frame j) w.device })
    (record { domains = is.domains; entities = is.entities; clocks = is.clocks; met = is.met })

given_counted : (most clock : ℕ) (r : RunningWorld) → HasCounted most r → HaveCounted most (record (streaming_of r) { device = after_all_jacks clock r })
unfolding after_all_jacks
given_counted most clock r is = jacks_counted most (filter (λ (j : Jack). j.domain == clock) r.jacks) (streaming_of r) is.streams

one_frame_adds : (most clock : ℕ) (j : Jack) → HasGiven most j → HasGiven (most + 256) (after_one clock j)
one_frame_adds most clock j is = by (j.domain == clock)
  where
    by : (b : Bool) → HasGiven (most + 256) (if b then record j { place = at_most_u64 (j.place + 1) } else j)
    by true = sum_adds j.place 1 most 256 is (omega arith)
    by false = omega (arith, is)

renders_few : (clock : ℕ) (w : DeviceWorld) → length w.function.entities ≤ 256 → renders_of clock w ≤ 256
unfolding renders_of
renders_few clock w few = omega (arith, needed_few w.function.entities clock, few)

-- a tick: at most one frame of each jack, one ring found empty and one full of each interface, and 256 renders
tick_adds : (clock most : ℕ) (r : RunningWorld) → HasCounted most r → HasCounted (most + 256) (tick clock r).world
unfolding tick after_tick
tick_adds clock most r is =
    let given = after_all_jacks clock r in
    let counted = given_counted most clock r is in
    record {
      streams = record {
        domains = counted.domains;
        entities = counted.entities;
        clocks = all_timed most (most + 256) (omega arith) given.domains counted.clocks;
        met = λ k. met_within (most + 2) (most + 256) (omega arith) (found_counts clock given r.met k)
            (found_adds most clock given r.met is.streams.met k);
      };
      time = omega (arith, is.time);
      renders = sum_adds r.renders (renders_of clock given) most 256 is.renders (renders_few clock given counted.entities);
      frames = All-map (HasGiven (most + 256)) (after_one clock) r.jacks
          (All-weaker (HasGiven most) (λ j. HasGiven (most + 256) (after_one clock j)) (one_frame_adds most clock) r.jacks is.frames);
    }

ticks_add : (count clock most limit : ℕ) (r : RunningWorld) → most + count * 256 ≤ limit → HasCounted most r
    → HasCounted limit (tick_times count clock r).world
unfolding tick_times
ticks_add zero clock most limit r few is = within most limit (omega arith) r is
ticks_add (suc count) clock most limit r few is =
    ticks_add count clock (most + 256) limit (tick clock r).world (omega arith) (tick_adds clock most r is)

-- ---- clocks

-- one microframe of a clock in range
next_few_of : (w : DeviceWorld) (d : Domain) → IsDeviationInRange d.deviation → ticks_in (steps_with_next w d) ≤ 27
unfolding next_ticks step_in
next_few_of w d range =
    by (d.id == d.id) (own_number d.id)
    (next_few (record w { domains = d ∷ [] }) d.id (All-cons (λ (e : Domain). IsDeviationInRange e.deviation) d [] range (All-nil (λ (e : Domain). IsDeviationInRange e.deviation))))
  where
    by : (b : Bool) → b ≡ true
        → option_map_or (λ e. ticks_in (steps_with_next w e)) (cond b (Some d) (find (λ (e : Domain). e.id == d.id) [])) 0 ≤ 27
        → ticks_in (steps_with_next w d) ≤ 27
    by true is few = few
    by false is few = absurd (cc)

steps_add : (steps : List ℕ) (step most : ℕ) → ticks_in (steps ++ step ∷ []) ≤ 27 → sum steps / 65536 ≤ most
    → sum (steps ++ step ∷ []) / 65536 ≤ most + 27
steps_add steps step most few before =
    let short : length (steps ++ step ∷ []) - 1 ≡ length steps = omega (arith, length-append steps (step ∷ [])) in
    let front = ap sum (take_at steps (step ∷ []) (length (steps ++ step ∷ []) - 1) (sym short)) in
    omega (arith, front, few, before)

goes_on_adds : (most clock : ℕ) (w : DeviceWorld) (d : Domain) → IsTimed most d
    → IsTimed (most + 27) (if d.id == clock then record d { steps = steps_with_next w d } else d)
goes_on_adds most clock w d is = by (d.id == clock)
  where
    by : (b : Bool) → IsTimed (most + 27) (if b then record d { steps = steps_with_next w d } else d)
    by true = record { ticks = steps_add d.steps (step_in w d) most (next_few_of w d is.range) is.ticks; range = is.range }
    by false = timed_within most (most + 27) (omega arith) d is

advanced_adds : (clock most : ℕ) (r : RunningWorld) → HasCounted most r → HasCounted (most + 27) (record r { device = after_advance clock r.device })
unfolding after_advance
advanced_adds clock most r is = record {
  streams = record {
    domains = is.streams.domains;
    entities = is.streams.entities;
    clocks = All-map (IsTimed (most + 27)) (λ (d : Domain). if d.id == clock then record d { steps = steps_with_next r.device d } else d) r.device.domains
        (All-weaker (IsTimed most) (λ (d : Domain). IsTimed (most + 27) (if d.id == clock then record d { steps = steps_with_next r.device d } else d))
        (goes_on_adds most clock r.device) r.device.domains is.streams.clocks);
    met = λ k. met_within most (most + 27) (omega arith) (r.met k) (is.streams.met k);
  };
  time = omega (arith, is.time);
  renders = omega (arith, is.renders);
  frames = all_given_within most (most + 27) (omega arith) r.jacks is.frames;
}

-- a domain's part: its clock goes on, and at most 27 ticks
domain_adds : (clock most : ℕ) (r : RunningWorld) → HasCounted most r → HasCounted (most + 6939) (domain_microframe clock r).world
unfolding domain_microframe
domain_adds clock most r is =
    let ranges = All-weaker (IsTimed most) (λ (d : Domain). IsDeviationInRange d.deviation) (λ d timed. timed.range) r.device.domains is.streams.clocks in
    ticks_add (next_ticks clock r.device) clock (most + 27) (most + 6939) (record r { device = after_advance clock r.device })
    (omega (arith, next_few r.device clock ranges)) (advanced_adds clock most r is)

domains_add : (clocks : List ℕ) (most limit : ℕ) (r : RunningWorld) → most + length clocks * 6939 ≤ limit → HasCounted most r
    → HasCounted limit (domain_microframes clocks r).world
unfolding domain_microframes
domains_add [] most limit r few is = within most limit (omega arith) r is
domains_add (clock ∷ clocks) most limit r few is =
    domains_add clocks (most + 6939) limit (domain_microframe clock r).world (omega arith) (domain_adds clock most r is)

-- ---- microframes

streamed : (most limit : ℕ) → most ≤ limit → (r : RunningWorld) (w : StreamingWorld) → HasCounted most r → HaveCounted limit w
    → HasCounted limit (with_streaming r w)
streamed most limit more r w is counted = record {
  streams = counted;
  time = omega (arith, is.time, more);
  renders = omega (arith, is.renders, more);
  frames = all_given_within most limit more r.jacks is.frames;
}

before_the_end_adds : (marks : List PhraseMark) (most : ℕ) (r : RunningWorld) → HasCounted most r
    → HasCounted (most + 56024) (packets_and_ticks marks r).world
unfolding packets_and_ticks
before_the_end_adds marks most r is =
    let sends = with_streaming r (out_packets r.detail marks (streaming_of r)).world in
    let fetches = with_streaming sends (in_packets r.detail marks (streaming_of sends)).world in
    let after_out : HasCounted (most + 256) sends =
    streamed most (most + 256) (omega arith) r (out_packets r.detail marks (streaming_of r)).world is
    (all_out_add r.detail marks most (streaming_of r) is.streams) in
    let after_in : HasCounted (most + 512) fetches =
    streamed (most + 256) (most + 512) (omega arith) sends (in_packets r.detail marks (streaming_of sends)).world after_out
    (streams_within (most + 256 + 256) (most + 512) (omega arith) (in_packets r.detail marks (streaming_of sends)).world
    (all_in_add r.detail marks (most + 256) (streaming_of sends) after_out.streams)) in
    domains_add fetches.device.function.domains (most + 512) (most + 56024) fetches (omega (arith, after_in.streams.domains)) after_in

the_end_adds : (marks : List PhraseMark) (most : ℕ) (r : RunningWorld) → HasCounted most r
    → HasCounted (most + 512) (ends_and_feedback marks r).world
unfolding ends_and_feedback
the_end_adds marks most r is =
    let ends = with_streaming r (all_ends r.detail (streaming_of r)).world in
    let after_ends : HasCounted (most + 256) ends =
    streamed most (most + 256) (omega arith) r (all_ends r.detail (streaming_of r)).world is
    (all_ends_add r.detail marks most (streaming_of r) is.streams) in
    streamed (most + 256) (most + 512) (omega arith) ends (all_feedback r.detail marks (streaming_of ends)).world after_ends
    (streams_within (most + 256 + 256) (most + 512) (omega arith) (all_feedback r.detail marks (streaming_of ends)).world
    (all_feedback_add r.detail marks (most + 256) (streaming_of ends) after_ends.streams))

pub microframe_adds : (marks : List PhraseMark) (most : ℕ) (r : RunningWorld) → HasCounted most r
    → HasCounted (most + 65536) (microframe marks r).world
unfolding microframe
microframe_adds marks most r is =
    let numbered : RunningWorld = record r { time = at_most_u64 (r.time + 1) } in
    let begun : HasCounted (most + 1) numbered = record {
      streams = streams_within most (most + 1) (omega arith) (streaming_of r) is.streams;
      time = one_adds r.time most is.time;
      renders = omega (arith, is.renders);
      frames = all_given_within most (most + 1) (omega arith) r.jacks is.frames;
    } in
    let ticking = (packets_and_ticks marks numbered).world in
    within (most + 1 + 56024 + 512) (most + 65536) (omega arith) (ends_and_feedback marks ticking).world
    (the_end_adds marks (most + 1 + 56024) ticking (before_the_end_adds marks (most + 1) numbered begun))

pub microframes_add : (marks : List PhraseMark) (count most limit : ℕ) (r : RunningWorld) → most + count * 65536 ≤ limit → HasCounted most r
    → HasCounted limit (microframes marks count r).world
unfolding microframes
microframes_add marks zero most limit r few is = within most limit (omega arith) r is
microframes_add marks (suc count) most limit r few is =
    microframes_add marks count (most + 65536) limit (microframe marks r).world (omega arith) (microframe_adds marks most r is)
