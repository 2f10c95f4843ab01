-- Where no printed line tells of a ring that was found empty or full, no count of such rings rises.
use Rattle.std.proofs.Common.{◌≡◌, ◌≢◌, ◌∙◌, sym, refl, ap, subst, ℕ, zero, suc, ◌==◌, ◌&&◌, nat_le, Bool, true, false, if◌then◌else◌, cond, List, [], ◌∷◌, ◌++◌, map, filter, Option, Some, None}
use Rattle.std.specs.List.{AllByRecursion, find}
use Rattle.std.specs.Option.{option_map_or}
use Rattle.std.proofs.lemmas.Bool.{eqb-true}
use Rattle.uac_entities.specs.declared.stream.StreamInterface.{StreamInterface}
use Rattle.uac_graph.specs.Meaning.{entity}
use Rattle.uac_topology.specs.Function.{interface_in}
use Rattle.uac_ring.specs.declared.arrival.Arrival.{Arrival}
use Rattle.uac_ring.specs.declared.arrival.Arrival.TheVariants as arrivals
use Rattle.uac_ring.specs.declared.counts.StreamCounts.{StreamCounts}
use Rattle.uac_ring.specs.Meeting.{after_arrival, one_lost, one_missed, one_over, one_under}
use Rattle.uac_flow.specs.FlowStreams.{is_dry, is_full}
use Rattle.uac_device.specs.DeviceWorld.{DeviceWorld, after_advance, arrival_in, feedback_in, next_ticks, after_tick}
use Rattle.uac_host.specs.HostCalls.{size_of}
use Rattle.uac_script.specs.Phrase.{PhraseMark}
use Rattle.uac_transcript.specs.Transcript.{Said, says_out, says_over, says_under}
use Rattle.uac_streaming.specs.Telling.{Telling, in_turn, without_event}
use Rattle.uac_streaming.specs.StreamingWorld.{StreamingWorld, all_feedback, all_ends, feedback_lines, fetched_lines, finds_empty, finds_full, found_counts, found_lines, in_packet_turn, in_packets, is_in_due, is_out_due, loses_in, loses_out, loses_feedback, numbers, out_packets, out_turn, over_lines, packet_fetched, packet_sent_out, packet_to, feedback_made, feedback_turn, sent_out_lines, end_turn}
use Rattle.uac_running.specs.ReportLines.{played_lines}
use Rattle.uac_running.specs.RunningWorld.{RunningWorld, streaming_of, with_streaming}
use Rattle.uac_running.specs.Events.{after_all_jacks, domain_microframe, domain_microframes, ends_and_feedback, microframe, microframes, number_said, packets_and_ticks, tick, tick_times}
use Rattle.uac_levels.proofs.RunningWorldLineLemmas.{numbered, ticked_on}
use Rattle.uac_promises.specs.ReportPromises.{HasMetNone}

-- ---- lines

-- what holds of lines one after the other holds of the former, and of the latter
pub former : {X : Type 0} (P : X → Type 0) (front back : List X) → AllByRecursion P (front ++ back) → AllByRecursion P front
former P [] back all = tt
former P (x ∷ front) back all = (all.0, former P front back all.1)

pub latter : {X : Type 0} (P : X → Type 0) (front back : List X) → AllByRecursion P (front ++ back) → AllByRecursion P back
latter P [] back all = all
latter P (x ∷ front) back all = latter P front back all.1

-- where no line of those that pass a test is there, the interface doesn't pass it
none_found : (k : ℕ) (line : ℕ → Said) (P : Said → Type 0) → (P (line k) → ⊥) → (test : ℕ → Bool) (ss : List StreamInterface) (s : StreamInterface)
    → find (λ s. s.number == k) ss ≡ Some s → AllByRecursion P (map (λ s. line s.number) (filter (λ s. test s.number) ss)) → test k ≡ false
none_found k line P not_there test [] s is none = absurd (cc)
none_found k line P not_there test (x ∷ xs) s is none =
    by (x.number == k) refl (test x.number) refl is none (none_found k line P not_there test xs s)
  where
    rest : List StreamInterface
    rest = filter (λ s. test s.number) xs

    by : (here : Bool) → (x.number == k) ≡ here → (passes : Bool) → test x.number ≡ passes
        → cond here (Some x) (find (λ s. s.number == k) xs) ≡ Some s
        → AllByRecursion P (map (λ s. line s.number) (cond passes (x ∷ rest) rest))
        → (find (λ s. s.number == k) xs ≡ Some s → AllByRecursion P (map (λ s. line s.number) rest) → test k ≡ false)
        → test k ≡ false
    by true same true passes found all later = absurd (not_there (subst (λ (n : ℕ). P (line n)) (eqb-true x.number k same) all.0))
    by true same false fails found all later = sym (ap test (eqb-true x.number k same)) ∙ fails
    by false other true passes found all later = later found all.1
    by false other false fails found all later = later found all

-- ---- one interface

module _ (k : ℕ) where
  abbrev pub NotMet : Said → Type 0
  NotMet said = (said ≢ says_under k) × (said ≢ says_over k)

  abbrev AreQuiet : List Said → Type 0
  AreQuiet lines = AllByRecursion NotMet lines

  abbrev MetNone : (ℕ → StreamCounts) → Type 0
  MetNone met = HasMetNone (met k)

  no_under : NotMet (says_under k) → ⊥
  no_under both = both.0 refl

  no_over : NotMet (says_over k) → ⊥
  no_over both = both.1 refl

  -- ---- rows

  turns_meet : (event : ℕ → StreamingWorld → Telling StreamingWorld)
      → ((n : ℕ) (w : StreamingWorld) → AreQuiet (event n w).lines → MetNone w.met → MetNone (event n w).world.met)
      → (ns : List ℕ) (w : StreamingWorld) → AreQuiet (in_turn event ns w).lines → MetNone w.met → MetNone (in_turn event ns w).world.met
  unfolding in_turn
  turns_meet event each [] w quiet none = none
  turns_meet event each (n ∷ ns) w quiet none =
      let next : StreamingWorld = (event n w).world in
      let rest : List Said = (in_turn event ns next).lines in
      turns_meet event each ns next (latter NotMet (event n w).lines rest quiet) (each n w (former NotMet (event n w).lines rest quiet) none)

  -- ---- one turn

  module _ (detail : ℕ) (marks : List PhraseMark) where
    arrived : (n : ℕ) (arrival : Arrival) → AreQuiet (over_lines n arrival) → (here : Bool) → (k == n) ≡ here → (c : StreamCounts) → HasMetNone c
        → HasMetNone (if here then after_arrival arrival c else c)
    arrived n arrival quiet false other c none = none
    arrived n arrivals.Taken quiet true same c none = none
    arrived n arrivals.Lost quiet true same c none = record { never_empty = none.never_empty; never_full = none.never_full }
    arrived n arrivals.Over quiet true same c none =
        absurd (no_over (subst (λ (m : ℕ). NotMet (says_over m)) (sym (eqb-true k n same)) quiet.0))

    out_meets : (n : ℕ) (w : StreamingWorld) → AreQuiet (out_turn detail marks n w).lines → MetNone w.met
        → MetNone (out_turn detail marks n w).world.met
    unfolding out_turn packet_sent_out
    out_meets n w quiet none = by (is_out_due w n) quiet
      where
        arrival : Arrival
        arrival = arrival_in w.device n (packet_to (loses_out marks n) n w)

        by : (b : Bool)
            → AreQuiet (if b then record { lines = sent_out_lines detail (loses_out marks n) n w; world = packet_sent_out (loses_out marks n) n w }
            else without_event w).lines
            → MetNone (if b then record { lines = sent_out_lines detail (loses_out marks n) n w; world = packet_sent_out (loses_out marks n) n w }
            else without_event w).world.met
        by true all =
            arrived n arrival
            (latter NotMet (if nat_le 2 detail then says_out n (size_of w.host n) arrival ∷ [] else []) (over_lines n arrival) all) (k == n) refl (w.met k) none
        by false all = none

    in_meets : (n : ℕ) (w : StreamingWorld) → AreQuiet (in_packet_turn detail marks n w).lines → MetNone w.met
        → MetNone (in_packet_turn detail marks n w).world.met
    unfolding in_packet_turn packet_fetched
    in_meets n w quiet none = by (is_in_due w n)
      where
        counted : (here lost : Bool) (c : StreamCounts) → HasMetNone c → HasMetNone (if here then (if lost then one_lost c else c) else c)
        counted false lost c is = is
        counted true true c is = record { never_empty = is.never_empty; never_full = is.never_full }
        counted true false c is = is

        by : (b : Bool)
            → MetNone (if b then record { lines = fetched_lines detail (loses_in marks n) n w; world = packet_fetched (loses_in marks n) n w }
            else without_event w).world.met
        by true = counted (k == n) (loses_in marks n) (w.met k) none
        by false = none

    ends_meet : (n : ℕ) (w : StreamingWorld) → AreQuiet (end_turn detail n w).lines → MetNone w.met → MetNone (end_turn detail n w).world.met
    unfolding end_turn
    ends_meet n w quiet none = none

    feedback_meets : (n : ℕ) (w : StreamingWorld) → AreQuiet (feedback_turn detail marks n w).lines → MetNone w.met
        → MetNone (feedback_turn detail marks n w).world.met
    unfolding feedback_turn feedback_made
    feedback_meets n w quiet none = by (feedback_in w.device n)
      where
        counted : (here lost : Bool) (c : StreamCounts) → HasMetNone c → HasMetNone (if here then (if lost then one_missed c else c) else c)
        counted false lost c is = is
        counted true true c is = record { never_empty = is.never_empty; never_full = is.never_full }
        counted true false c is = is

        by : (o : Option ℕ)
            → MetNone (option_map_or (λ value. record { lines = feedback_lines detail (loses_feedback marks n) value n; world = feedback_made (loses_feedback marks n) value n w })
            o (without_event w)).world.met
        by None = none
        by (Some value) = counted (k == n) (loses_feedback marks n) (w.met k) none

    pub all_out_meet : (w : StreamingWorld) → AreQuiet (out_packets detail marks w).lines → MetNone w.met → MetNone (out_packets detail marks w).world.met
    unfolding out_packets
    all_out_meet w = turns_meet (out_turn detail marks) out_meets (numbers w.device.function) w

    pub all_in_meet : (w : StreamingWorld) → AreQuiet (in_packets detail marks w).lines → MetNone w.met → MetNone (in_packets detail marks w).world.met
    unfolding in_packets
    all_in_meet w = turns_meet (in_packet_turn detail marks) in_meets (numbers w.device.function) w

    pub all_ends_meet : (w : StreamingWorld) → AreQuiet (all_ends detail w).lines → MetNone w.met → MetNone (all_ends detail w).world.met
    unfolding all_ends
    all_ends_meet w = turns_meet (end_turn detail) ends_meet (numbers w.device.function) w

    pub all_feedback_meets : (w : StreamingWorld) → AreQuiet (all_feedback detail marks w).lines → MetNone w.met
        → MetNone (all_feedback detail marks w).world.met
    unfolding all_feedback
    all_feedback_meets w = turns_meet (feedback_turn detail marks) feedback_meets (numbers w.device.function) w

  -- ---- ticks

  -- what a tick finds is of an interface that is there
  tick_finds : (c : ℕ) (w : DeviceWorld) → AreQuiet (found_lines c w) → (finds_empty c w k ≡ false) × (finds_full c w k ≡ false)
  unfolding found_lines
  tick_finds c w quiet = by (interface_in w.function k) refl
    where
      unders : List Said
      unders = map (λ s. says_under s.number) (filter (λ s. finds_empty c w s.number) w.function.streams)

      overs : List Said
      overs = map (λ s. says_over s.number) (filter (λ s. finds_full c w s.number) w.function.streams)

      at : Bool → Option StreamInterface → Bool
      at found o = option_map_or (λ s. (entity w.function.entities s.terminal).clock == c) o false && found

      by : (o : Option StreamInterface) → interface_in w.function k ≡ o → (finds_empty c w k ≡ false) × (finds_full c w k ≡ false)
      by None none = (ap (at (option_map_or is_dry (w.outs k) false)) none, ap (at (option_map_or is_full (w.ins k) false)) none)
      by (Some s) is = (
        none_found k says_under NotMet no_under (finds_empty c w) w.function.streams s is (former NotMet unders overs quiet),
        none_found k says_over NotMet no_over (finds_full c w) w.function.streams s is (latter NotMet unders overs quiet),
      )

  tick_meets : (c : ℕ) (r : RunningWorld) → AreQuiet (tick c r).lines → MetNone r.met → MetNone (tick c r).world.met
  unfolding tick found_counts
  tick_meets c r quiet none =
      let w : DeviceWorld = after_all_jacks c r in
      let played : List Said = if nat_le 1 r.detail then played_lines c (after_tick c w) else [] in
      let finds = tick_finds c w (former NotMet (found_lines c w) played quiet) in
      by (finds_empty c w k) finds.0 (finds_full c w k) finds.1
    where
      by : (empty : Bool) → empty ≡ false → (full : Bool) → full ≡ false
          → HasMetNone (let counts : StreamCounts = if empty then one_under (r.met k) else r.met k in if full then one_over counts else counts)
      by true is full _ = absurd (cc)
      by false _ true is = absurd (cc)
      by false _ false _ = none

  ticks_meet : (count c : ℕ) (r : RunningWorld) → AreQuiet (tick_times count c r).lines → MetNone r.met → MetNone (tick_times count c r).world.met
  unfolding tick_times
  ticks_meet zero c r quiet none = none
  ticks_meet (suc count) c r quiet none =
      let next : RunningWorld = (tick c r).world in
      let rest : List Said = (tick_times count c next).lines in
      ticks_meet count c next (latter NotMet (tick c r).lines rest quiet) (tick_meets c r (former NotMet (tick c r).lines rest quiet) none)

  domain_meets : (c : ℕ) (r : RunningWorld) → AreQuiet (domain_microframe c r).lines → MetNone r.met → MetNone (domain_microframe c r).world.met
  unfolding domain_microframe
  domain_meets c r = ticks_meet (next_ticks c r.device) c (record r { device = after_advance c r.device })

  domains_meet : (clocks : List ℕ) (r : RunningWorld) → AreQuiet (domain_microframes clocks r).lines → MetNone r.met
      → MetNone (domain_microframes clocks r).world.met
  unfolding domain_microframes
  domains_meet [] r quiet none = none
  domains_meet (c ∷ cs) r quiet none =
      let next : RunningWorld = (domain_microframe c r).world in
      let rest : List Said = (domain_microframes cs next).lines in
      domains_meet cs next (latter NotMet (domain_microframe c r).lines rest quiet)
      (domain_meets c r (former NotMet (domain_microframe c r).lines rest quiet) none)

  -- ---- a microframe

  before_the_end_meets : (marks : List PhraseMark) (r : RunningWorld) → AreQuiet (packets_and_ticks marks r).lines → MetNone r.met
      → MetNone (packets_and_ticks marks r).world.met
  unfolding packets_and_ticks
  before_the_end_meets marks r quiet none =
      let sent = with_streaming r (out_packets r.detail marks (streaming_of r)).world in
      let fetched = with_streaming sent (in_packets r.detail marks (streaming_of sent)).world in
      let outs : List Said = (out_packets r.detail marks (streaming_of r)).lines in
      let ins : List Said = (in_packets r.detail marks (streaming_of sent)).lines in
      let ticks : List Said = (domain_microframes fetched.device.function.domains fetched).lines in
      let later = latter NotMet outs (ins ++ ticks) quiet in
      domains_meet fetched.device.function.domains fetched (latter NotMet ins ticks later)
      (all_in_meet r.detail marks (streaming_of sent) (former NotMet ins ticks later)
      (all_out_meet r.detail marks (streaming_of r) (former NotMet outs (ins ++ ticks) quiet) none))

  the_end_meets : (marks : List PhraseMark) (r : RunningWorld) → AreQuiet (ends_and_feedback marks r).lines → MetNone r.met
      → MetNone (ends_and_feedback marks r).world.met
  unfolding ends_and_feedback
  the_end_meets marks r quiet none =
      let ended : StreamingWorld = (all_ends r.detail (streaming_of r)).world in
      let ends : List Said = (all_ends r.detail (streaming_of r)).lines in
      let reports : List Said = (all_feedback r.detail marks ended).lines in
      all_feedback_meets r.detail marks ended (latter NotMet ends reports quiet)
      (all_ends_meet r.detail marks (streaming_of r) (former NotMet ends reports quiet) none)

  microframe_meets : (marks : List PhraseMark) (r : RunningWorld) → AreQuiet (microframe marks r).lines → MetNone r.met
      → MetNone (microframe marks r).world.met
  unfolding microframe
  microframe_meets marks r quiet none =
      let v : RunningWorld = numbered r in
      let u : RunningWorld = ticked_on marks r in
      let both : List Said = (packets_and_ticks marks v).lines ++ (ends_and_feedback marks u).lines in
      let after_number = latter NotMet (number_said r.detail v.time) both quiet in
      the_end_meets marks u (latter NotMet (packets_and_ticks marks v).lines (ends_and_feedback marks u).lines after_number)
      (before_the_end_meets marks v (former NotMet (packets_and_ticks marks v).lines (ends_and_feedback marks u).lines after_number) none)

  pub microframes_meet : (marks : List PhraseMark) (count : ℕ) (r : RunningWorld) → AreQuiet (microframes marks count r).lines → MetNone r.met
      → MetNone (microframes marks count r).world.met
  unfolding microframes
  microframes_meet marks zero r quiet none = none
  microframes_meet marks (suc count) r quiet none =
      let next : RunningWorld = (microframe marks r).world in
      let rest : List Said = (microframes marks count next).lines in
      microframes_meet marks count next (latter NotMet (microframe marks r).lines rest quiet)
      (microframe_meets marks r (former NotMet (microframe marks r).lines rest quiet) none)
