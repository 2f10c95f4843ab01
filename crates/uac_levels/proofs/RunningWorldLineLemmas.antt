-- The lines of a microframe: what holds of every line but those that tell of rings found empty or full, and of levels, which are premises.
use Rattle.std.proofs.Common.{arith, ◌≡◌, ◌∙◌, sym, refl, subst, ℕ, zero, suc, ◌+◌, ◌==◌, ◌&&◌, not, nat_le, nat_eq, Bool, true, false, if◌then◌else◌, cond, ℤ, List, [], ◌∷◌, map, filter, Option, Some, None, inl, inr}
use Rattle.std.specs.List.{All, AllByRecursion, IsDistinct}
use Rattle.std.specs.Option.{option_map_or}
use Rattle.std.proofs.lemmas.Bool.{cases_eq}
use Rattle.std.proofs.lemmas.List.Elements.{All-append, All-cons, All-nil}
use Rattle.std.proofs.lemmas.Map.Keys.{IsDistinct-head, IsDistinct-tail}
use Rattle.uac_entities.specs.declared.entity.Entity.{Entity}
use Rattle.uac_entities.specs.declared.stream.StreamInterface.{StreamInterface}
use Rattle.uac_ring.specs.declared.arrival.Arrival.{Arrival}
use Rattle.uac_ring.specs.declared.arrival.Arrival.TheVariants as arrivals
use Rattle.uac_device.specs.DeviceWorld.{DeviceWorld, arrival_in, feedback_in, frames_in, is_due_in, level_of, packet_in, after_end, target_of, after_tick}
use Rattle.uac_host.specs.HostCalls.{heard_in, size_of}
use Rattle.uac_script.specs.Phrase.{PhraseMark}
use Rattle.uac_transcript.specs.Transcript.{Said, says_feedback, says_frame, says_in, says_level, says_out, says_over, says_played, says_microframe, says_under}
use Rattle.uac_streaming.specs.Telling.{Telling, without_event, in_turn}
use Rattle.uac_streaming.specs.StreamingWorld.{StreamingWorld, all_feedback, all_ends, fetched_lines, finds_empty, finds_full, found_lines, goes_out, in_lines, in_packet_turn, in_packets, is_in_due, is_out_due, loses_in, loses_out, loses_feedback, numbers, out_lines, out_packets, out_turn, over_lines, packet_fetched, packet_sent_out, packet_to, feedback_lines, feedback_made, feedback_turn, sent_out_lines, end_turn}
use Rattle.uac_units.specs.Hearing.{at_most_u64}
use Rattle.uac_running.specs.RunningWorld.{RunningWorld, streaming_of, with_streaming}
use Rattle.uac_running.specs.Events.{all_domains, after_all_jacks, domain_microframe, domain_microframes, ends_and_feedback, followed_by, microframe, number_said, of_streams, packets_and_ticks, tick, tick_times}
use Rattle.uac_running.specs.ReportLines.{output_jacks, played_line, played_lines}

-- it holds of every line that a microframe says but those of rings found empty or full, and of levels
pub record IsQuiet (N : Said → Type 0) : Type 0 where
  pub microframe : (number : ℕ) → N (says_microframe number)
  pub out : (interface frames : ℕ) (arrival : Arrival) → N (says_out interface frames arrival)
  pub in_ : (interface frames : ℕ) (lost : Bool) → N (says_in interface frames lost)
  pub frame : (interface : ℕ) (samples : List ℤ) → N (says_frame interface samples)
  pub played : (terminal : ℕ) (samples : List ℤ) → N (says_played terminal samples)
  pub feedback : (interface value : ℕ) (lost : Bool) → N (says_feedback interface value lost)

-- ---- the worlds on the way through a microframe

abbrev pub numbered : RunningWorld → RunningWorld
numbered r = record r { time = at_most_u64 (r.time + 1) }

-- after its packets
abbrev pub fetched : List PhraseMark → RunningWorld → RunningWorld
fetched marks r =
    let sent = with_streaming (numbered r) (out_packets r.detail marks (streaming_of (numbered r))).world in
    with_streaming sent (in_packets r.detail marks (streaming_of sent)).world

-- and after its ticks
abbrev pub ticked_on : List PhraseMark → RunningWorld → RunningWorld
ticked_on marks r = (packets_and_ticks marks (numbered r)).world

-- ---- rows

pub turns_say : {W : Type 0} (N : Said → Type 0) (event : ℕ → W → Telling W) → ((n : ℕ) (w : W) → All N (event n w).lines)
    → (ns : List ℕ) (w : W) → All N (in_turn event ns w).lines
unfolding in_turn
turns_say N event says [] w = All-nil N
turns_say N event says (n ∷ ns) w =
    All-append N (event n w).lines (in_turn event ns (event n w).world).lines (says n w) (turns_say N event says ns (event n w).world)

-- where it depends on the world at one number alone
module _ {W : Type 0} (N : Said → Type 0) (event : ℕ → W → Telling W) (k : ℕ)
    (others : (n : ℕ) (w : W) → (k == n) ≡ false → All N (event n w).lines) where
  turns_apart : (ns : List ℕ) (w : W) → AllByRecursion (λ n. nat_eq k n ≡ false) ns → All N (in_turn event ns w).lines
  unfolding in_turn
  turns_apart [] w apart = All-nil N
  turns_apart (n ∷ ns) w apart =
      All-append N (event n w).lines (in_turn event ns (event n w).world).lines (others n w apart.0)
      (turns_apart ns (event n w).world apart.1)

  pub turns_once_say : (P : W → Type 0) → ((n : ℕ) (w : W) → (k == n) ≡ false → P w → P (event n w).world)
      → ((w : W) → P w → All N (event k w).lines) → (ns : List ℕ) (w : W) → IsDistinct nat_eq ns → P w → All N (in_turn event ns w).lines
  unfolding in_turn
  turns_once_say P keeps here [] w once is = All-nil N
  turns_once_say P keeps here (n ∷ ns) w once is =
      All-append N (event n w).lines (in_turn event ns (event n w).world).lines (first (k == n) refl)
      (rest (k == n) refl (λ other. turns_once_say P keeps here ns (event n w).world (IsDistinct-tail nat_eq n ns once) (keeps n w other is)))
    where
      same_number : (b : Bool) → (k == n) ≡ b → b ≡ true → k ≡ n
      same_number b test is_it = elim (cases_eq k n) [
        | inl same ↦ same
        | inr other ↦ absurd (differ k n other (test ∙ is_it))
      ]
        where
          differ : (i j : ℕ) → (i ≡ j → ⊥) → (i == j) ≡ true → ⊥
          differ i j other same = grind arith

      first : (b : Bool) → (k == n) ≡ b → All N (event n w).lines
      first true same = subst (λ (m : ℕ). All N (event m w).lines) (same_number true same refl) (here w is)
      first false other = others n w other

      rest : (b : Bool) → (k == n) ≡ b → ((k == n) ≡ false → All N (in_turn event ns (event n w).world).lines)
          → All N (in_turn event ns (event n w).world).lines
      rest true same later =
          turns_apart ns (event n w).world
          (subst (λ (m : ℕ). AllByRecursion (λ y. nat_eq m y ≡ false) ns) (sym (same_number true same refl)) (IsDistinct-head nat_eq n ns once))
      rest false other later = later other

-- a line for each interface that passes a test
pub each_says : (N : Said → Type 0) (line : ℕ → Said) (test : ℕ → Bool) → ((n : ℕ) → test n ≡ true → N (line n)) → (ss : List StreamInterface)
    → All N (map (λ s. line s.number) (filter (λ s. test s.number) ss))
each_says N line test says [] = All-nil N
each_says N line test says (s ∷ ss) = by (test s.number) refl (each_says N line test says ss)
  where
    by : (b : Bool) → test s.number ≡ b → All N (map (λ x. line x.number) (filter (λ x. test x.number) ss))
        → All N (map (λ x. line x.number) (cond b (s ∷ filter (λ x. test x.number) ss) (filter (λ x. test x.number) ss)))
    by true passes rest =
        All-cons N (line s.number) (map (λ x. line x.number) (filter (λ x. test x.number) ss)) (says s.number passes) rest
    by false fails rest = rest

-- ---- quiet lines

module _ (N : Said → Type 0) (quiet : IsQuiet N) where
  pub maybe_one : (b : Bool) (said : Said) → N said → All N (if b then said ∷ [] else [])
  maybe_one true said is = All-cons N said [] is (All-nil N)
  maybe_one false said is = All-nil N

  number_quiet : (detail time : ℕ) → All N (number_said detail time)
  number_quiet detail time = maybe_one (nat_le 2 detail) (says_microframe time) (quiet.microframe time)

  -- ---- packets

  out_quiet : (detail interface frames : ℕ) (arrival : Arrival) → All N (over_lines interface arrival)
      → All N (out_lines detail interface frames arrival)
  out_quiet detail interface frames arrival overs =
      All-append N (if nat_le 2 detail then says_out interface frames arrival ∷ [] else []) (over_lines interface arrival)
      (maybe_one (nat_le 2 detail) (says_out interface frames arrival) (quiet.out interface frames arrival)) overs

  pub out_turn_says : (detail : ℕ) (marks : List PhraseMark) (n : ℕ) (w : StreamingWorld)
      → (is_out_due w n ≡ true → All N (over_lines n (arrival_in w.device n (packet_to (loses_out marks n) n w))))
      → All N (out_turn detail marks n w).lines
  unfolding out_turn
  out_turn_says detail marks n w overs = by (is_out_due w n) overs
    where
      arrival : Arrival
      arrival = arrival_in w.device n (packet_to (loses_out marks n) n w)

      by : (b : Bool) → (b ≡ true → All N (over_lines n arrival))
          → All N (if b then record { lines = sent_out_lines detail (loses_out marks n) n w; world = packet_sent_out (loses_out marks n) n w }
          else without_event w).lines
      by true here = out_quiet detail n (size_of w.host n) arrival (here refl)
      by false here = All-nil N

  -- where it holds of those of rings that are full, too
  pub outs_say : ((interface : ℕ) → N (says_over interface)) → (detail : ℕ) (marks : List PhraseMark) (w : StreamingWorld)
      → All N (out_packets detail marks w).lines
  unfolding out_packets
  outs_say over detail marks w =
      turns_say N (out_turn detail marks) (λ n v.
      out_turn_says detail marks n v (λ due. overs n (arrival_in v.device n (packet_to (loses_out marks n) n v))))
      (numbers w.device.function) w
    where
      overs : (interface : ℕ) (arrival : Arrival) → All N (over_lines interface arrival)
      overs interface arrivals.Taken = All-nil N
      overs interface arrivals.Lost = All-nil N
      overs interface arrivals.Over = All-cons N (says_over interface) [] (over interface) (All-nil N)

  frames_quiet : (interface : ℕ) (heard : List (List ℤ)) → All N (map (says_frame interface) heard)
  frames_quiet interface [] = All-nil N
  frames_quiet interface (frame ∷ frames) =
      All-cons N (says_frame interface frame) (map (says_frame interface) frames) (quiet.frame interface frame) (frames_quiet interface frames)

  in_quiet : (detail : ℕ) (lost : Bool) (interface frames : ℕ) (heard : List (List ℤ)) → All N (in_lines detail lost interface frames heard)
  in_quiet detail lost interface frames heard =
      All-append N (if nat_le 2 detail then says_in interface frames lost ∷ [] else [])
      (if nat_le 1 detail && not lost then map (says_frame interface) heard else [])
      (maybe_one (nat_le 2 detail) (says_in interface frames lost) (quiet.in_ interface frames lost))
      (by (nat_le 1 detail && not lost))
    where
      by : (b : Bool) → All N (if b then map (says_frame interface) heard else [])
      by true = frames_quiet interface heard
      by false = All-nil N

  in_turn_quiet : (detail : ℕ) (marks : List PhraseMark) (n : ℕ) (w : StreamingWorld) → All N (in_packet_turn detail marks n w).lines
  unfolding in_packet_turn
  in_turn_quiet detail marks n w = by (is_in_due w n)
    where
      by : (b : Bool)
          → All N (if b then record { lines = fetched_lines detail (loses_in marks n) n w; world = packet_fetched (loses_in marks n) n w }
          else without_event w).lines
      by true = in_quiet detail (loses_in marks n) n (frames_in w.device n) (heard_in w.host n (packet_in w.device n))
      by false = All-nil N

  -- ---- ends and reports

  -- where it holds of levels, too
  pub ends_say : ((interface level : ℕ) (target : Option ℕ) → N (says_level interface level target)) → (detail : ℕ) (w : StreamingWorld)
      → All N (all_ends detail w).lines
  unfolding all_ends end_turn
  ends_say level detail w = turns_say N (end_turn detail) (λ n v.
      maybe_one (nat_le 2 detail && (goes_out v.device.function n && is_due_in v.device n))
      (says_level n (level_of (after_end n v.device) n) (target_of (after_end n v.device) n))
      (level n (level_of (after_end n v.device) n) (target_of (after_end n v.device) n))) (numbers w.device.function) w

  feedback_turn_quiet : (detail : ℕ) (marks : List PhraseMark) (n : ℕ) (w : StreamingWorld) → All N (feedback_turn detail marks n w).lines
  unfolding feedback_turn
  feedback_turn_quiet detail marks n w = by (feedback_in w.device n)
    where
      by : (o : Option ℕ)
          → All N (option_map_or (λ value. record { lines = feedback_lines detail (loses_feedback marks n) value n; world = feedback_made (loses_feedback marks n) value n w })
          o (without_event w)).lines
      by None = All-nil N
      by (Some value) = maybe_one (nat_le 2 detail) (says_feedback n value (loses_feedback marks n)) (quiet.feedback n value (loses_feedback marks n))

  all_in_quiet : (detail : ℕ) (marks : List PhraseMark) (w : StreamingWorld) → All N (in_packets detail marks w).lines
  unfolding in_packets
  all_in_quiet detail marks w = turns_say N (in_packet_turn detail marks) (in_turn_quiet detail marks) (numbers w.device.function) w

  all_feedback_quiet : (detail : ℕ) (marks : List PhraseMark) (w : StreamingWorld) → All N (all_feedback detail marks w).lines
  unfolding all_feedback
  all_feedback_quiet detail marks w = turns_say N (feedback_turn detail marks) (feedback_turn_quiet detail marks) (numbers w.device.function) w

  -- ---- a tick

  jacks_quiet : (w : DeviceWorld) (es : List Entity) → All N (map (played_line w) es)
  jacks_quiet w [] = All-nil N
  jacks_quiet w (e ∷ es) = All-cons N (played_line w e) (map (played_line w) es) (quiet.played e.id (w.played e.id)) (jacks_quiet w es)

  pub tick_says : (c : ℕ) (r : RunningWorld)
      → ((ss : List StreamInterface) → All N (map (λ s. says_under s.number) (filter (λ s. finds_empty c (after_all_jacks c r) s.number) ss)))
      → ((ss : List StreamInterface) → All N (map (λ s. says_over s.number) (filter (λ s. finds_full c (after_all_jacks c r) s.number) ss)))
      → All N (tick c r).lines
  unfolding tick found_lines played_lines
  tick_says c r unders overs =
      let w : DeviceWorld = after_all_jacks c r in
      let device : DeviceWorld = after_tick c w in
      All-append N (found_lines c w) (if nat_le 1 r.detail then played_lines c device else [])
      (All-append N (map (λ s. says_under s.number) (filter (λ s. finds_empty c w s.number) w.function.streams))
      (map (λ s. says_over s.number) (filter (λ s. finds_full c w s.number) w.function.streams)) (unders w.function.streams)
      (overs w.function.streams))
      (by (nat_le 1 r.detail) device)
    where
      by : (b : Bool) (device : DeviceWorld) → All N (if b then played_lines c device else [])
      by true device = jacks_quiet device (output_jacks c device)
      by false device = All-nil N

  -- ---- ticks where each is quiet

  -- what a tick leaves so, and by which it is quiet
  module _ (P : RunningWorld → Type 0) (c : ℕ) (says : (r : RunningWorld) → P r → All N (tick c r).lines)
      (keeps : (r : RunningWorld) → P r → P (tick c r).world) where
    pub ticks_say : (count : ℕ) (r : RunningWorld) → P r → All N (tick_times count c r).lines
    unfolding tick_times
    ticks_say zero r is = All-nil N
    ticks_say (suc count) r is =
        All-append N (tick c r).lines (tick_times count c (tick c r).world).lines (says r is) (ticks_say count (tick c r).world (keeps r is))

  module _ (P : RunningWorld → Type 0) (says : (c : ℕ) (r : RunningWorld) → P r → All N (domain_microframe c r).lines)
      (keeps : (c : ℕ) (r : RunningWorld) → P r → P (domain_microframe c r).world) where
    pub domains_say : (clocks : List ℕ) (r : RunningWorld) → P r → All N (domain_microframes clocks r).lines
    unfolding domain_microframes
    domains_say [] r is = All-nil N
    domains_say (c ∷ cs) r is =
        All-append N (domain_microframe c r).lines (domain_microframes cs (domain_microframe c r).world).lines (says c r is)
        (domains_say cs (domain_microframe c r).world (keeps c r is))

  -- ---- a microframe

  -- all its lines, by those of its packets to the device, of its ticks and of its end
  pub microframe_says : (marks : List PhraseMark) (r : RunningWorld) → All N (out_packets r.detail marks (streaming_of (numbered r))).lines
      → All N (domain_microframes (fetched marks r).device.function.domains (fetched marks r)).lines
      → All N (all_ends (ticked_on marks r).detail (streaming_of (ticked_on marks r))).lines → All N (microframe marks r).lines
  unfolding microframe packets_and_ticks ends_and_feedback
  microframe_says marks r outs ticks ends =
      let v : RunningWorld = numbered r in
      let sent = with_streaming v (out_packets v.detail marks (streaming_of v)).world in
      let u : RunningWorld = ticked_on marks r in
      let ended = (all_ends u.detail (streaming_of u)).world in
      All-append N (number_said r.detail (at_most_u64 (r.time + 1))) (followed_by (packets_and_ticks marks) (ends_and_feedback marks) v).lines
      (number_quiet r.detail (at_most_u64 (r.time + 1)))
      (All-append N (packets_and_ticks marks v).lines (ends_and_feedback marks u).lines
      (All-append N (out_packets v.detail marks (streaming_of v)).lines
      (followed_by (of_streams (in_packets v.detail marks)) all_domains sent).lines outs
      (All-append N (in_packets v.detail marks (streaming_of sent)).lines
      (domain_microframes (fetched marks r).device.function.domains (fetched marks r)).lines
      (all_in_quiet v.detail marks (streaming_of sent)) ticks))
      (All-append N (all_ends u.detail (streaming_of u)).lines (all_feedback u.detail marks ended).lines ends
      (all_feedback_quiet u.detail marks ended)))
