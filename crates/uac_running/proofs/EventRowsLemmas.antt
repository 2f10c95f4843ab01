-- Several ticks of a domain of a running device at once, and what is said of them.
use Rattle.std.proofs.Common.{◌≡◌, ◌∙◌, sym, refl, ap, subst, arith, ℕ, zero, suc, ◌+◌, ◌*◌, ◌<◌, ◌≤◌, ◌==◌, nat_le, Bool, true, false, if◌then◌else◌, List, [], ◌∷◌, ◌++◌, map, Option, Result, Some, None, inl, inr}
use Rattle.std.specs.List.{find}
use Rattle.std.proofs.Math.Path.{fun_ext}
use Rattle.std.proofs.lemmas.Bool.{cases_Bool, eqb-true, le-leb, true≢false}
use Rattle.uac_entities.specs.declared.stream.StreamInterface.{StreamInterface}
use Rattle.uac_topology.specs.Function.{FunctionFields, interface_in}
use Rattle.uac_graph.specs.Meaning.{entity}
use Rattle.uac_graph.specs.Needs.{is_end}
use Rattle.uac_ring.specs.declared.counts.StreamCounts.{StreamCounts}
use Rattle.uac_units.specs.Hearing.{Reading, at_most_u64}
use Rattle.uac_device.specs.DeviceKept as device
use Rattle.uac_device.specs.declared.jacks.Jack.{Jack}
use Rattle.uac_device.specs.declared.ticking.Ticked.{Ticked}
use Rattle.uac_device.specs.InterfaceStreams.{set_of_streams}
use Rattle.uac_device.specs.DeviceWorld.{DeviceWorld, entity_in, met_of, renders_of}
use Rattle.uac_device.specs.DeviceTicks.{HoldPlayed, Tones, after_tick_times, played_after, readings_after, world_after}
use Rattle.uac_device.specs.Jacks.{jack_after, tones_of}
use Rattle.uac_device.proofs.DeviceTicksLemmas.{world_by_parts}
use Rattle.uac_transcript.specs.Transcript.{Said}
use Rattle.uac_edges.specs.Writing.{AppendsFront}
use Rattle.uac_transcript.specs.Printing.{Prints, text_of}
use Rattle.uac_transcript.proofs.PrintingLemmas.{front_of_more}
use Rattle.uac_streaming.specs.StreamingKept as streaming
use Rattle.uac_streaming.specs.StreamingWorld.{finds_empty, finds_full, found_counts, found_lines, one_over, one_under}
use Rattle.uac_streaming.specs.Telling.{Telling}
use Rattle.uac_streaming.proofs.FoundRingsLemmas.{found_none}
use Rattle.uac_running.specs.RunningWorld.{RunningWorld, streaming_of}
use Rattle.uac_running.specs.ReportLines.{Shows, played_lines}
use Rattle.uac_running.specs.RunningKept.{HasItsJacks, RunningFields, RunningStands, RunningTells}
use Rattle.uac_running.specs.TickCounts.{tick_count_of}
use Rattle.uac_running.specs.Events.{tick_times}
use Rattle.uac_running.specs.EventTicks.{device_after, device_before, jacks_after, lines_after, lines_at, met_after, running_after, shown_after, shown_from}
use Rattle.uac_running.proofs.EventsLemmas.{IsBeside, stands_beside}
use Rattle.uac_running.proofs.EventTicksLemmas.{jacks_each, renders_some, ticks_by_parts}
use Rattle.uac_running.proofs.RunningKeptJackLemmas.{kept_after, kept_jacks}
use Rattle.uac_running.proofs.TellingLemmas.{at_ok}

-- ---- nothing is met

-- where no bit is set, the test of each interface that there is fails
head_none : (b : Bool) (n : ℕ) → (if b then 1 else 0) + 2 * n ≡ 0 → b ≡ false
head_none true n e = absurd (omega (arith, e))
head_none false n e = refl

tail_none : (a n : ℕ) → a + 2 * n ≡ 0 → n ≡ 0
tail_none a n e = omega (arith, e)

none_at : (test : ℕ → Bool) (streams : List StreamInterface) (k : ℕ) (s : StreamInterface) → set_of_streams (map (λ s. test s.number) streams) ≡ 0
    → find (λ s. s.number == k) streams ≡ Some s → test k ≡ false
unfolding set_of_streams
none_at test [] k s none there = absurd (cc)
none_at test (x ∷ xs) k s none there =
    elim (cases_Bool (x.number == k)) [
      | inl here ↦ ap test (sym (eqb-true x.number k here)) ∙ head_none (test x.number) (set_of_streams (map (λ (s : StreamInterface). test s.number) xs)) none
      | inr other ↦ (let rest = rw other at there in
          none_at test xs k s (tail_none (if test x.number then 1 else 0) (set_of_streams (map (λ (s : StreamInterface). test s.number) xs)) none) rest)
    ]

abbrev nothing : Ticked
nothing = record { under = 0; over = 0 }

found_same : (empty full : Bool) (c : StreamCounts) → empty ≡ false → full ≡ false
    → (if full then one_over (if empty then one_under c else c) else (if empty then one_under c else c)) ≡ c
found_same false false c e f = refl
found_same true full c e f = absurd (true≢false e)
found_same false true c e f = absurd (true≢false f)

module _ (domain : ℕ) (w : DeviceWorld) (none : met_of domain w ≡ nothing) where
  no_empty : (k : ℕ) (s : Option StreamInterface) → interface_in w.function k ≡ s → finds_empty domain w k ≡ false
  unfolding met_of
  no_empty k None nowhere = rw nowhere refl
  no_empty k (Some s) there = none_at (finds_empty domain w) w.function.streams k s (ap (λ (t : Ticked). t.under) none) there

  no_full : (k : ℕ) (s : Option StreamInterface) → interface_in w.function k ≡ s → finds_full domain w k ≡ false
  unfolding met_of
  no_full k None nowhere = rw nowhere refl
  no_full k (Some s) there = none_at (finds_full domain w) w.function.streams k s (ap (λ (t : Ticked). t.over) none) there

  nothing_counted : (met : ℕ → StreamCounts) → found_counts domain w met ≡ met
  unfolding found_counts
  nothing_counted met =
      fun_ext (λ k.
      found_same (finds_empty domain w k) (finds_full domain w k) (met k) (no_empty k (interface_in w.function k) refl) (no_full k (interface_in w.function k) refl))

  nothing_said : found_lines domain w ≡ []
  nothing_said = sym (found_none domain w w.function.streams nothing refl (sym none) refl refl)

pub met_nothing : (domain n : ℕ) (r : RunningWorld) → ((t : ℕ) → t < n → met_of domain (device_before domain t r) ≡ nothing) → met_after domain n r ≡ r.met
unfolding met_after
met_nothing domain zero r none = refl
met_nothing domain (suc t) r none =
    nothing_counted domain (device_before domain t r) (none t (omega arith)) (met_after domain t r)
    ∙ met_nothing domain t r (λ u less. none u (omega (arith, less)))

pub lines_shown : (domain n : ℕ) (r : RunningWorld) → ((t : ℕ) → t < n → met_of domain (device_before domain t r) ≡ nothing)
    → lines_after domain n r ≡ shown_after domain n r
unfolding lines_after lines_at shown_from
lines_shown domain zero r none = refl
lines_shown domain (suc t) r none =
    let played : ℕ → List Said = λ k. if nat_le 1 r.detail then played_lines domain (device_after domain (suc k) r) else [] in
    let first : t ≡ 0 + t = omega arith in
    ap (λ (lines : List Said). lines ++ lines_at domain t r) (lines_shown domain t r (λ u less. none u (omega (arith, less))))
    ∙ ap (λ (found : List Said). shown_after domain t r ++ (found ++ played t)) (nothing_said domain (device_before domain t r) (none t (omega arith)))
    ∙ ap (λ (k : ℕ). shown_after domain t r ++ played k) first

-- at detail 0 nothing is shown
pub none_shown : (domain from n : ℕ) (r : RunningWorld) → r.detail ≡ 0 → shown_from domain from n r ≡ []
unfolding shown_from
none_shown domain from zero r quiet = refl
none_shown domain from (suc t) r quiet =
    ap (λ (lines : List Said). lines ++ (if nat_le 1 r.detail then played_lines domain (device_after domain (suc (from + t)) r) else []))
    (none_shown domain from t r quiet)
    ∙ ap (λ (n : ℕ). if nat_le 1 n then played_lines domain (device_after domain (suc (from + t)) r) else []) quiet

pub lines_nothing : (domain n : ℕ) (r : RunningWorld) → ((t : ℕ) → t < n → met_of domain (device_before domain t r) ≡ nothing) → r.detail ≡ 0
    → lines_after domain n r ≡ []
lines_nothing domain n r none quiet = lines_shown domain n r none ∙ none_shown domain 0 n r quiet

-- from detail 1 on something is
pub is_told : (own detail : ℕ) → (own ≡ 0 → ⊥) → own ≡ detail → nat_le 1 detail ≡ true
is_told own detail some same = le-leb 1 detail (some_at own detail some same)
  where
    some_at : (n m : ℕ) → (n ≡ 0 → ⊥) → n ≡ m → 1 ≤ m
    some_at zero m more is = absurd (more refl)
    some_at (suc n) m more is = omega (arith, is)

-- and then one tick more says what it played
pub shown_more : (domain from t n : ℕ) (r : RunningWorld) → nat_le 1 r.detail ≡ true → n ≡ from + t + 1
    → shown_from domain from (t + 1) r ≡ shown_from domain from t r ++ played_lines domain (device_after domain n r)
unfolding shown_from
shown_more domain from t n r told more =
    let next : suc (from + t) ≡ n = omega (arith, more) in
    let last : t + 1 ≡ suc t = omega arith in
    ap (λ (k : ℕ). shown_from domain from k r) last
    ∙ ap (λ (b : Bool). shown_from domain from t r ++ (if b then played_lines domain (device_after domain (suc (from + t)) r) else [])) told
    ∙ ap (λ (k : ℕ). shown_from domain from t r ++ played_lines domain (device_after domain k r)) next

-- a front of the lines of a few ticks is one of those of more
pub front_shown : (domain from t more n : ℕ) (r : RunningWorld) (old new : Option (List ℕ)) → n ≡ more + t
    → AppendsFront old new (text_of (shown_from domain from t r)) → AppendsFront old new (text_of (shown_from domain from n r))
unfolding shown_from
front_shown domain from t zero n r old new is front =
    let same : t ≡ n = omega (arith, is) in
    subst (λ (k : ℕ). AppendsFront old new (text_of (shown_from domain from k r))) same front
front_shown domain from t (suc more) n r old new is front =
    let next : suc (more + t) ≡ n = omega (arith, is) in
    let last : List Said = if nat_le 1 r.detail then played_lines domain (device_after domain (suc (from + (more + t))) r) else [] in
    subst (λ (k : ℕ). AppendsFront old new (text_of (shown_from domain from k r))) next
    (front_of_more old new (shown_from domain from (more + t) r) last (front_shown domain from t more (more + t) r old new refl front))

-- ---- the jacks

kept_many : (P : ℕ → ℕ → Type 0) (domain t : ℕ) (j : Jack) → P j.terminal j.channels → P (jack_after domain t j).terminal (jack_after domain t j).channels
unfolding jack_after
kept_many P domain zero j holds = holds
kept_many P domain (suc t) j holds = kept_after P domain (jack_after domain t j) (kept_many P domain t j holds)

pub jacks_many : (domain t : ℕ) (p q : RunningFields) → q.device.function ≡ p.device.function → q.jacks ≡ jacks_after domain t p.jacks → HasItsJacks p → HasItsJacks q
jacks_many domain t p q function is =
    kept_jacks (jack_after domain t) p q (λ P j holds. kept_many P domain t j holds) function (is ∙ jacks_each domain t p.jacks)

-- ---- the world

pub ticked_function : (domain : ℕ) (tones : Tones) (t : ℕ) (w : DeviceWorld) → (after_tick_times domain tones t w).function ≡ w.function
unfolding world_after
ticked_function domain tones t w = ap (λ (v : DeviceWorld). v.function) (world_by_parts domain tones t w)

ticked_domains : (domain : ℕ) (tones : Tones) (t : ℕ) (w : DeviceWorld) → (after_tick_times domain tones t w).domains ≡ w.domains
unfolding world_after
ticked_domains domain tones t w = ap (λ (v : DeviceWorld). v.domains) (world_by_parts domain tones t w)

-- the device ticks so often at once, and meters hear
pub rows_ticked : (domain count steps : ℕ) (shown showing : List Reading) (r : RunningWorld) (p q : RunningFields) (jacks : List Jack)
    → RunningStands p shown r → jacks ≡ p.jacks → 1 ≤ count → met_after domain count r ≡ r.met
    → ((w : DeviceWorld) → device.DeviceStands p.device w → device.DeviceStands q.device (after_tick_times domain (tones_of domain jacks) count w))
    → ((w : DeviceWorld) → device.DeviceStands p.device w → steps ≡ count * renders_of domain w)
    → ((w : DeviceWorld) → device.DeviceStands p.device w → showing ≡ readings_after domain (tones_of domain jacks) w count shown)
    → q.streaming ≡ p.streaming → q.jacks ≡ jacks_after domain count jacks → q.counts ≡ p.counts → q.time ≡ p.time → q.detail ≡ p.detail
    → q.renders ≡ at_most_u64 (p.renders + steps) → IsBeside p q → RunningStands q showing (running_after domain count r)
unfolding running_after
rows_ticked domain count steps shown showing r p q jacks stands own some unmet ticks counted hears same gone counts time detail renders beside =
    let all : jacks ≡ r.jacks = own ∙ stands.jacks in
    let after : device.DeviceStands q.device (device_after domain count r) =
    subst (λ (js : List Jack). device.DeviceStands q.device (after_tick_times domain (tones_of domain js) count r.device)) all
    (ticks r.device stands.streaming.device) in
    let there : streaming.StreamingStands p.streaming q.device (record (streaming_of r) { device = device_after domain count r }) =
    stands_beside p.streaming p.device q.device (streaming_of r) (device_after domain count r) stands.streaming after
    (ticked_function domain (tones_of domain r.jacks) count r.device) in
    let met : streaming.StreamingStands p.streaming q.device (record (streaming_of r) { device = device_after domain count r; met = met_after domain count r }) =
    subst
    (λ (m : ℕ → StreamCounts). streaming.StreamingStands p.streaming q.device (record (streaming_of r) { device = device_after domain count r; met = m }))
    (sym unmet) there in
    record {
      streaming =
          subst
          (λ (s : streaming.StreamingFields). streaming.StreamingStands s q.device (record (streaming_of r) { device = device_after domain count r; met = met_after domain count r }))
          (sym same) met;
      view = beside.view ∙ stands.view;
      configuration = beside.configuration ∙ stands.configuration;
      breaks = beside.breaks ∙ stands.breaks;
      jacks = gone ∙ ap (jacks_after domain count) all;
      counts = counts ∙ stands.counts ∙ ap (map tick_count_of) (sym (ticked_domains domain (tones_of domain r.jacks) count r.device));
      time = time ∙ stands.time;
      detail = detail ∙ stands.detail;
      meters =
          hears r.device stands.streaming.device
          ∙ ap (λ (js : List Jack). readings_after domain (tones_of domain js) r.device count shown) all
          ∙ ap (readings_after domain (tones_of domain r.jacks) r.device count) stands.meters;
      renders =
          renders ∙ ap (λ (n : ℕ). at_most_u64 (n + steps)) stands.renders
          ∙ ap (λ (n : ℕ). at_most_u64 (r.renders + n)) (counted r.device stands.streaming.device)
          ∙ sym (renders_some domain count r some);
    }

-- ---- what is told

-- what the rows of so many ticks hold is what these played
pub shows_tick : (domain count tick : ℕ) (r : RunningWorld) (d : device.DeviceFields) → d.function ≡ r.device.function
    → HoldPlayed domain (tones_of domain r.jacks) count r.device d.rows → tick < count → Shows tick domain d (device_after domain (tick + 1) r)
unfolding world_after played_after
shows_tick domain count tick r d same hold less =
    let next : tick + 1 ≡ suc tick = omega arith in
    let function : (device_after domain (tick + 1) r).function ≡ r.device.function = ticked_function domain (tones_of domain r.jacks) (tick + 1) r.device in
    record {
      function = same ∙ sym function;
      rows = λ id end.
          let own : is_end domain (entity_in r.device id) ≡ true = subst (λ (f : FunctionFields). is_end domain (entity f.entities id) ≡ true) function end in
          hold tick less id own
          ∙ ap (λ (w : DeviceWorld). Some (w.played id))
          (sym (world_by_parts domain (tones_of domain r.jacks) (suc tick) r.device) ∙ ap (λ (k : ℕ). device_after domain k r) (sym next));
    }

-- so many ticks are done, and what they say is printed
pub rows_told : {E : Type 0} (domain count : ℕ) (meters : List Reading) (r : RunningWorld) (q : RunningFields) (old new : Option (List ℕ)) (result : Result (Unit {0}) E)
    → Prints old new result (lines_after domain count r) → RunningStands q meters (running_after domain count r)
    → RunningTells (tick_times count domain r) q meters old new result
rows_told domain count meters r q old new result printed stands =
    subst (λ (t : Telling RunningWorld). RunningTells t q meters old new result) (sym (ticks_by_parts count domain r))
    (printed, at_ok (RunningStands q meters (running_after domain count r)) result stands)
