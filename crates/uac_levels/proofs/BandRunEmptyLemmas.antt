-- No tick of a microframe finds a primed ring of a run in its bands empty.
use Rattle.std.proofs.Common.{arith, ◌≡◌, ◌≢◌, ◌∙◌, sym, refl, ap, subst, ℕ, zero, suc, ◌<◌, ◌==◌, ◌&&◌, nat_eq, Bool, true, false, if◌then◌else◌, List, [], ◌∷◌, ◌++◌, filter, Option, Some, None, inl, inr}
use Rattle.std.specs.List.{All, AllByRecursion, IsDistinct}
use Rattle.std.specs.Option.{option_map_or}
use Rattle.std.proofs.Math.Bool.{and-false}
use Rattle.std.proofs.lemmas.Bool.{true≢false}
use Rattle.std.proofs.lemmas.List.Elements.{All-append, All-nil}
use Rattle.std.proofs.lemmas.Map.Keys.{IsDistinct-head, IsDistinct-tail}
use Rattle.uac_clock.specs.Ticks.{ticks_in}
use Rattle.uac_topology.specs.Function.{FunctionFields}
use Rattle.uac_flow.specs.FlowStreams.{OutStream, after_packet, after_taking, after_ticks, is_dry, is_due}
use Rattle.uac_host.specs.HostCalls.{pace_after_packet}
use Rattle.uac_host.specs.HostWorld.{Track}
use Rattle.uac_device.specs.DeviceWorld.{DeviceWorld, Domain, after_advance, is_on, next_ticks, step_in}
use Rattle.uac_script.specs.Phrase.{PhraseMark}
use Rattle.uac_transcript.specs.Transcript.{Said, says_over, says_under}
use Rattle.uac_streaming.specs.StreamingWorld.{StreamingWorld, all_ends, finds_empty, finds_full, loses_out, out_packets}
use Rattle.uac_device.specs.declared.jacks.Jack.{Jack}
use Rattle.uac_running.specs.RunningWorld.{RunningWorld, streaming_of}
use Rattle.uac_running.specs.Events.{after_all_jacks, domain_microframe, domain_microframes, microframe, tick, tick_times}
use Rattle.uac_levels.specs.Life.{Life, ticks_taken, with_packet, with_step}
use Rattle.uac_levels.specs.Bands.{IsSteadyMicroframe}
use Rattle.uac_levels.specs.BandRun.{MicroframesFindNoneEmpty, RunInBand, StreamInBand}
use Rattle.uac_streaming.proofs.AmongLemmas.{Among, among_cases, apart_from}
use Rattle.uac_levels.proofs.TellingTurnLemmas.{clock_among, other_number}
use Rattle.uac_levels.proofs.LifeTurnLemmas.{IsPlace, Place, Shows, packet_at, packet_shown, track_after}
use Rattle.uac_levels.proofs.LifeTickLemmas.{advanced_elsewhere, advanced_own, domain_elsewhere, domain_own, jacks_show, on_clock_only, so_many, step_at, tick_other, tick_own}
use Rattle.uac_levels.proofs.ProjectionLifeLemmas.{opened, packets_in, packets_out, place_in, step_is}
use Rattle.uac_levels.proofs.BandsLemmas.{never_dry}
use Rattle.uac_levels.proofs.RunningWorldRestLemmas.{RestsNow, advanced_none, before_ticks_none, domain_none, given_none, tick_none}
use Rattle.uac_levels.proofs.BandRunLemmas.{steadily}
use Rattle.uac_levels.proofs.RunningWorldLineLemmas.{IsQuiet, domains_say, each_says, ends_say, fetched, microframe_says, numbered, outs_say, tick_says, ticked_on, ticks_say}

module _ (k : ℕ) where
  -- it isn't said that the ring of this interface was found empty
  abbrev NotUnder : Said → Type 0
  NotUnder said = said ≢ says_under k

  quiet : IsQuiet NotUnder
  quiet = record {
    microframe = λ number same. cc;
    out = λ interface frames arrival same. cc;
    in_ = λ interface frames lost same. cc;
    frame = λ interface samples same. cc;
    played = λ terminal samples same. cc;
    feedback = λ interface value lost same. cc;
  }

  outs_not : (detail : ℕ) (marks : List PhraseMark) (w : StreamingWorld) → All NotUnder (out_packets detail marks w).lines
  outs_not = outs_say NotUnder quiet (λ interface same. cc)

  ends_not : (detail : ℕ) (w : StreamingWorld) → All NotUnder (all_ends detail w).lines
  ends_not = ends_say NotUnder quiet (λ interface level target same. cc)

  -- where it isn't its ring
  tick_not : (c : ℕ) (r : RunningWorld) → finds_empty c (after_all_jacks c r) k ≡ false → All NotUnder (tick c r).lines
  tick_not c r fails =
      tick_says NotUnder quiet c r
      (each_says NotUnder says_under (finds_empty c (after_all_jacks c r)) (λ n passes same.
      (let number : n ≡ k = cc in true≢false (sym passes ∙ ap (finds_empty c (after_all_jacks c r)) number ∙ fails))))
      (each_says NotUnder says_over (finds_full c (after_all_jacks c r)) (λ n passes same. cc))

  -- ---- where it runs no stream

  none_tick : (c : ℕ) (r : RunningWorld) → RestsNow k r → All NotUnder (tick c r).lines
  none_tick c r none =
      let w : DeviceWorld = after_all_jacks c r in
      tick_not c r
      (ap (λ (o : Option OutStream). is_on w c k && option_map_or is_dry o false) (given_none k c r none) ∙ and-false (is_on w c k))

  none_domain : (c : ℕ) (r : RunningWorld) → RestsNow k r → All NotUnder (domain_microframe c r).lines
  unfolding domain_microframe
  none_domain c r none =
      ticks_say NotUnder quiet (RestsNow k) c (none_tick c) (tick_none k c) (next_ticks c r.device) (record r { device = after_advance c r.device })
      (advanced_none k c r none)

  none_says : (marks : List PhraseMark) (r : RunningWorld) → RestsNow k r → All NotUnder (microframe marks r).lines
  none_says marks r none =
      microframe_says NotUnder quiet marks r (outs_not r.detail marks (streaming_of (numbered r)))
      (domains_say NotUnder quiet (RestsNow k) none_domain (domain_none k) (fetched marks r).device.function.domains (fetched marks r)
      (before_ticks_none k marks (numbered r) none))
      (ends_not (ticked_on marks r).detail (streaming_of (ticked_on marks r)))

-- ---- where it runs one

module _ (p : Place) (is : IsPlace p) where
  abbrev Not : Said → Type 0
  Not = NotUnder p.interface

  given_shows : (c : ℕ) (r : RunningWorld) (l : Life) (t : Track) → Shows p (streaming_of r) l t
      → Shows p (record (streaming_of r) { device = after_all_jacks c r }) l t
  unfolding after_all_jacks
  given_shows c r l t s = jacks_show p (filter (λ (j : Jack). j.domain == c) r.jacks) r.device r l t s

  other_tick : (c : ℕ) (r : RunningWorld) (l : Life) (t : Track) → (p.clock == c) ≡ false → Shows p (streaming_of r) l t
      → All Not (tick c r).lines
  other_tick c r l t other s =
      let w : DeviceWorld = after_all_jacks c r in
      let there = given_shows c r l t s in
      tick_not p.interface c r
      (ap (λ (b : Bool). b && option_map_or is_dry (w.outs p.interface) false) (on_clock_only p is w c there.function ∙ other))

  own_tick : (r : RunningWorld) (l : Life) (t : Track) → Shows p (streaming_of r) l t → is_dry l.out ≡ false
      → All Not (tick p.clock r).lines
  own_tick r l t s holds =
      let w : DeviceWorld = after_all_jacks p.clock r in
      let there = given_shows p.clock r l t s in
      tick_not p.interface p.clock r
      (ap (λ (o : Option OutStream). is_on w p.clock p.interface && option_map_or is_dry o false) there.out
      ∙ ap (λ (b : Bool). is_on w p.clock p.interface && b) holds ∙ and-false (is_on w p.clock p.interface))

  own_ticks : (count : ℕ) (r : RunningWorld) (l : Life) (t : Track) → Shows p (streaming_of r) l t
      → ((i : ℕ) → i < count → is_dry (ticks_taken i l.out) ≡ false) → All Not (tick_times count p.clock r).lines
  unfolding tick_times ticks_taken
  own_ticks zero r l t s holds = All-nil Not
  own_ticks (suc count) r l t s holds =
      All-append Not (tick p.clock r).lines (tick_times count p.clock (tick p.clock r).world).lines
      (own_tick r l t s (holds 0 (omega arith)))
      (own_ticks count (tick p.clock r).world (record l { out = after_taking l.out }) t (tick_own p is r l t s)
      (λ i less. holds (suc i) (omega arith)))

  other_domain : (c : ℕ) (r : RunningWorld) (l : Life) (t : Track) → (p.clock == c) ≡ false → Shows p (streaming_of r) l t
      → All Not (domain_microframe c r).lines
  unfolding domain_microframe
  other_domain c r l t other s =
      ticks_say Not (quiet p.interface) (λ v. Shows p (streaming_of v) l t) c (λ v there. other_tick c v l t other there)
      (λ v there. tick_other p is c v l t other there) (next_ticks c r.device) (record r { device = after_advance c r.device })
      (advanced_elsewhere p is c r l t other s)

  -- what its ring is before each tick of its domain
  abbrev Holds : Life → Type 0
  Holds l =
      (i : ℕ) → i < ticks_in (l.steps ++ step_at p ∷ [])
      → is_dry (ticks_taken i (after_ticks (ticks_in (l.steps ++ step_at p ∷ [])) l.out)) ≡ false

  own_domain : (r : RunningWorld) (l : Life) (t : Track) → Shows p (streaming_of r) l t → Holds l
      → All Not (domain_microframe p.clock r).lines
  unfolding domain_microframe
  own_domain r l t s holds =
      own_ticks (next_ticks p.clock r.device) (record r { device = after_advance p.clock r.device })
      (record l { out = after_ticks (next_ticks p.clock r.device) l.out; steps = l.steps ++ step_at p ∷ [] }) t (advanced_own p is r l t s)
      (subst (λ (n : ℕ). (i : ℕ) → i < n → is_dry (ticks_taken i (after_ticks n l.out)) ≡ false) (sym (so_many p r l t s)) holds)

  apart_domains : (clocks : List ℕ) (r : RunningWorld) (l : Life) (t : Track) → AllByRecursion (λ c. nat_eq p.clock c ≡ false) clocks
      → Shows p (streaming_of r) l t → All Not (domain_microframes clocks r).lines
  unfolding domain_microframes
  apart_domains [] r l t apart s = All-nil Not
  apart_domains (c ∷ cs) r l t apart s =
      All-append Not (domain_microframe c r).lines (domain_microframes cs (domain_microframe c r).world).lines
      (other_domain c r l t apart.0 s)
      (apart_domains cs (domain_microframe c r).world l t apart.1 (domain_elsewhere p is c r l t apart.0 s))

  all_domains_say : (clocks : List ℕ) (r : RunningWorld) (l : Life) (t : Track) → IsDistinct nat_eq clocks → Among p.clock clocks
      → Shows p (streaming_of r) l t → Holds l → All Not (domain_microframes clocks r).lines
  unfolding domain_microframes
  all_domains_say [] r l t once there s holds = All-nil Not
  all_domains_say (c ∷ cs) r l t once there s holds = elim (among_cases p.clock c cs there) [
    | inl same ↦
        All-append Not (domain_microframe c r).lines (domain_microframes cs (domain_microframe c r).world).lines
        (subst (λ (m : ℕ). All Not (domain_microframe m r).lines) (sym same) (own_domain r l t s holds))
        (apart_domains cs (domain_microframe c r).world (with_step (step_at p) l) t
        (subst (λ (m : ℕ). AllByRecursion (λ y. nat_eq m y ≡ false) cs) same (IsDistinct-head nat_eq c cs once))
        (subst (λ (m : ℕ). Shows p (streaming_of (domain_microframe m r).world) (with_step (step_at p) l) t) (sym same) (domain_own p is r l t s)))
    | inr later ↦
        (let other = other_number c p.clock (apart_from c p.clock cs (IsDistinct-head nat_eq c cs once) later) in
        All-append Not (domain_microframe c r).lines (domain_microframes cs (domain_microframe c r).world).lines
        (other_domain c r l t other s)
        (all_domains_say cs (domain_microframe c r).world l t (IsDistinct-tail nat_eq c cs once) later (domain_elsewhere p is c r l t other s) holds))
  ]

-- ---- a microframe

steps_with_packet : (packet : Option (List ℕ)) (l : Life) → (with_packet packet l).steps ≡ l.steps
steps_with_packet packet l = by (is_due l.out.stream l.out.microframes)
  where
    by : (b : Bool) → (if b then record l { out = after_packet packet l.out; pace = pace_after_packet l.pace } else l).steps ≡ l.steps
    by true = refl
    by false = refl

some_says : (marks : List PhraseMark) (r : RunningWorld) (k : ℕ) (l : Life) (d : Domain) → RunInBand r → StreamInBand r k l d
    → All (NotUnder k) (microframe marks r).lines
some_says marks r k l d band stream = opened r k l d stream.runs (λ clock index steps is s.
    (let p : Place = place_in r k d clock index in
    let t : Track = r.host.tracks k in
    let v : RunningWorld = numbered r in
    let bytes : List ℕ = packet_at l.pace t in
    let packet : Option (List ℕ) = if loses_out marks k then None else Some bytes in
    let clocked : Among clock r.device.function.domains = subst (Among clock) band.ordered.domains (clock_among clock r.device.domains (record d { steps = l.steps }) s.domain) in
    let sent_shows = packets_out p is band.ordered.numbers marks r.detail (streaming_of v) l t s in
    let came_shows = packets_in p is band.ordered.numbers marks r.detail (out_packets r.detail marks (streaming_of v)).world (with_packet packet l) (track_after l t) sent_shows in
    let given : IsSteadyMicroframe packet (step_at p) l =
    subst (λ (n : ℕ). IsSteadyMicroframe packet n l) (sym (step_is r k d clock index))
    (subst (λ (b : List ℕ). IsSteadyMicroframe (if loses_out marks k then None else Some b) (step_in r.device d) l) (packet_shown p (streaming_of r) l t s)
    (steadily marks r k l d stream)) in
    let holds : Holds p is (with_packet packet l) =
    subst (λ (ns : List ℕ). (i : ℕ) → i < ticks_in (ns ++ step_at p ∷ [])
    → is_dry (ticks_taken i (after_ticks (ticks_in (ns ++ step_at p ∷ [])) (with_packet packet l).out)) ≡ false)
    (sym (steps_with_packet packet l)) (never_dry l packet (step_at p) stream.band given) in
    let ticks = all_domains_say p is (fetched marks r).device.function.domains (fetched marks r) (with_packet packet l) (track_after l t)
    (subst (λ (f : FunctionFields). IsDistinct nat_eq f.domains) (sym came_shows.function) band.ordered.apart)
    (subst (λ (f : FunctionFields). Among clock f.domains) (sym came_shows.function) clocked) came_shows holds in
    microframe_says (NotUnder k) (quiet k) marks r (outs_not k r.detail marks (streaming_of (numbered r))) ticks
    (ends_not k (ticked_on marks r).detail (streaming_of (ticked_on marks r)))))

pub find_none_empty : MicroframesFindNoneEmpty
find_none_empty marks r band j said below k = by (r.device.outs k) refl j said below
  where
    by : (o : Option OutStream) → r.device.outs k ≡ o → All (NotUnder k) (microframe marks r).lines
    by None none = none_says k marks r none
    by (Some o) there =
        let stream = band.streams k o there in
        some_says marks r k stream.0 stream.1 band stream.3
