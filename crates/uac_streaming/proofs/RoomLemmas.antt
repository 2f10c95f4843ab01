-- The ring of a stream to the device within a microframe: where its packet was lost, the zeros that are due at the end fit.
use Rattle.std.proofs.Common.{◌≡◌, ◌≢◌, ◌∙◌, sym, refl, ap, subst, arith, ℕ, suc, ◌+◌, ◌-◌, ◌*◌, ◌%◌, ◌<◌, ◌≤◌, ◌==◌, ◌&&◌, Bool, true, false, if◌then◌else◌, cond, ℤ, pos, negsuc, List, [], ◌∷◌, ◌++◌, length, sum, Option, Some, None, is_some, inl, inr, length-append, nat_lt, replicate}
use Rattle.std.specs.List.{All, find}
use Rattle.std.specs.Option.{option_and_then, option_map_or}
use Rattle.std.proofs.lemmas.Bool.{eqb-false, leb-true, ltb-true, true≢false}
use Rattle.std.proofs.lemmas.Int.{ints}
use Rattle.std.proofs.lemmas.List.{length-replicate, take_at}
use Rattle.std.proofs.lemmas.List.Elements.{All-head, All-tail}
use Rattle.std.proofs.lemmas.List.Sums.{sum_by_push}
use Rattle.std.proofs.lemmas.Nat.{mul-le}
use Rattle.uac_alt.specs.AltStreams.{StreamFields}
use Rattle.uac_clock.specs.Nominal.{nominal_of, step_of}
use Rattle.uac_clock.specs.Ticks.{ticks_in}
use Rattle.uac_clock.specs.declared.values.Nominal.{Nominal}
use Rattle.uac_rate.specs.Levels.{IsInterval}
use Rattle.uac_ring.specs.Rings.{ring_frames}
use Rattle.uac_store.specs.Rates.{rate_of}
use Rattle.uac_flow.specs.Flows.{ZerosFit}
use Rattle.uac_flow.specs.FlowStreams.{OutStream, after_packet, after_taking, after_ticks, frames_of, is_due, out_level, priming_level, out_after_end, after_due_end, takes_all, target_after, zeros_due}
use Rattle.uac_device.specs.DeviceWorld.{DeviceWorld, Domain, next_ticks, step_in, steps_with_next}
use Rattle.uac_device.specs.DeviceKept.{IsDeviationInRange}
use Rattle.uac_device.proofs.DeviceTurnsTickLemmas.{nominal_most, rated_nominal}
use Rattle.uac_streaming.specs.Room.{HasRoom}

-- ---- service intervals

each_interval : (P : ℕ → Type 0) → P 1 → P 2 → P 4 → P 8 → (service : ℕ) → IsInterval service → P service
each_interval P one two four eight service serves =
    elim serves [
      | inl is ↦ subst P (sym is) one
      | inr (inl is) ↦ subst P (sym is) two
      | inr (inr (inl is)) ↦ subst P (sym is) four
      | inr (inr (inr is)) ↦ subst P (sym is) eight
    ]

-- within an interval the count of its microframes rises by one
next_rest : (service microframes : ℕ) → IsInterval service → (microframes + 1) % service ≢ 0
    → (microframes + 1) % service ≡ microframes % service + 1
next_rest service microframes serves = each_interval (λ s. (microframes + 1) % s ≢ 0 → (microframes + 1) % s ≡ microframes % s + 1)
    (λ inside. omega arith) (λ inside. omega arith) (λ inside. omega arith) (λ inside. omega arith) service serves

-- at most 27 ticks in each of at most eight microframes
few_in_all : (service microframes ticks : ℕ) → IsInterval service → ticks ≤ 27 * (microframes % service + 1) → ticks ≤ 216
few_in_all service microframes ticks serves = each_interval (λ s. ticks ≤ 27 * (microframes % s + 1) → ticks ≤ 216)
    (λ few. omega arith) (λ few. omega arith) (λ few. omega arith) (λ few. omega arith) service serves

-- ---- the frames that prime a stream

prime : (P : ℕ → Type 0) → P 256 → P 512 → (s : StreamFields) → P (priming_level s)
prime P single longer s = by (nat_lt 1 s.service)
  where
    by : (b : Bool) → P (if b then 512 else 256)
    by true = longer
    by false = single

pub some_frames : (s : StreamFields) → 0 < priming_level s
some_frames = prime (λ n. 0 < n) (omega arith) (omega arith)

pub few_frames : (s : StreamFields) → priming_level s ≤ 512
few_frames = prime (λ n. n ≤ 512) (omega arith) (omega arith)

-- ---- a stream within a microframe

-- so many of its domain's ticks are still to be played. It is tight while the zeros for all ticks of its domain since it was last due have to
-- fit: until its packet came. Whether that is lost is known before
pub record IsWithin (loses : Bool) (left : ℕ) (o : OutStream) : Type 0 where
  pub tight : Bool
  pub serves : IsInterval o.stream.service
  pub taken : o.taken ≤ length o.arrived
  pub full : out_level o ≤ ring_frames
  pub fits : tight ≡ true → out_level o + o.ticks ≤ ring_frames + left
  pub priming : tight ≡ true → o.target ≡ None → out_level o < priming_level o.stream
  pub safe : tight ≡ false → (o.lost ≡ false) × (loses ≡ false)
  pub waits : is_due o.stream o.microframes ≡ false → (tight ≡ true) × (o.lost ≡ false)
  pub few : o.ticks ≤ 27 * (o.microframes % o.stream.service + 1)

-- as the microframe begins
pub opened : (loses : Bool) (o : OutStream) → HasRoom o → IsWithin loses 0 o
opened loses o room = record {
  tight = true;
  serves = room.serves;
  taken = room.taken;
  full = omega (arith, room.level);
  fits = λ _. omega (arith, room.level);
  priming = λ _. room.priming;
  safe = λ loose. absurd (true≢false loose);
  waits = λ _. (refl, room.waits);
  few = omega (arith, room.few);
}

-- its packet came, or was lost
pub packet_came : (loses : Bool) (packet : List ℕ) (o : OutStream) → is_due o.stream o.microframes ≡ true → IsWithin loses 0 o
    → IsWithin loses 0 (after_packet (if loses then None else Some packet) o)
unfolding after_packet
packet_came true packet o due is = record {
  tight = is.tight;
  serves = is.serves;
  taken = is.taken;
  full = is.full;
  fits = is.fits;
  priming = is.priming;
  safe = λ loose. absurd (true≢false (is.safe loose).1);
  waits = λ not_due. absurd (true≢false (sym due ∙ not_due));
  few = is.few;
}
packet_came false packet o due is = by (takes_all o packet) refl
  where
    by : (b : Bool) → takes_all o packet ≡ b
        → IsWithin false 0 (record o { lost = false; arrived = if b then o.arrived ++ frames_of o.stream packet else o.arrived })
    by true takes =
        let room : out_level o + length (frames_of o.stream packet) ≤ ring_frames = leb-true _ _ takes in
        let longer = length-append o.arrived (frames_of o.stream packet) in
        record {
          tight = false;
          serves = is.serves;
          taken = omega (arith, is.taken, longer);
          full = omega (arith, is.taken, longer, room);
          fits = λ tight. absurd (true≢false (sym tight));
          priming = λ tight. absurd (true≢false (sym tight));
          safe = λ _. (refl, refl);
          waits = λ not_due. absurd (true≢false (sym due ∙ not_due));
          few = is.few;
        }
    by false over = record {
      tight = false;
      serves = is.serves;
      taken = is.taken;
      full = is.full;
      fits = λ tight. absurd (true≢false (sym tight));
      priming = λ tight. absurd (true≢false (sym tight));
      safe = λ _. (refl, refl);
      waits = λ not_due. absurd (true≢false (sym due ∙ not_due));
      few = is.few;
    }

-- it stays the stream that it is
pub packet_keeps : (P : ℕ → ℕ → ℕ → Type 0) (loses : Bool) (packet : List ℕ) (o : OutStream) → P o.ticks o.microframes o.stream.service
    → (let n = after_packet (if loses then None else Some packet) o in P n.ticks n.microframes n.stream.service)
unfolding after_packet
packet_keeps P true packet o is = is
packet_keeps P false packet o is = is

-- its domain goes on by so many ticks
pub ticks_came : (loses : Bool) (ticks : ℕ) (o : OutStream) → ticks ≤ 27 → o.ticks ≤ 27 * (o.microframes % o.stream.service)
    → IsWithin loses 0 o
    → IsWithin loses ticks (after_ticks ticks o)
ticks_came loses ticks o most few is = record {
  tight = is.tight;
  serves = is.serves;
  taken = is.taken;
  full = is.full;
  fits = λ tight. omega (arith, is.fits tight);
  priming = is.priming;
  safe = is.safe;
  waits = is.waits;
  few = omega (arith, few, most);
}

none_from : (o : Option ℕ) → is_some o ≡ false → o ≡ None
none_from None is = refl
none_from (Some x) is = absurd (true≢false is)

-- its domain ticks
pub tick_came : (loses : Bool) (left : ℕ) (o : OutStream) → IsWithin loses (suc left) o → IsWithin loses left (after_taking o)
unfolding after_taking
tick_came loses left o is = by (is_some o.target) (out_level o == 0) refl refl
  where
    few : o.ticks ≤ 216
    few = few_in_all o.stream.service o.microframes o.ticks is.serves is.few

    by : (b c : Bool) → is_some o.target ≡ b → (out_level o == 0) ≡ c
        → IsWithin loses left (if b && c then record o { arrived = []; taken = 0; target = None } else if b then record o { taken = o.taken + 1 } else o)
    by true true primed dry = record {
      tight = is.tight;
      serves = is.serves;
      taken = omega arith;
      full = omega arith;
      fits = λ _. omega (arith, few);
      priming = λ _ _. omega (arith, some_frames o.stream);
      safe = is.safe;
      waits = is.waits;
      few = is.few;
    }
    by true false primed wet =
        let some : out_level o ≢ 0 = eqb-false _ _ wet in
        record {
          tight = is.tight;
          serves = is.serves;
          taken = omega (arith, some);
          full = omega (arith, is.full);
          fits = λ tight. omega (arith, some, is.fits tight);
          priming = λ _ none. absurd (true≢false (sym primed ∙ ap is_some none));
          safe = is.safe;
          waits = is.waits;
          few = is.few;
        }
    by false c priming _ = record {
      tight = is.tight;
      serves = is.serves;
      taken = is.taken;
      full = is.full;
      fits = λ tight. omega (arith, few, is.priming tight (none_from o.target priming), few_frames o.stream);
      priming = is.priming;
      safe = is.safe;
      waits = is.waits;
      few = is.few;
    }

pub tick_keeps : (P : ℕ → ℕ → ℕ → Type 0) (o : OutStream) → P o.ticks o.microframes o.stream.service
    → (let n = after_taking o in P n.ticks n.microframes n.stream.service)
unfolding after_taking
tick_keeps P o is = by (is_some o.target) (out_level o == 0)
  where
    by : (b c : Bool)
        → (let n = if b && c then record o { arrived = []; taken = 0; target = None } else if b then record o { taken = o.taken + 1 } else o in
        P n.ticks n.microframes n.stream.service)
    by true true = is
    by true false = is
    by false c = is

-- the zeros fit
pub zeros_fit : (loses : Bool) (o : OutStream) → IsWithin loses 0 o → ZerosFit o
zeros_fit loses o is due = by o.lost refl is.tight refl
  where
    by : (lost : Bool) → o.lost ≡ lost → (tight : Bool) → is.tight ≡ tight
        → out_level o + length (if lost then replicate o.ticks (replicate o.stream.channels (pos 0)) else []) ≤ ring_frames
    by true lost true tight = omega (arith, is.fits tight, length-replicate o.ticks (replicate o.stream.channels (pos 0)))
    by true lost false loose = absurd (true≢false (sym lost ∙ (is.safe loose).0))
    by false _ _ _ = omega (arith, is.full)

-- a stream that is still priming holds fewer frames than prime it
still_priming : (target : Option ℕ) (level : ℕ) (s : StreamFields) → target_after target level s ≡ None → level < priming_level s
still_priming (Some target) level s none = absurd (cc)
still_priming None level s none = by (nat_lt level (priming_level s)) refl none
  where
    by : (b : Bool) → nat_lt level (priming_level s) ≡ b → (if b then None else Some level) ≡ None → level < priming_level s
    by true less _ = ltb-true _ _ less
    by false _ some = absurd (cc)

-- the microframe ends for it
pub ended_room : (loses : Bool) (o : OutStream) → IsWithin loses 0 o → HasRoom (out_after_end o)
unfolding out_after_end
ended_room loses o is = by (is_due o.stream o.microframes) refl
  where
    by : (b : Bool) → is_due o.stream o.microframes ≡ b
        → HasRoom (record (if b then after_due_end o else o) { microframes = o.microframes + 1 })
    by true due =
        let longer = length-append o.arrived (zeros_due o) in
        record {
          serves = is.serves;
          taken = omega (arith, is.taken, longer);
          waits = refl;
          level = omega (arith, is.taken, longer, zeros_fit loses o is due);
          priming = still_priming o.target (length (o.arrived ++ zeros_due o) - o.taken) o.stream;
          few = omega arith;
        }
    by false not_due =
        let waits = is.waits not_due in
        record {
          serves = is.serves;
          taken = is.taken;
          waits = waits.1;
          level = omega (arith, is.fits waits.0);
          priming = is.priming waits.0;
          few = subst (λ (n : ℕ). o.ticks ≤ 27 * n) (sym (next_rest o.stream.service o.microframes is.serves (eqb-false _ _ not_due))) is.few;
        }

pub ended_again : (o : OutStream) → HasRoom o → HasRoom (out_after_end o)
ended_again o room = ended_room false o (opened false o room)

-- ---- the ticks of a domain

-- a clock in range gives few frames in a microframe
step_most : (values : Nominal) (ppm : ℤ) → values.f ≤ 1572864 → IsDeviationInRange ppm → step_of values ppm ≤ 1730150
step_most values (pos m) slow range =
    let small : m ≤ 100000 = omega (arith, ints) in
    let product : values.f * m ≤ 1572864 * 100000 = mul-le values.f m 1572864 100000 slow small in
    omega arith
step_most values (negsuc m) slow range = omega arith

steps_most : (rate : Option ℕ) (ppm : ℤ) → IsDeviationInRange ppm
    → option_map_or (λ values. step_of values ppm) (option_and_then nominal_of rate) 0 ≤ 1730150
steps_most rate ppm range = by (option_and_then nominal_of rate) refl
  where
    by : (o : Option Nominal) → option_and_then nominal_of rate ≡ o → option_map_or (λ values. step_of values ppm) o 0 ≤ 1730150
    by None is = omega arith
    by (Some values) is = step_most values ppm (nominal_most values (rated_nominal rate values is)) range

last_few : (steps : List ℕ) (step : ℕ) → step ≤ 1730150 → ticks_in (steps ++ step ∷ []) ≤ 27
last_few steps step most =
    let short : length (steps ++ step ∷ []) - 1 ≡ length steps = omega (arith, length-append steps (step ∷ [])) in
    let whole = sum_by_push (λ (n : ℕ). n) steps step in
    let front = ap sum (take_at steps (step ∷ []) (length (steps ++ step ∷ []) - 1) (sym short)) in
    omega (arith, whole, front, most)

-- a domain ticks at most 27 times in a microframe
pub next_few : (w : DeviceWorld) (clock : ℕ) → All (λ d. IsDeviationInRange d.deviation) w.domains → next_ticks clock w ≤ 27
unfolding next_ticks step_in
next_few w clock range = among w.domains range
  where
    among : (ds : List Domain) → All (λ d. IsDeviationInRange d.deviation) ds
        → option_map_or (λ d. ticks_in (steps_with_next w d)) (find (λ d. d.id == clock) ds) 0 ≤ 27
    among [] range = omega arith
    among (d ∷ ds) range = by (d.id == clock) (among ds (All-tail (λ d. IsDeviationInRange d.deviation) d ds range))
      where
        by : (b : Bool) → option_map_or (λ d. ticks_in (steps_with_next w d)) (find (λ d. d.id == clock) ds) 0 ≤ 27
            → option_map_or (λ d. ticks_in (steps_with_next w d)) (cond b (Some d) (find (λ d. d.id == clock) ds)) 0 ≤ 27
        by true others =
            last_few d.steps (step_in w d)
            (steps_most (rate_of w.function.entities w.controls d.id) d.deviation (All-head (λ d. IsDeviationInRange d.deviation) d ds range))
        by false others = others
