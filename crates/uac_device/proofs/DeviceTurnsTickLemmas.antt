-- The most that a clock ticks in so many microframes.
use Rattle.std.proofs.Common.{◌≡◌, ◌∙◌, sym, refl, subst, arith, rules, ℕ, suc, ◌+◌, ◌*◌, ◌/◌, ◌<◌, ◌≤◌, ◌==◌, Bool, true, false, cond, ℤ, pos, negsuc, List, [], ◌∷◌, Option, Some, None}
use Rattle.std.specs.List.{All, AllByRecursion, find}
use Rattle.std.specs.Option.{option_and_then, option_map_or}
use Rattle.std.proofs.lemmas.Int.{ints}
use Rattle.std.proofs.lemmas.Nat.{mul-le}
use Rattle.uac_clock.specs.Nominal.{IsNominal, is_listed, nominal_of, step_of, twelve_rates, values_of}
use Rattle.uac_clock.specs.declared.values.Nominal.{Nominal}
use Rattle.uac_clock.proofs.NominalLemmas.{each_listed, nominal_of-listed, nominal_of-unlisted}
use Rattle.uac_device.specs.declared.clocks.DomainClock.{DomainClock}
use Rattle.uac_device.specs.DeviceKept.{IsDeviationInRange}
use Rattle.uac_device.specs.DeviceTurns.{first_ticks, step_by, ticks_of}

twelve_are_slow : AllByRecursion (λ r. (values_of r).f ≤ 1572864) twelve_rates
unfolding values_of
twelve_are_slow = search rules

-- no rate gives more than 24 frames in a microframe
pub nominal_most : (values : Nominal) → IsNominal values → values.f ≤ 1572864
nominal_most values rate = from (is_listed rate.0) refl
  where
    from : (b : Bool) → is_listed rate.0 ≡ b → values.f ≤ 1572864
    from true listed =
        let same : values_of rate.0 ≡ values = (let e : Some (values_of rate.0) ≡ Some values = sym (nominal_of-listed rate.0 listed) ∙ rate.1 in cc) in
        subst (λ (v : Nominal). v.f ≤ 1572864) same (each_listed (λ r. (values_of r).f ≤ 1572864) twelve_rates rate.0 listed twelve_are_slow)
    from false other = absurd (let e : None ≡ Some values = sym (nominal_of-unlisted rate.0 other) ∙ rate.1 in cc)

-- nor a tenth more
step_most : (values : Nominal) (ppm : ℤ) → values.f ≤ 1572864 → IsDeviationInRange ppm → step_of values ppm ≤ 1730150
step_most values (pos m) slow range =
    let small : m ≤ 100000 = omega (arith, ints) in
    let product : values.f * m ≤ 1572864 * 100000 = mul-le values.f m 1572864 100000 slow small in
    omega arith
step_most values (negsuc m) slow range = omega arith

-- the nominal values that a rate has are those of a rate
pub rated_nominal : (rate : Option ℕ) (values : Nominal) → option_and_then nominal_of rate ≡ Some values → IsNominal values
rated_nominal None values e = absurd (cc)
rated_nominal (Some hertz) values e = (hertz, e)

-- a clock in range, without a rate too
pub step_by_most : (values : Option Nominal) (ppm : ℤ) → ((nominal : Nominal) → values ≡ Some nominal → IsNominal nominal) → IsDeviationInRange ppm → step_by values ppm ≤ 1730150
step_by_most None ppm rated range = omega arith
step_by_most (Some values) ppm rated range = step_most values ppm (nominal_most values (rated values refl)) range

ticks_most : (values : Option Nominal) (n : ℕ) (c : DomainClock) → ((nominal : Nominal) → values ≡ Some nominal → IsNominal nominal) → IsDeviationInRange c.deviation → c.phase < 65536
    → ticks_of values n c ≤ 27 * n
ticks_most values n c rated range past =
    let product : step_by values c.deviation * n ≤ 1730150 * n = mul-le (step_by values c.deviation) n 1730150 n (step_by_most values c.deviation rated range) (omega arith) in
    along c.phase (step_by values c.deviation * n) n past product
  where
    along : (phase all n : ℕ) → phase < 65536 → all ≤ 1730150 * n → (phase + all) / 65536 ≤ 27 * n
    along phase all n past product = omega arith

-- clocks in range
pub few_ticks : (domain : ℕ) (values : Option Nominal) (n : ℕ) (clocks : List DomainClock) → ((nominal : Nominal) → values ≡ Some nominal → IsNominal nominal)
    → All (λ c. IsDeviationInRange c.deviation) clocks → All (λ c. c.phase < 65536) clocks → first_ticks domain values n clocks ≤ 27 * n
few_ticks domain values n [] rated range past = omega arith
few_ticks domain values n (c ∷ cs) rated range past =
    one (c.domain == domain) (few_ticks domain values n cs rated (λ k d below. range (suc k) d (omega arith)) (λ k d below. past (suc k) d (omega arith)))
  where
    one : (b : Bool) → first_ticks domain values n cs ≤ 27 * n → option_map_or (ticks_of values n) (cond b (Some c) (find (λ c. c.domain == domain) cs)) 0 ≤ 27 * n
    one true others = ticks_most values n c rated (range 0 c (omega arith)) (past 0 c (omega arith))
    one false others = others

-- what holds of all clocks holds of the one that is found
pub found_holds : (P : DomainClock → Type 0) (domain : ℕ) (clocks : List DomainClock) (c : DomainClock) → All P clocks → find (λ k. k.domain == domain) clocks ≡ Some c → P c
found_holds P domain [] c all is = absurd (cc)
found_holds P domain (k ∷ ks) c all is = from (k.domain == domain) is (found_holds P domain ks c (λ i d below. all (suc i) d (omega arith)))
  where
    from : (b : Bool) → cond b (Some k) (find (λ j. j.domain == domain) ks) ≡ Some c → (find (λ j. j.domain == domain) ks ≡ Some c → P c) → P c
    from true is others = let same : k ≡ c = cc in subst P same (all 0 k (omega arith))
    from false is others = others is
