-- The ticks of the domains, counted.
use Rattle.std.proofs.Common.{◌≡◌, ◌∙◌, sym, ap, subst, refl, arith, ℕ, zero, suc, ◌+◌, ◌-◌, ◌/◌, ◌==◌, eqb, Bool, true, false, if◌then◌else◌, ℤ, List, [], ◌∷◌, ◌++◌, length, map, take, sum, inl, inr, length-append}
use Rattle.std.specs.List.{AllByRecursion, IsDistinct, find}
use Rattle.std.specs.Option.{option_map_or}
use Rattle.std.proofs.lemmas.Bool.{cases_Bool, eqb-true, eqb-false, ne_eqb}
use Rattle.std.proofs.lemmas.List.Sums.{sum_by_push}
use Rattle.std.proofs.lemmas.Map.Keys.{IsDistinct-head, IsDistinct-tail}
use Rattle.uac_units.specs.Hearing.{at_most_u64}
use Rattle.uac_clock.specs.Ticks.{ticks_in}
use Rattle.uac_device.specs.DeviceWorld.{DeviceWorld, Domain, after_advance, next_ticks, step_in}
use Rattle.uac_device.specs.DeviceSums.{after_advances, ticks_over}
use Rattle.uac_running.specs.declared.counts.TickCount.{TickCount}
use Rattle.uac_topology.specs.Function.{FunctionFields}
use Rattle.uac_running.specs.RunningKept.{HasItsDomains, RunningFields}
use Rattle.uac_running.specs.TickCounts.{tick_count_of, more_counted}

-- a domain that is off by another deviation
abbrev pub off_by : ℕ → ℤ → Domain → Domain
off_by clock ppm d = if d.id == clock then record d { deviation = ppm } else d

-- ticks count steps alone
pub tick_count_of-off : (clock : ℕ) (ppm : ℤ) (ds : List Domain) → map tick_count_of (map (off_by clock ppm) ds) ≡ map tick_count_of ds
tick_count_of-off clock ppm [] = refl
tick_count_of-off clock ppm (d ∷ ds) =
    elim (cases_Bool (d.id == clock)) [
      | inl same ↦ rw same (ap (λ (cs : List TickCount). tick_count_of d ∷ cs) (tick_count_of-off clock ppm ds))
      | inr other ↦ rw other (ap (λ (cs : List TickCount). tick_count_of d ∷ cs) (tick_count_of-off clock ppm ds))
    ]

sum-push : (steps : List ℕ) (s : ℕ) → sum (steps ++ s ∷ []) ≡ sum steps + s
sum-push steps s = sum_by_push (λ n. n) steps s

front-push : (steps : List ℕ) (s : ℕ) → take (length (steps ++ s ∷ []) - 1) (steps ++ s ∷ []) ≡ steps
front-push steps s =
    let n : length (steps ++ s ∷ []) - 1 ≡ length steps = simp length-append (omega arith) in
    ap (λ k. take k (steps ++ s ∷ [])) n ∙ front steps s
  where
    front : (steps : List ℕ) (s : ℕ) → take (length steps) (steps ++ s ∷ []) ≡ steps
    front [] s = refl
    front (x ∷ xs) s = ap (λ ys. x ∷ ys) (front xs s)

-- a count that stands still at its most counts on from there
at_most_u64-more : (a b n : ℕ) → a + n ≡ b → at_most_u64 (at_most_u64 a + n) ≡ at_most_u64 b
at_most_u64-more a b n is = omega arith

-- the ticks so far and those of the step that comes are the ticks after it
ticks-push : (steps : List ℕ) (s : ℕ) → sum steps / 65536 + ticks_in (steps ++ s ∷ []) ≡ sum (steps ++ s ∷ []) / 65536
ticks-push steps s =
    let parts : ticks_in (steps ++ s ∷ []) ≡ sum (steps ++ s ∷ []) / 65536 - sum steps / 65536 = ap (λ front. sum (steps ++ s ∷ []) / 65536 - sum front / 65536) (front-push steps s) in
    omega (arith, sum-push steps s)

abbrev counted_of : ℕ → ℕ → TickCount
counted_of clock ticks = record { domain = clock; ticks = ticks }

-- a domain with one step more
abbrev pub stepped : ℕ → (Domain → ℕ) → Domain → Domain
stepped clock step d = if d.id == clock then record d { steps = d.steps ++ step d ∷ [] } else d

-- the clocks of the counts
abbrev pub clocks_of : List TickCount → List ℕ
clocks_of counts = map (λ c. c.domain) counts

others_stay : (clock x n : ℕ) (step : Domain → ℕ) (ds : List Domain) → x ≡ clock → AllByRecursion (λ y. eqb x y ≡ false) (clocks_of (map tick_count_of ds))
    → map (more_counted clock n) (map tick_count_of ds) ≡ map tick_count_of (map (stepped clock step) ds)
others_stay clock x n step [] is apart = refl
others_stay clock x n step (d ∷ ds) is apart =
    let other : (d.id == clock) ≡ false = ne_eqb d.id clock (λ e. eqb-false x d.id apart.0 (is ∙ sym e)) in
    rw other (ap (λ (cs : List TickCount). tick_count_of d ∷ cs) (others_stay clock x n step ds is apart.1))

-- where a domain goes on by a step, its ticks are counted
pub tick_count_of-stepped : (clock n : ℕ) (step : Domain → ℕ) (ds : List Domain) → IsDistinct eqb (clocks_of (map tick_count_of ds))
    → n ≡ option_map_or (λ d. ticks_in (d.steps ++ step d ∷ [])) (find (λ d. d.id == clock) ds) 0
    → map (more_counted clock n) (map tick_count_of ds) ≡ map tick_count_of (map (stepped clock step) ds)
tick_count_of-stepped clock n step [] once is = refl
tick_count_of-stepped clock n step (d ∷ ds) once is =
    elim (cases_Bool (d.id == clock)) [
      | inl same ↦
          (let m : n ≡ ticks_in (d.steps ++ step d ∷ []) = is ∙ rw same refl in
          rw same
          (ap (λ t. counted_of d.id t ∷ map (more_counted clock n) (map tick_count_of ds))
          (at_most_u64-more (sum d.steps / 65536) (sum (d.steps ++ step d ∷ []) / 65536) n (ap (λ k. sum d.steps / 65536 + k) m ∙ ticks-push d.steps (step d)))
          ∙ ap (λ (cs : List TickCount). counted_of d.id (at_most_u64 (sum (d.steps ++ step d ∷ []) / 65536)) ∷ cs)
          (others_stay clock d.id n step ds (eqb-true d.id clock same) (IsDistinct-head eqb d.id (clocks_of (map tick_count_of ds)) once))))
      | inr other ↦
          (let m : n ≡ option_map_or (λ (e : Domain). ticks_in (e.steps ++ step e ∷ [])) (find (λ (e : Domain). e.id == clock) ds) 0 = is ∙ rw other refl in
          rw other
          (ap (λ (cs : List TickCount). tick_count_of d ∷ cs) (tick_count_of-stepped clock n step ds (IsDistinct-tail eqb d.id (clocks_of (map tick_count_of ds)) once) m)))
    ]

-- the counts keep their clocks
pub clocks-more : (clock n : ℕ) (counts : List TickCount) → clocks_of (map (more_counted clock n) counts) ≡ clocks_of counts
clocks-more clock n [] = refl
clocks-more clock n (c ∷ cs) =
    elim (cases_Bool (c.domain == clock)) [
      | inl same ↦ rw same (ap (λ (ys : List ℕ). c.domain ∷ ys) (clocks-more clock n cs))
      | inr other ↦ rw other (ap (λ (ys : List ℕ). c.domain ∷ ys) (clocks-more clock n cs))
    ]

-- so many ticks and then so many more are counted at once
counted_join : (clock a b : ℕ) (counts : List TickCount) → map (more_counted clock b) (map (more_counted clock a) counts) ≡ map (more_counted clock (a + b)) counts
counted_join clock a b [] = refl
counted_join clock a b (c ∷ cs) =
    ap (λ (d : TickCount). d ∷ map (more_counted clock b) (map (more_counted clock a) cs)) (one (c.domain == clock) refl)
    ∙ ap (λ (ds : List TickCount). more_counted clock (a + b) c ∷ ds) (counted_join clock a b cs)
  where
    one : (on : Bool) → (c.domain == clock) ≡ on
        → more_counted clock b (if on then record c { ticks = at_most_u64 (c.ticks + a) } else c) ≡ (if on then record c { ticks = at_most_u64 (c.ticks + (a + b)) } else c)
    one true same =
        let sum : c.ticks + a + b ≡ c.ticks + (a + b) = omega arith in
        ap (λ (on : Bool). if on then record c { ticks = at_most_u64 (at_most_u64 (c.ticks + a) + b) } else record c { ticks = at_most_u64 (c.ticks + a) }) same
        ∙ ap (λ (ticks : ℕ). record c { ticks = ticks }) (at_most_u64-more (c.ticks + a) (c.ticks + (a + b)) b sum)
    one false other = ap (λ (on : Bool). if on then record c { ticks = at_most_u64 (c.ticks + b) } else c) other

no_more_counted : (clock : ℕ) (ds : List Domain) → map (more_counted clock 0) (map tick_count_of ds) ≡ map tick_count_of ds
no_more_counted clock [] = refl
no_more_counted clock (d ∷ ds) =
    ap (λ (c : TickCount). c ∷ map (more_counted clock 0) (map tick_count_of ds)) (one (d.id == clock))
    ∙ ap (λ (cs : List TickCount). tick_count_of d ∷ cs) (no_more_counted clock ds)
  where
    one : (on : Bool) → (if on then record (tick_count_of d) { ticks = at_most_u64 (at_most_u64 (sum d.steps / 65536) + 0) } else tick_count_of d) ≡ tick_count_of d
    one true =
        let same : sum d.steps / 65536 + 0 ≡ sum d.steps / 65536 = omega arith in
        ap (λ (ticks : ℕ). counted_of d.id ticks) (at_most_u64-more (sum d.steps / 65536) (sum d.steps / 65536) 0 same)
    one false = refl

-- where a domain's clock goes on by so many microframes, its ticks are counted
pub tick_count_of-over : (clock n : ℕ) (w : DeviceWorld) → IsDistinct eqb (clocks_of (map tick_count_of w.domains))
    → map (more_counted clock (ticks_over clock n w)) (map tick_count_of w.domains) ≡ map tick_count_of (after_advances clock n w).domains
unfolding after_advances ticks_over after_advance next_ticks
tick_count_of-over clock zero w once = no_more_counted clock w.domains
tick_count_of-over clock (suc n) w once =
    let before : map (more_counted clock (ticks_over clock n w)) (map tick_count_of w.domains) ≡ map tick_count_of (after_advances clock n w).domains =
    tick_count_of-over clock n w once in
    let same : clocks_of (map tick_count_of w.domains) ≡ clocks_of (map tick_count_of (after_advances clock n w).domains) =
    sym (clocks-more clock (ticks_over clock n w) (map tick_count_of w.domains)) ∙ ap clocks_of before in
    sym (counted_join clock (ticks_over clock n w) (next_ticks clock (after_advances clock n w)) (map tick_count_of w.domains))
    ∙ ap (map (more_counted clock (next_ticks clock (after_advances clock n w)))) before
    ∙ tick_count_of-stepped clock (next_ticks clock (after_advances clock n w)) (step_in (after_advances clock n w)) (after_advances clock n w).domains
    (subst (IsDistinct eqb) same once) refl

-- the domains stay counted once
pub domains_kept : (p q : RunningFields) → q.device.function ≡ p.device.function → clocks_of q.counts ≡ clocks_of p.counts → HasItsDomains p → HasItsDomains q
domains_kept p q function clocks h = record {
  counted = clocks ∙ h.counted ∙ ap (λ (fn : FunctionFields). fn.domains) (sym function);
  once = subst (IsDistinct eqb) (sym clocks) h.once;
}
