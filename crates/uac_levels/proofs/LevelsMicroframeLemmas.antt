-- Numbers of a microframe: how a clock goes on, and where in its service interval a stream is.
use Rattle.std.proofs.Common.{arith, ◌≡◌, ◌∙◌, sym, ap, subst, ℕ, ◌+◌, ◌-◌, ◌*◌, ◌/◌, ◌%◌, ◌<◌, ◌≤◌, add-one, List, [], ◌∷◌, ◌++◌, length, sum, replicate, inl, inr}
use Rattle.std.proofs.lemmas.List.{length-replicate}
use Rattle.std.proofs.lemmas.List.Folds.{sum_by-replicate}
use Rattle.uac_clock.specs.Ticks.{ticks_in}
use Rattle.uac_rate.specs.Levels.{AreIntervals, IsInterval, Within}
use Rattle.uac_rate.specs.PacketSizes.{frames_in_packet}
use Rattle.uac_rate.proofs.LevelsLemmas.{falls_due}
use Rattle.uac_rate.proofs.PacketSizesLemmas.{by_remainder}

-- a clock goes on by a step
clock_on : (before step clock steps : ℕ) → before % 65536 ≡ (clock + steps) % 65536
    → ((before % 65536 + step) / 65536 + (clock + steps) / 65536 ≡ (clock + (steps + step)) / 65536)
    × ((before % 65536 + step) % 65536 ≡ (clock + (steps + step)) % 65536)
clock_on before step clock steps same = (omega arith, omega arith)

pub clock_goes : (all : List ℕ) (step clock steps : ℕ) → sum all % 65536 ≡ (clock + steps) % 65536
    → ((clock + steps) / 65536 + ticks_in (all ++ step ∷ []) ≡ (clock + (steps + step)) / 65536)
    × (sum (all ++ step ∷ []) % 65536 ≡ (clock + (steps + step)) % 65536)
clock_goes all step clock steps same =
    let by = by_remainder all (step ∷ []) in
    let on = clock_on (sum all) step clock steps same in
    let one : sum (step ∷ []) ≡ step = omega arith in
    let ticks : ticks_in (all ++ step ∷ []) ≡ (sum all % 65536 + sum (step ∷ [])) / 65536 = by.0 in
    (omega (arith, on.0), omega (arith, by.1, on.1))

pub times_more : (n x : ℕ) → (n + 1) * x ≡ n * x + x
times_more n x = rw add-one (omega arith)

pub slight_goes : (n e f steps step : ℕ) → Within (n * e) steps (n * f) → Within e step f
    → Within ((n + 1) * e) (steps + step) ((n + 1) * f)
slight_goes n e f steps step all one =
    let more = times_more n e in
    let more_f = times_more n f in
    (omega (arith, all.0, one.0), omega (arith, all.1, one.1))

-- a packet's frames, by the remainder before it
pub packet_frames : (service value : ℕ) (used : List ℕ)
    → (frames_in_packet service (used ++ replicate service value) ≡ (sum used % 65536 + service * value) / 65536)
    × (sum (used ++ replicate service value) % 65536 ≡ (sum used % 65536 + service * value) % 65536)
packet_frames service value used =
    let by = by_remainder used (replicate service value) in
    let long : length (replicate service value) ≡ service = length-replicate service value in
    let gives : sum (replicate service value) ≡ service * value = sum_by-replicate (λ (x : ℕ). x) service value in (
      sym (ap (λ (n : ℕ). frames_in_packet n (used ++ replicate service value)) long) ∙ by.0
          ∙ ap (λ (n : ℕ). (sum used % 65536 + n) / 65536) gives,
      by.1 ∙ ap (λ (n : ℕ). (sum used % 65536 + n) % 65536) gives,
    )

-- where in its service interval a stream is after n microframes, and after one more
pub record IsPlacedAt (s n : ℕ) : Type 0 where
  pub within : 0 < (n + 1) % s → (n + 1) % s ≡ n % s + 1
  pub start : 0 < (n + 1) % s → (n + 1) - (n + 1) % s ≡ n - n % s
  pub ends : (n + 1) % s ≡ 0 → n % s + 1 ≡ s
  pub count : (n + 1) % s ≡ 0 → (n - n % s) + s ≡ n + 1
  pub whole : (n - n % s) % s ≡ 0
  pub less : (n + 1) % s < s
  pub next : n % s + 1 ≤ s
  pub some : 1 ≤ s

pub placed_at : (s n : ℕ) → IsInterval s → IsPlacedAt s n
placed_at s n (inl h) = subst (λ (k : ℕ). IsPlacedAt k n) (sym h) (record {
  within = λ h. omega arith;
  start = λ h. omega arith;
  ends = λ h. omega arith;
  count = λ h. omega arith;
  whole = omega arith;
  less = omega arith;
  next = omega arith;
  some = omega arith;
})
placed_at s n (inr (inl h)) = subst (λ (k : ℕ). IsPlacedAt k n) (sym h) (record {
  within = λ h. omega arith;
  start = λ h. omega arith;
  ends = λ h. omega arith;
  count = λ h. omega arith;
  whole = omega arith;
  less = omega arith;
  next = omega arith;
  some = omega arith;
})
placed_at s n (inr (inr (inl h))) = subst (λ (k : ℕ). IsPlacedAt k n) (sym h) (record {
  within = λ h. omega arith;
  start = λ h. omega arith;
  ends = λ h. omega arith;
  count = λ h. omega arith;
  whole = omega arith;
  less = omega arith;
  next = omega arith;
  some = omega arith;
})
placed_at s n (inr (inr (inr h))) = subst (λ (k : ℕ). IsPlacedAt k n) (sym h) (record {
  within = λ h. omega arith;
  start = λ h. omega arith;
  ends = λ h. omega arith;
  count = λ h. omega arith;
  whole = omega arith;
  less = omega arith;
  next = omega arith;
  some = omega arith;
})

-- within a service interval no report falls due
none_within : (s p count r : ℕ) → IsInterval p → count % p + s ≤ p → 0 < r → r < s → 0 < (count + r) % p
none_within s p count r (inl h) fits some less = absurd (omega arith)
none_within s p count r (inr (inl h)) fits some less =
    subst (λ (k : ℕ). 0 < (count + r) % k) (sym h) (let fits2 = subst (λ (k : ℕ). count % k + s ≤ k) h fits in omega arith)
none_within s p count r (inr (inr (inl h))) fits some less =
    subst (λ (k : ℕ). 0 < (count + r) % k) (sym h) (let fits4 = subst (λ (k : ℕ). count % k + s ≤ k) h fits in omega arith)
none_within s p count r (inr (inr (inr h))) fits some less =
    subst (λ (k : ℕ). 0 < (count + r) % k) (sym h) (let fits8 = subst (λ (k : ℕ). count % k + s ≤ k) h fits in omega arith)

pub no_report : (s p n : ℕ) → AreIntervals s p → 0 < (n + 1) % s → 0 < (n + 1) % p
no_report s p n intervals waits =
    let at = placed_at s n intervals.serves in
    let falls = falls_due s p (n - n % s) intervals at.whole in
    let start = at.start waits in
    let same : (n - n % s) + (n + 1) % s ≡ n + 1 = back (n + 1) ((n + 1) % s) (n - n % s) (rest_le (n + 1) s at.some) start in
    subst (λ (k : ℕ). 0 < k % p) same
    (none_within s p (n - n % s) ((n + 1) % s) intervals.reports falls.in_time waits at.less)
  where
    back : (m r c : ℕ) → r ≤ m → m - r ≡ c → c + r ≡ m
    back m r c less is = omega arith

    rest_le : (m s : ℕ) → 1 ≤ s → m % s ≤ m
    rest_le m s some = let up : 0 < s = omega arith in omega arith
