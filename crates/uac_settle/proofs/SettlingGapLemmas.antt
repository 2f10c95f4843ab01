-- Why a gap goes home: its report pulls by more than the clock deviates, or takes a 64th of the error away in each microframe.
use Rattle.std.proofs.Common.{arith, ◌≡◌, ℕ, ◌+◌, ◌-◌, ◌*◌, ◌<◌, ◌≤◌, ◌⊎◌, inl, inr, max, true, false, ap, sym, ◌∙◌, ℤ, pos, negsuc, ◌+ℤ◌, ◌-ℤ◌, ◌≤ℤ◌, subst}
use Rattle.std.proofs.Math.Nat.{mul-le-mul_left}
use Rattle.std.proofs.lemmas.Bool.{cases_lt}
use Rattle.std.proofs.lemmas.Int.{ints, clamps}
use Rattle.std.specs.Int.{int_min, int_max}
use Rattle.uac_clock.specs.declared.values.Nominal.{Nominal}
use Rattle.uac_clock.specs.Nominal.{StaysBetweenWholes}
use Rattle.uac_rate.specs.Reports.{report_of}
use Rattle.uac_rate.specs.Levels.{Point, level_and_remainder, target_and_remainder, Interval, TakesReport, IsCounted, Anchor, anchor_of, anchor_after_interval}
use Rattle.uac_rate.proofs.LevelsLemmas.{IsClampedReport, report_clamped}
use Rattle.uac_settle.specs.Settling.{pull_of, left_of, Gap, error_of}

shares : (x m k : ℕ) → k + m ≡ 64 → k * x + m * x ≡ 64 * x
shares x m k both = let all : (k + m) * x ≡ 64 * x = ap (λ (n : ℕ). n * x) both in omega arith

-- One side of the law. The error went from R, 65536 * L + h, over S, 65536 * T + c, to A over B, in m microframes at the value v.
-- Where the value pulls by more than the clock deviates, the error falls by the pull.
pulled : (A B v f e m R S pull : ℕ) → A + S + m * f ≤ B + R + m * v + m * e → v + e + pull ≤ f → A + S + m * pull ≤ B + R
pulled A B v f e m R S pull drift pulls = let times : m * (v + e + pull) ≤ m * f = mul-le-mul_left m pulls in omega arith

-- Where it asks for no more than the error, an error of at most four frames stays so.
stays : (A B v f e m k L T h c : ℕ) → A + (65536 * T + c) + m * f ≤ B + (65536 * L + h) + m * v + m * e → v + 1024 * L ≤ f + 1024 * T
    → k + m ≡ 64 → h < 65536 → 65535 + 64 * e ≤ 262144 → 65536 * L + h ≤ (65536 * T + c) + 262144 → A ≤ B + 262144
stays A B v f e m k L T h c drift asks both below slight start =
    let times : m * (v + 1024 * L) ≤ m * (f + 1024 * T) = mul-le-mul_left m asks in
    let begun : k * (65536 * L + h) ≤ k * ((65536 * T + c) + 262144) = mul-le-mul_left k start in
    let most : h + 64 * e ≤ 262144 = omega arith in
    let remainders : m * (h + 64 * e) ≤ m * 262144 = mul-le-mul_left m most in
    let ls = shares L m k both in
    let ts = shares T m k both in
    let hs = shares h m k both in
    let cs = shares c m k both in
    omega arith

one_side : (A B v f e m L T h c pull : ℕ) → A + (65536 * T + c) + m * f ≤ B + (65536 * L + h) + m * v + m * e
    → (v + e + pull ≤ f) ⊎ (v + 1024 * L ≤ f + 1024 * T) → m ≤ 32 → h < 65536 → 65535 + 64 * e ≤ 262144 → pull + e ≤ 4096
    → A ≤ B + max 262144 ((65536 * L + h) - (65536 * T + c) - m * pull)
one_side A B v f e m L T h c pull drift (inl pulls) young below slight least =
    let falls = pulled A B v f e m (65536 * L + h) (65536 * T + c) pull drift pulls in omega arith
one_side A B v f e m L T h c pull drift (inr asks) young below slight least = from (cases_lt ((65536 * T + c) + 262144) (65536 * L + h)) where
  from : ((65536 * T + c) + 262144 < 65536 * L + h) ⊎ (65536 * L + h ≤ (65536 * T + c) + 262144)
      → A ≤ B + max 262144 ((65536 * L + h) - (65536 * T + c) - m * pull)
  from (inl far) =
      let pulls : v + e + pull ≤ f = omega arith in
      let falls = pulled A B v f e m (65536 * L + h) (65536 * T + c) pull drift pulls in omega arith
  from (inr close) =
      let left : (64 - m) + m ≡ 64 = omega arith in
      let near = stays A B v f e m (64 - m) L T h c drift asks left below slight close in omega arith

-- the law
pub gap_home : (values : Nominal) (anchor : Anchor) (p : Point) → StaysBetweenWholes values → Gap values anchor p
    → (level_and_remainder p.level p.host ≤ target_and_remainder p.target p.clock
    + left_of (pull_of values) anchor.age (level_and_remainder anchor.level anchor.host - target_and_remainder p.target anchor.clock))
    × (target_and_remainder p.target p.clock ≤ level_and_remainder p.level p.host
    + left_of (pull_of values) anchor.age (target_and_remainder p.target anchor.clock - level_and_remainder anchor.level anchor.host))
gap_home values anchor p room gap = (
  one_side (level_and_remainder p.level p.host) (target_and_remainder p.target p.clock) p.value values.f values.e anchor.age anchor.level p.target anchor.host anchor.clock
      (pull_of values) (omega (arith, gap.drift)) (above held.above) gap.young gap.host slight least,
  one_side (target_and_remainder p.target p.clock) (level_and_remainder p.level p.host) values.f p.value values.e anchor.age p.target anchor.level anchor.clock anchor.host
      (pull_of values) (omega (arith, gap.drift)) (below held.below) gap.young gap.clock slight least,
) where
  held : IsClampedReport values p.target anchor.level (report_of values p.target anchor.level)
  held = report_clamped values p.target anchor.level (omega (arith, room.below, room.above))

  slight : 65535 + 64 * values.e ≤ 262144
  slight = omega (arith, room.slight)

  least : pull_of values + values.e ≤ 4096
  least = omega (arith, room.slight)

  above : (report_of values p.target anchor.level ≡ values.lo * 65536) ⊎ (report_of values p.target anchor.level + 1024 * anchor.level ≤ values.f + 1024 * p.target)
      → (p.value + values.e + pull_of values ≤ values.f) ⊎ (p.value + 1024 * anchor.level ≤ values.f + 1024 * p.target)
  above (inl held) = inl (omega (arith, room.below, gap.value))
  above (inr asks) = inr (omega (arith, gap.value))

  below : (report_of values p.target anchor.level ≡ values.hi * 65536) ⊎ (values.f + 1024 * p.target ≤ report_of values p.target anchor.level + 1024 * anchor.level)
      → (values.f + values.e + pull_of values ≤ p.value) ⊎ (values.f + 1024 * p.target ≤ p.value + 1024 * anchor.level)
  below (inl held) = inl (omega (arith, room.above, gap.value))
  below (inr asks) = inr (omega (arith, gap.value))

-- the same over the integers, over plain numbers
over : (A B R S g : ℕ) → A ≤ B + max 262144 (R - S - g) → B ≤ A + max 262144 (S - R - g)
    → (int_min (negsuc 262143) ((pos R -ℤ pos S) +ℤ pos g) ≤ℤ (pos A -ℤ pos B)) × ((pos A -ℤ pos B) ≤ℤ int_max (pos 262144) ((pos R -ℤ pos S) -ℤ pos g))
over A B R S g high low = (omega (arith, ints, clamps), omega (arith, ints, clamps))

error_is : (level target host clock : ℕ) → error_of level target host clock ≡ pos (65536 * level + host) -ℤ pos (65536 * target + clock)
error_is level target host clock = omega (arith, ints)

pub gap_over_integers : (values : Nominal) (anchor : Anchor) (p : Point) → StaysBetweenWholes values → Gap values anchor p
    → (int_min (negsuc 262143) (error_of anchor.level p.target anchor.host anchor.clock +ℤ pos (anchor.age * pull_of values))
    ≤ℤ error_of p.level p.target p.host p.clock)
    × (error_of p.level p.target p.host p.clock
    ≤ℤ int_max (pos 262144) (error_of anchor.level p.target anchor.host anchor.clock -ℤ pos (anchor.age * pull_of values)))
gap_over_integers values anchor p room gap =
    let home = gap_home values anchor p room gap in
    let first = error_is anchor.level p.target anchor.host anchor.clock in
    let last = error_is p.level p.target p.host p.clock in
    let all = over (level_and_remainder p.level p.host) (target_and_remainder p.target p.clock) (level_and_remainder anchor.level anchor.host) (target_and_remainder p.target anchor.clock)
    (anchor.age * pull_of values) home.0 home.1 in
    subst (λ (x : ℤ). (int_min (negsuc 262143) (x +ℤ pos (anchor.age * pull_of values)) ≤ℤ error_of p.level p.target p.host p.clock)
    × (error_of p.level p.target p.host p.clock ≤ℤ int_max (pos 262144) (x -ℤ pos (anchor.age * pull_of values)))) (sym first)
    (subst (λ (y : ℤ). (int_min (negsuc 262143) ((pos (level_and_remainder anchor.level anchor.host) -ℤ pos (target_and_remainder p.target anchor.clock)) +ℤ pos (anchor.age * pull_of values)) ≤ℤ y)
    × (y ≤ℤ int_max (pos 262144) ((pos (level_and_remainder anchor.level anchor.host) -ℤ pos (target_and_remainder p.target anchor.clock)) -ℤ pos (anchor.age * pull_of values)))) (sym last) all)

-- a gap begins
pub gap_begins : (values : Nominal) (period : ℕ) (p q : Point) → TakesReport values period false p q → IsCounted period p → Gap values (anchor_of q) q
gap_begins values period p q r counted = record {
  host = omega (arith, counted.host, r.host_is);
  clock = omega (arith, counted.clock, r.clock_is);
  value = r.value_is ∙ ap (λ (n : ℕ). report_of values n p.level) (sym r.target_is) ∙ ap (λ (n : ℕ). report_of values q.target n) (sym r.level_is);
  young = omega arith;
  drift = (omega arith, omega arith);
}

-- and goes on
pub gap_interval : (values : Nominal) (service period : ℕ) (anchor : Anchor) (p q : Point) → Interval values service period false p q
    → anchor.age + service ≤ 32 → Gap values anchor p → Gap values (anchor_after_interval service anchor) q
gap_interval values service period anchor p q i young gap =
    let same : (anchor.age + service) * q.value ≡ (anchor.age + service) * p.value = ap (λ (n : ℕ). (anchor.age + service) * n) i.value_is in
    let moved : level_and_remainder q.level q.host + target_and_remainder p.target p.clock + i.steps ≡ level_and_remainder p.level p.host + target_and_remainder q.target q.clock + service * p.value = omega arith in
    record {
      host = gap.host;
      clock = gap.clock;
      value = i.value_is ∙ gap.value ∙ ap (λ (n : ℕ). report_of values n anchor.level) (sym i.target_is);
      young = young;
      drift = (omega (arith, gap.drift, i.slight, i.target_is), omega (arith, gap.drift, i.slight, i.target_is));
    }

pub gap_lost_report : (values : Nominal) (period : ℕ) (anchor : Anchor) (p q : Point) → TakesReport values period true p q → Gap values anchor p → Gap values anchor q
gap_lost_report values period anchor p q r gap =
    let product : anchor.age * q.value ≡ anchor.age * p.value = ap (λ (n : ℕ). anchor.age * n) r.value_is in
    record {
      host = gap.host;
      clock = gap.clock;
      value = r.value_is ∙ gap.value ∙ ap (λ (n : ℕ). report_of values n anchor.level) (sym r.target_is);
      young = gap.young;
      drift = (
        omega (arith, gap.drift, r.level_is, r.host_is, r.clock_is, r.target_is),
        omega (arith, gap.drift, r.level_is, r.host_is, r.clock_is, r.target_is),
      );
    }
