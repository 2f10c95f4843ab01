-- Why the bands are kept: an interval moves the level by at most two frames for each microframe, and a report turns it home.
use Rattle.std.proofs.Common.{arith, ◌≡◌, ℕ, suc, ◌+◌, ◌-◌, ◌*◌, ◌/◌, ◌%◌, ◌<◌, ◌≤◌, ◌⊎◌, inl, inr, if◌then◌else◌, Bool, true, false, ℤ, pos, negsuc, Some, None, leb, refl, ap, sym, subst, ◌∙◌}
use Rattle.std.proofs.Math.Nat.{mul-le-mul_left, mul-le-mul_right}
use Rattle.std.proofs.lemmas.Bool.{cases_lt, leb-true}
use Rattle.std.proofs.Math.Bool.{and-true}
use Rattle.std.proofs.lemmas.Nat.{mul-le}
use Rattle.uac_clock.specs.declared.values.Nominal.{Nominal}
use Rattle.uac_clock.specs.Nominal.{StaysBetweenWholes, IsNominal, is_listed, values_of, nominal_of, step_of}
use Rattle.uac_rate.specs.Reports.{report_of}
use Rattle.uac_rate.specs.Steadiness.{is_slight}
use Rattle.uac_rate.specs.Levels.{HasBand, IsInterval, AreIntervals, Point, Within, level_and_remainder, target_and_remainder, since, frames_came, Interval, value_after, TakesReport, IsLow, IsHigh, IsTarget, IsCounted, IsRobust, Anchor, anchor_of, anchor_after_interval, anchor_after, tight_bound, HasDrifted, IsTight, IsJustPrimed, IsPriming, Fills, Moment, IsSafeLevel, FallsDue}

-- an interval has 1 to 8 microframes
pub interval_size : (n : ℕ) → IsInterval n → (1 ≤ n) × (n ≤ 8)
interval_size n (inl h) = (omega arith, omega arith)
interval_size n (inr (inl h)) = (omega arith, omega arith)
interval_size n (inr (inr (inl h))) = (omega arith, omega arith)
interval_size n (inr (inr (inr h))) = (omega arith, omega arith)

-- the whole frames of so many times a value between whole numbers
paced_least : (s host v n : ℕ) → n * 65536 ≤ v → s * n ≤ (host + s * v) / 65536
paced_least s host v n h = let more : s * (n * 65536) ≤ s * v = mul-le-mul_left s h in omega arith

paced_most : (s host v n : ℕ) → host < 65536 → v ≤ n * 65536 → (host + s * v) / 65536 ≤ s * n
paced_most s host v n below h = let less : s * v ≤ s * (n * 65536) = mul-le-mul_left s h in omega arith

ticked_least : (s clock steps f e n : ℕ) → s * f ≤ steps + s * e → n * 65536 + e < f → s * n ≤ (clock + steps) / 65536
ticked_least s clock steps f e n slow h =
    let e_and : n * 65536 + e ≤ f = omega arith in
    let more : s * (n * 65536 + e) ≤ s * f = mul-le-mul_left s e_and in
    omega arith

ticked_most : (s clock steps f e n : ℕ) → clock < 65536 → steps ≤ s * f + s * e → f + e < n * 65536 → (clock + steps) / 65536 ≤ s * n
ticked_most s clock steps f e n below fast h =
    let f_and : f + e ≤ n * 65536 = omega arith in
    let less : s * (f + e) ≤ s * (n * 65536) = mul-le-mul_left s f_and in
    omega arith

-- what packets and ticks of an interval lie between
pub record Bounds (values : Nominal) (service sent ticks : ℕ) : Type 0 where
  pub sent_least : service * values.lo ≤ sent
  pub sent_most : sent ≤ service * values.hi
  pub ticks_least : service * values.lo ≤ ticks
  pub ticks_most : ticks ≤ service * values.hi
  pub apart : service * values.hi ≤ service * values.lo + 2 * service

pub bounds : (values : Nominal) (band service period : ℕ) (packet_lost : Bool) (p q : Point) → HasBand values band
    → (i : Interval values service period packet_lost p q) → IsCounted period p → values.lo * 65536 ≤ p.value → p.value ≤ values.hi * 65536
    → Bounds values service i.sent i.ticks
bounds values band service period packet_lost p q facts i counted least most =
    let close : service * values.hi ≤ service * (values.lo + 2) = mul-le-mul_left service facts.apart in
    let a = paced_least service p.host p.value values.lo least in
    let b = paced_most service p.host p.value values.hi counted.host most in
    let c = ticked_least service p.clock i.steps values.f values.e values.lo i.slight.1 facts.below in
    let d = ticked_most service p.clock i.steps values.f values.e values.hi counted.clock i.slight.0 facts.above in
    record { sent_least = omega arith; sent_most = omega arith; ticks_least = omega arith; ticks_most = omega arith; apart = omega arith }

since_interval : (values : Nominal) (service period : ℕ) (packet_lost : Bool) (p q : Point) → Interval values service period packet_lost p q
    → since period q ≡ since period p + service
since_interval values service period packet_lost p q i = let same : q.lost * period ≡ p.lost * period = ap (λ (n : ℕ). n * period) i.lost_is in omega arith

pub interval_counted : (values : Nominal) (service period : ℕ) (packet_lost : Bool) (p q : Point)
    → Interval values service period packet_lost p q → IsCounted period p → IsCounted period q
interval_counted values service period packet_lost p q i counted =
    record { host = omega arith; clock = omega arith; lost = omega arith; waited = i.in_time }

same_target : (service t u : ℕ) → u ≡ t → IsTarget service t → IsTarget service u
same_target service t u same h = subst (λ (n : ℕ). IsTarget service n) (sym same) h

interval_low : (values : Nominal) (band service period : ℕ) (packet_lost : Bool) (p q : Point)
    → HasBand values band → Interval values service period packet_lost p q → IsRobust values band service period p
    → IsLow values band period p → IsLow values band period q
interval_low values band service period packet_lost p q facts i robust (inl far) =
    let b = bounds values band service period packet_lost p q facts i robust.counted robust.least robust.most in
    let later = since_interval values service period packet_lost p q i in
    inl (from packet_lost i.level_is) where
      from : (lost : Bool) → q.level + i.ticks ≡ p.level + frames_came lost i.sent i.ticks → q.target ≤ q.level + band + 2 * since period q
      from false level =
          let b = bounds values band service period packet_lost p q facts i robust.counted robust.least robust.most in
          let later = since_interval values service period packet_lost p q i in
          omega arith
      from true level = let later = since_interval values service period packet_lost p q i in omega arith
interval_low values band service period packet_lost p q facts i robust (inr held) = inr (from packet_lost i.level_is, i.value_is ∙ held.1) where
  from : (lost : Bool) → q.level + i.ticks ≡ p.level + frames_came lost i.sent i.ticks → q.target ≤ q.level + band + 64
  from false level =
      let b = bounds values band service period packet_lost p q facts i robust.counted robust.least robust.most in
      let greatest : values.hi * 65536 ≤ p.value = omega arith in
      let all = paced_least service p.host p.value values.hi greatest in
      omega arith
  from true level = omega arith

interval_high : (values : Nominal) (band service period : ℕ) (packet_lost : Bool) (p q : Point)
    → HasBand values band → Interval values service period packet_lost p q → IsRobust values band service period p
    → IsHigh values band period p → IsHigh values band period q
interval_high values band service period packet_lost p q facts i robust (inl far) = inl (from packet_lost i.level_is) where
  from : (lost : Bool) → q.level + i.ticks ≡ p.level + frames_came lost i.sent i.ticks → q.level ≤ q.target + band + 2 * since period q
  from false level =
      let b = bounds values band service period packet_lost p q facts i robust.counted robust.least robust.most in
      let later = since_interval values service period packet_lost p q i in
      omega arith
  from true level = let later = since_interval values service period packet_lost p q i in omega arith
interval_high values band service period packet_lost p q facts i robust (inr held) = inr (from packet_lost i.level_is, i.value_is ∙ held.1) where
  from : (lost : Bool) → q.level + i.ticks ≡ p.level + frames_came lost i.sent i.ticks → q.level ≤ q.target + band + 64
  from false level =
      let b = bounds values band service period packet_lost p q facts i robust.counted robust.least robust.most in
      let least : p.value ≤ values.lo * 65536 = omega arith in
      let all = paced_most service p.host p.value values.lo robust.counted.host least in
      omega arith
  from true level = omega arith

pub interval_robust : (values : Nominal) (band service period : ℕ) (packet_lost : Bool) (p q : Point)
    → HasBand values band → Interval values service period packet_lost p q → IsRobust values band service period p → IsRobust values band service period q
interval_robust values band service period packet_lost p q facts i robust = record {
  counted = interval_counted values service period packet_lost p q i robust.counted;
  low = interval_low values band service period packet_lost p q facts i robust robust.low;
  high = interval_high values band service period packet_lost p q facts i robust robust.high;
  least = omega (arith, robust.least, i.value_is);
  most = omega (arith, robust.most, i.value_is);
  target = same_target service p.target q.target i.target_is robust.target;
}

-- at most 32 microframes pass without a report
pub not_long : (period : ℕ) (p : Point) → IsInterval period → IsCounted period p → since period p ≤ 32
not_long period p reports counted =
    let short = interval_size period reports in
    let thrice : p.lost * period ≤ 3 * 8 = mul-le p.lost period 3 8 counted.lost short.1 in
    omega arith

report_counted : (values : Nominal) (period : ℕ) (report_lost : Bool) (p q : Point)
    → TakesReport values period report_lost p q → IsCounted period p → IsCounted period q
report_counted values period report_lost p q r counted =
    record { host = omega arith; clock = omega arith; lost = r.few; waited = omega arith }

-- a lost report changes neither the value in force nor the time since one came
since_lost : (values : Nominal) (period : ℕ) (p q : Point) → TakesReport values period true p q → since period q ≡ since period p
since_lost values period p q r =
    let more : q.lost * period ≡ suc p.lost * period = ap (λ (n : ℕ). n * period) r.lost_is in
    omega arith

-- a report lies between the least packet and the greatest, and is one of them, or exact
pub record IsClampedReport (values : Nominal) (target level value : ℕ) : Type 0 where
  pub least : values.lo * 65536 ≤ value
  pub most : value ≤ values.hi * 65536
  pub above : (value ≡ values.lo * 65536) ⊎ (value + 1024 * level ≤ values.f + 1024 * target)
  pub below : (value ≡ values.hi * 65536) ⊎ (values.f + 1024 * target ≤ value + 1024 * level)

pub report_clamped : (values : Nominal) (target level : ℕ) → values.lo ≤ values.hi → IsClampedReport values target level (report_of values target level)
report_clamped values target level order = record {
  least = omega arith;
  most = omega arith;
  above = elim (cases_lt (values.f + 1024 * target) (1024 * level + values.lo * 65536)) [ inl h ↦ inl (omega arith) | inr h ↦ inr (omega arith) ];
  below = elim (cases_lt (values.f + 1024 * target) (1024 * level + values.hi * 65536)) [ inl h ↦ inr (omega arith) | inr h ↦ inl (omega arith) ];
}

-- of a robust stream the level is near the target
pub robust_near : (values : Nominal) (band service period : ℕ) (p : Point) → IsInterval period
    → IsRobust values band service period p → Within (band + 64) p.level p.target
robust_near values band service period p reports robust = (below robust.high, above robust.low) where
  above : IsLow values band period p → p.target ≤ p.level + (band + 64)
  above (inl far) = let short = not_long period p reports robust.counted in omega arith
  above (inr held) = omega arith

  below : IsHigh values band period p → p.level ≤ p.target + (band + 64)
  below (inl far) = let short = not_long period p reports robust.counted in omega arith
  below (inr held) = omega arith

report_low : (values : Nominal) (band service period : ℕ) (report_lost : Bool) (p q : Point) → HasBand values band → IsInterval period
    → TakesReport values period report_lost p q → IsRobust values band service period p → IsLow values band period p → IsLow values band period q
report_low values band service period false p q facts reports r robust low = from (cases_lt (p.level + band) p.target) where
  held : IsClampedReport values p.target p.level (report_of values p.target p.level)
  held = report_clamped values p.target p.level (omega (arith, facts.below, facts.above))

  greatest : p.level + band < p.target → q.value ≡ values.hi * 65536
  greatest far = value_is held.below where
    value_is : (report_of values p.target p.level ≡ values.hi * 65536) ⊎ (values.f + 1024 * p.target ≤ report_of values p.target p.level + 1024 * p.level)
        → q.value ≡ values.hi * 65536
    value_is (inl same) = r.value_is ∙ same
    value_is (inr more) = omega (arith, held.most, facts.up, r.value_is)

  from : (p.level + band < p.target) ⊎ (p.target ≤ p.level + band) → IsLow values band period q
  from (inl far) = let near = robust_near values band service period p reports robust in inr (omega arith, greatest far)
  from (inr close) = inl (omega arith)
report_low values band service period true p q facts reports r robust (inl far) =
    let same = since_lost values period p q r in inl (omega arith)
report_low values band service period true p q facts reports r robust (inr held) = inr (omega arith, r.value_is ∙ held.1)

report_high : (values : Nominal) (band service period : ℕ) (report_lost : Bool) (p q : Point) → HasBand values band → IsInterval period
    → TakesReport values period report_lost p q → IsRobust values band service period p → IsHigh values band period p → IsHigh values band period q
report_high values band service period false p q facts reports r robust high = from (cases_lt (p.target + band) p.level) where
  held : IsClampedReport values p.target p.level (report_of values p.target p.level)
  held = report_clamped values p.target p.level (omega (arith, facts.below, facts.above))

  least : p.target + band < p.level → q.value ≡ values.lo * 65536
  least far = value_is held.above where
    value_is : (report_of values p.target p.level ≡ values.lo * 65536) ⊎ (report_of values p.target p.level + 1024 * p.level ≤ values.f + 1024 * p.target)
        → q.value ≡ values.lo * 65536
    value_is (inl same) = r.value_is ∙ same
    value_is (inr less) = omega (arith, held.least, facts.down, r.value_is)

  from : (p.target + band < p.level) ⊎ (p.level ≤ p.target + band) → IsHigh values band period q
  from (inl far) = let near = robust_near values band service period p reports robust in inr (omega arith, least far)
  from (inr close) = inl (omega arith)
report_high values band service period true p q facts reports r robust (inl far) =
    let same = since_lost values period p q r in inl (omega arith)
report_high values band service period true p q facts reports r robust (inr held) = inr (omega arith, r.value_is ∙ held.1)

value_in_range : (values : Nominal) (band service period : ℕ) (report_lost : Bool) (p : Point) → HasBand values band
    → IsRobust values band service period p
    → (values.lo * 65536 ≤ value_after report_lost values p) × (value_after report_lost values p ≤ values.hi * 65536)
value_in_range values band service period false p facts robust =
    let held = report_clamped values p.target p.level (omega (arith, facts.below, facts.above)) in (held.least, held.most)
value_in_range values band service period true p facts robust = (robust.least, robust.most)

pub report_robust : (values : Nominal) (band service period : ℕ) (report_lost : Bool) (p q : Point)
    → HasBand values band → AreIntervals service period → TakesReport values period report_lost p q
    → IsRobust values band service period p → IsRobust values band service period q
report_robust values band service period report_lost p q facts intervals r robust =
    let range = value_in_range values band service period report_lost p facts robust in
    record {
      counted = report_counted values period report_lost p q r robust.counted;
      low = report_low values band service period report_lost p q facts intervals.reports r robust robust.low;
      high = report_high values band service period report_lost p q facts intervals.reports r robust robust.high;
      least = omega (arith, range, r.value_is);
      most = omega (arith, range, r.value_is);
      target = same_target service p.target q.target r.target_is robust.target;
    }

-- One half of the free formula: k and m are 64 together, and the value in force asks for no more than the anchor's error, L frames for T.
free_half : (A B v f e m k L T h c : ℕ) → A + (65536 * T + c) + m * f ≤ B + (65536 * L + h) + m * v + m * e
    → v + 1024 * L ≤ f + 1024 * T → k + m ≡ 64
    → 64 * A + k * (65536 * T + c) + m * c ≤ 64 * B + k * (65536 * L + h) + m * h + 64 * (m * e)
free_half A B v f e m k L T h c drift asks both =
    let times : m * (v + 1024 * L) ≤ m * (f + 1024 * T) = mul-le-mul_left m asks in
    let ls = shares L m k both in
    let ts = shares T m k both in
    let hs = shares h m k both in
    let cs = shares c m k both in
    omega arith where
      shares : (x m k : ℕ) → k + m ≡ 64 → k * x + m * x ≡ 64 * x
      shares x m k both = let all : (k + m) * x ≡ 64 * x = ap (λ (n : ℕ). n * x) both in omega arith

-- so the error is as small as it was at the anchor
near_half : (A B v f e m k L T h c : ℕ) → A + (65536 * T + c) + m * f ≤ B + (65536 * L + h) + m * v + m * e
    → v + 1024 * L ≤ f + 1024 * T → k + m ≡ 64 → h < 65536 → 65536 * L + h ≤ (65536 * T + c) + (65535 + 64 * e)
    → A ≤ B + (65535 + 64 * e)
near_half A B v f e m k L T h c drift asks both below start =
    let free = free_half A B v f e m k L T h c drift asks both in
    let begun : k * (65536 * L + h) ≤ k * ((65536 * T + c) + (65535 + 64 * e)) = mul-le-mul_left k start in
    let most : h ≤ 65535 = omega arith in
    let remainders : m * h ≤ m * 65535 = mul-le-mul_left m most in
    let all : (k + m) * e ≡ 64 * e = ap (λ (n : ℕ). n * e) both in
    omega arith

-- the same where the value is clamped, and pulls home at least as much as the clock deviates
held_half : (A B v f e m S R D : ℕ) → A + S + m * f ≤ B + R + m * v + m * e → v + e ≤ f → R ≤ S + D → A ≤ B + D
held_half A B v f e m S R D drift pulls start =
    let times : m * (v + e) ≤ m * f = mul-le-mul_left m pulls in
    omega arith

-- a tight stream is as near its target, remainders counted, as its anchor was
pub tight_near : (values : Nominal) (band period : ℕ) (anchor : Anchor) (p : Point) → HasBand values band → IsInterval period
    → IsTight values period anchor p → Within (tight_bound values) (level_and_remainder p.level p.host) (target_and_remainder p.target p.clock)
tight_near values band period anchor p facts reports tight = (above held.above, below held.below) where
  held : IsClampedReport values p.target anchor.level (report_of values p.target anchor.level)
  held = report_clamped values p.target anchor.level (omega (arith, facts.below, facts.above))

  left : (64 - anchor.age) + anchor.age ≡ 64
  left = let short = not_long period p reports tight.counted in omega (arith, tight.age)

  above : (report_of values p.target anchor.level ≡ values.lo * 65536) ⊎ (report_of values p.target anchor.level + 1024 * anchor.level ≤ values.f + 1024 * p.target)
      → level_and_remainder p.level p.host ≤ target_and_remainder p.target p.clock + tight_bound values
  above (inl least) =
      held_half (level_and_remainder p.level p.host) (target_and_remainder p.target p.clock) p.value values.f values.e anchor.age (target_and_remainder p.target anchor.clock)
      (level_and_remainder anchor.level anchor.host) (tight_bound values) (omega (arith, tight.drift)) (omega (arith, facts.below, tight.value)) tight.start.0
  above (inr asks) =
      near_half (level_and_remainder p.level p.host) (target_and_remainder p.target p.clock) p.value values.f values.e anchor.age (64 - anchor.age) anchor.level p.target anchor.host
      anchor.clock (omega (arith, tight.drift)) (omega (arith, tight.value)) left tight.host tight.start.0

  below : (report_of values p.target anchor.level ≡ values.hi * 65536) ⊎ (values.f + 1024 * p.target ≤ report_of values p.target anchor.level + 1024 * anchor.level)
      → target_and_remainder p.target p.clock ≤ level_and_remainder p.level p.host + tight_bound values
  below (inl greatest) =
      held_half (target_and_remainder p.target p.clock) (level_and_remainder p.level p.host) values.f p.value values.e anchor.age (level_and_remainder anchor.level anchor.host)
      (target_and_remainder p.target anchor.clock) (tight_bound values) (omega (arith, tight.drift)) (omega (arith, facts.above, tight.value)) tight.start.1
  below (inr asks) =
      near_half (target_and_remainder p.target p.clock) (level_and_remainder p.level p.host) values.f p.value values.e anchor.age (64 - anchor.age) p.target anchor.level anchor.clock
      anchor.host (omega (arith, tight.drift)) (omega (arith, tight.value)) left tight.clock tight.start.1

-- the free formula
pub free : (values : Nominal) (anchor : Anchor) (p : Point) → anchor.age ≤ 64 → p.value + 1024 * anchor.level ≡ values.f + 1024 * p.target
    → HasDrifted values anchor p
    → Within (64 * (anchor.age * values.e))
    (64 * level_and_remainder p.level p.host + (64 - anchor.age) * target_and_remainder p.target anchor.clock + anchor.age * anchor.clock)
    (64 * target_and_remainder p.target p.clock + (64 - anchor.age) * level_and_remainder anchor.level anchor.host + anchor.age * anchor.host)
free values anchor p young asks drift =
    let left : (64 - anchor.age) + anchor.age ≡ 64 = omega arith in (
      free_half (level_and_remainder p.level p.host) (target_and_remainder p.target p.clock) p.value values.f values.e anchor.age (64 - anchor.age) anchor.level p.target anchor.host
          anchor.clock (omega arith) (omega arith) left,
      free_half (target_and_remainder p.target p.clock) (level_and_remainder p.level p.host) values.f p.value values.e anchor.age (64 - anchor.age) p.target anchor.level anchor.clock
          anchor.host (omega arith) (omega arith) left,
    )

pub interval_tight : (values : Nominal) (service period : ℕ) (anchor : Anchor) (p q : Point) → Interval values service period false p q
    → IsTight values period anchor p → IsTight values period (anchor_after_interval service anchor) q
interval_tight values service period anchor p q i tight =
    let later = since_interval values service period false p q i in
    let same : (anchor.age + service) * q.value ≡ (anchor.age + service) * p.value = ap (λ (n : ℕ). (anchor.age + service) * n) i.value_is in
    let moved : level_and_remainder q.level q.host + target_and_remainder p.target p.clock + i.steps ≡ level_and_remainder p.level p.host + target_and_remainder q.target q.clock + service * p.value = omega arith in
    record {
      counted = interval_counted values service period false p q i tight.counted;
      host = tight.host;
      clock = tight.clock;
      start = (omega (arith, tight.start, i.target_is), omega (arith, tight.start, i.target_is));
      value = i.value_is ∙ tight.value ∙ ap (λ (n : ℕ). report_of values n anchor.level) (sym i.target_is);
      age = omega (arith, tight.age);
      drift = (omega (arith, tight.drift, i.slight, i.target_is), omega (arith, tight.drift, i.slight, i.target_is));
    }

pub report_tight : (values : Nominal) (band service period : ℕ) (report_lost : Bool) (anchor : Anchor) (p q : Point) → HasBand values band
    → AreIntervals service period → TakesReport values period report_lost p q → IsTight values period anchor p
    → IsTight values period (anchor_after report_lost anchor p) q
report_tight values band service period false anchor p q facts intervals r tight =
    let near = tight_near values band period anchor p facts intervals.reports tight in
    record {
      counted = report_counted values period false p q r tight.counted;
      host = tight.counted.host;
      clock = tight.counted.clock;
      start = (omega (arith, near, r.target_is), omega (arith, near, r.target_is));
      value = r.value_is ∙ ap (λ (n : ℕ). report_of values n p.level) (sym r.target_is);
      age = omega arith;
      drift = (omega (arith, r.level_is, r.host_is, r.clock_is), omega (arith, r.level_is, r.host_is, r.clock_is));
    }
report_tight values band service period true anchor p q facts intervals r tight =
    let same = since_lost values period p q r in
    let product : anchor.age * q.value ≡ anchor.age * p.value = ap (λ (n : ℕ). anchor.age * n) r.value_is in
    record {
      counted = report_counted values period true p q r tight.counted;
      host = tight.host;
      clock = tight.clock;
      start = (omega (arith, tight.start, r.target_is), omega (arith, tight.start, r.target_is));
      value = r.value_is ∙ tight.value ∙ ap (λ (n : ℕ). report_of values n anchor.level) (sym r.target_is);
      age = omega (arith, tight.age);
      drift = (omega (arith, tight.drift, r.level_is, r.host_is, r.clock_is, r.target_is), omega (arith, tight.drift, r.level_is, r.host_is, r.clock_is, r.target_is));
    }

-- remainders are below a frame, so three frames hold the bound
pub tight_within : (values : Nominal) (band period : ℕ) (anchor : Anchor) (p : Point) → HasBand values band → values.e ≤ 1572 → IsInterval period
    → IsTight values period anchor p → Within 3 p.level p.target
tight_within values band period anchor p facts slight reports tight =
    let near = tight_near values band period anchor p facts reports tight in
    (omega (arith, tight.counted.host, tight.counted.clock), omega (arith, tight.counted.host, tight.counted.clock))

pub primed_robust : (values : Nominal) (band service period : ℕ) (p : Point) → HasBand values band
    → IsJustPrimed values service period p → IsRobust values band service period p
primed_robust values band service period p facts primed = record {
  counted = primed.counted;
  low = inl (omega (arith, primed.level));
  high = inl (omega (arith, primed.level));
  least = omega (arith, facts.below, primed.value);
  most = omega (arith, facts.above, primed.value);
  target = primed.target;
}

pub primed_tight : (values : Nominal) (band service period : ℕ) (p : Point) → HasBand values band
    → IsJustPrimed values service period p → IsTight values period (anchor_of p) p
primed_tight values band service period p facts primed = record {
  counted = primed.counted;
  host = primed.counted.host;
  clock = primed.counted.clock;
  start = (omega (arith, primed.level, primed.counted.host), omega (arith, primed.level, primed.counted.clock));
  value = omega (arith, primed.level, primed.value, facts.below, facts.above);
  age = omega arith;
  drift = (omega arith, omega arith);
}

-- what a ring holds at some moment
pub moment_level : (values : Nominal) (service period : ℕ) (p : Point) (level : ℕ) → StaysBetweenWholes values → AreIntervals service period
    → IsRobust values 65 service period p → Moment values service p level → IsSafeLevel service level
moment_level values service period p level room intervals robust m = record {
  single = λ one.
      let few : service * values.hi ≡ 1 * values.hi = ap (λ (n : ℕ). n * values.hi) one in
      let t = robust.target.single one in
      (omega (arith, room.most, near, ticked, came m.some_frames), omega (arith, room.most, near, ticked, came m.some_frames));
  longer = λ more.
      let size = interval_size service intervals.serves in
      let few : service * values.hi ≤ 8 * 25 = mul-le service values.hi 8 25 size.1 room.most in
      let t = robust.target.longer more in
      (omega (arith, near, ticked, came m.some_frames), omega (arith, near, ticked, came m.some_frames));
} where
  near : Within 129 p.level p.target
  near = robust_near values 65 service period p intervals.reports robust

  ticked : (p.clock + m.steps) / 65536 ≤ service * values.hi
  ticked =
      let most = ticked_most m.passed p.clock m.steps values.f values.e values.hi robust.counted.clock m.slight.0 room.above in
      let fewer : m.passed * values.hi ≤ service * values.hi = mul-le-mul_right values.hi m.within in
      omega arith

  came : (m.came ≤ (p.host + service * p.value) / 65536) ⊎ (m.came ≤ (p.clock + m.steps) / 65536) → m.came ≤ service * values.hi
  came (inl packet) = let most = paced_most service p.host p.value values.hi robust.counted.host robust.most in omega arith
  came (inr zeros) = omega (arith, ticked)

-- what comes while a stream is priming
pub filled : (values : Nominal) (service least before after : ℕ) → StaysBetweenWholes values → IsInterval service → IsPriming service least
    → before < least → least ≤ after → Fills values service before after → IsTarget service after
filled values service least before after room serves priming low reached fills = record {
  single = λ one.
      let few : service * values.hi ≡ 1 * values.hi = ap (λ (n : ℕ). n * values.hi) one in
      let first = priming.single one in
      (omega arith, omega (arith, room.most, came fills.level_is));
  longer = λ above.
      let size = interval_size service serves in
      let few : service * values.hi ≤ 8 * 25 = mul-le service values.hi 8 25 size.1 room.most in
      let first = priming.longer above in
      (omega arith, omega (arith, came fills.level_is));
} where
  came : (after ≡ before + (fills.host + service * values.f) / 65536) ⊎ (after ≡ before + (fills.clock + fills.steps) / 65536)
      → after ≤ before + service * values.hi
  came (inl packet) = let most = paced_most service fills.host values.f values.hi fills.host_below (omega (arith, room.above)) in omega arith
  came (inr zeros) =
      let most = ticked_most service fills.clock fills.steps values.f values.e values.hi fills.clock_below fills.slight.0 room.above in omega arith

-- when reports fall due, for each two intervals
abbrev FallsDueEach : ℕ → ℕ → Type 0
FallsDueEach service period = (count : ℕ) → period % service ≡ 0 → count % service ≡ 0 → FallsDue service period count

same_row : (s p service period : ℕ) → service ≡ s → period ≡ p → FallsDueEach s p → FallsDueEach service period
same_row s p service period e f h = subst (λ (n : ℕ). FallsDueEach n period) (sym e) (subst (λ (n : ℕ). FallsDueEach s n) (sym f) h)

due_by_count : (service period : ℕ) → IsInterval service → IsInterval period → FallsDueEach service period
due_by_count service period (inl a) (inl b) =
    same_row 1 1 service period a b (λ count multiple whole. record { in_time = omega arith; due = λ h. omega arith; before = λ h. omega arith })
due_by_count service period (inl a) (inr (inl b)) =
    same_row 1 2 service period a b (λ count multiple whole. record { in_time = omega arith; due = λ h. omega arith; before = λ h. omega arith })
due_by_count service period (inl a) (inr (inr (inl b))) =
    same_row 1 4 service period a b (λ count multiple whole. record { in_time = omega arith; due = λ h. omega arith; before = λ h. omega arith })
due_by_count service period (inl a) (inr (inr (inr b))) =
    same_row 1 8 service period a b (λ count multiple whole. record { in_time = omega arith; due = λ h. omega arith; before = λ h. omega arith })
due_by_count service period (inr (inl a)) (inl b) =
    same_row 2 1 service period a b (λ count multiple whole. record { in_time = omega arith; due = λ h. omega arith; before = λ h. omega arith })
due_by_count service period (inr (inl a)) (inr (inl b)) =
    same_row 2 2 service period a b (λ count multiple whole. record { in_time = omega arith; due = λ h. omega arith; before = λ h. omega arith })
due_by_count service period (inr (inl a)) (inr (inr (inl b))) =
    same_row 2 4 service period a b (λ count multiple whole. record { in_time = omega arith; due = λ h. omega arith; before = λ h. omega arith })
due_by_count service period (inr (inl a)) (inr (inr (inr b))) =
    same_row 2 8 service period a b (λ count multiple whole. record { in_time = omega arith; due = λ h. omega arith; before = λ h. omega arith })
due_by_count service period (inr (inr (inl a))) (inl b) =
    same_row 4 1 service period a b (λ count multiple whole. record { in_time = omega arith; due = λ h. omega arith; before = λ h. omega arith })
due_by_count service period (inr (inr (inl a))) (inr (inl b)) =
    same_row 4 2 service period a b (λ count multiple whole. record { in_time = omega arith; due = λ h. omega arith; before = λ h. omega arith })
due_by_count service period (inr (inr (inl a))) (inr (inr (inl b))) =
    same_row 4 4 service period a b (λ count multiple whole. record { in_time = omega arith; due = λ h. omega arith; before = λ h. omega arith })
due_by_count service period (inr (inr (inl a))) (inr (inr (inr b))) =
    same_row 4 8 service period a b (λ count multiple whole. record { in_time = omega arith; due = λ h. omega arith; before = λ h. omega arith })
due_by_count service period (inr (inr (inr a))) (inl b) =
    same_row 8 1 service period a b (λ count multiple whole. record { in_time = omega arith; due = λ h. omega arith; before = λ h. omega arith })
due_by_count service period (inr (inr (inr a))) (inr (inl b)) =
    same_row 8 2 service period a b (λ count multiple whole. record { in_time = omega arith; due = λ h. omega arith; before = λ h. omega arith })
due_by_count service period (inr (inr (inr a))) (inr (inr (inl b))) =
    same_row 8 4 service period a b (λ count multiple whole. record { in_time = omega arith; due = λ h. omega arith; before = λ h. omega arith })
due_by_count service period (inr (inr (inr a))) (inr (inr (inr b))) =
    same_row 8 8 service period a b (λ count multiple whole. record { in_time = omega arith; due = λ h. omega arith; before = λ h. omega arith })

pub falls_due : (service period count : ℕ) → AreIntervals service period → count % service ≡ 0 → FallsDue service period count
falls_due service period count intervals whole = due_by_count service period intervals.serves intervals.reports count intervals.multiple whole

-- what a rate's nominal values are
pub record AreByFormula (values : Nominal) : Type 0 where
  pub e : values.e ≡ values.f / 1000
  pub lo : values.lo ≡ (values.f - values.e) / 65536
  pub hi : values.hi ≡ (values.f + values.e) / 65536 + 1

by_formula : (values : Nominal) → IsNominal values → AreByFormula values
unfolding nominal_of values_of
by_formula values h = from (is_listed h.0) h.1 where
  from : (b : Bool) → (if b then Some (values_of h.0) else None) ≡ Some values → AreByFormula values
  from false e = absurd (cc)
  from true e = subst AreByFormula (let same : values_of h.0 ≡ values = cc in same) (record { e = refl; lo = refl; hi = refl })

-- each of the twelve rates has the band of 65 frames
pub rates_band : (values : Nominal) → IsNominal values → StaysBetweenWholes values → HasBand values 65
rates_band values h room =
    let formulas = by_formula values h in
    record { below = room.below; above = room.above; apart = room.apart; up = omega arith; down = omega arith }

part_of : (f e n : ℕ) → e ≡ f / 1000 → n ≤ 1000 → f * n / 1000000 ≤ e
part_of f e n h few = let less : f * n ≤ f * 1000 = mul-le-mul_left f few in omega arith

-- a steady clock's step
pub slight_step : (values : Nominal) (ppm : ℤ) → IsNominal values → is_slight ppm ≡ true
    → Within values.e (step_of values ppm) values.f
slight_step values (pos n) h slight =
    let part = part_of values.f values.e n (by_formula values h).e (few n slight) in (omega arith, omega arith) where
      few : (n : ℕ) → is_slight (pos n) ≡ true → n ≤ 1000
      few n slight = leb-true n 1000 slight
slight_step values (negsuc n) h slight =
    let part = part_of values.f values.e (suc n) (by_formula values h).e (few n slight) in (omega arith, omega arith) where
      few : (n : ℕ) → is_slight (negsuc n) ≡ true → suc n ≤ 1000
      few n slight = omega (arith, leb-true n 999 (sym (and-true (leb n 999)) ∙ slight))

pub whole_packets : (values : Nominal) (microframes host value : ℕ) → host < 65536 → values.lo * 65536 ≤ value → value ≤ values.hi * 65536
    → (microframes * values.lo ≤ (host + microframes * value) / 65536) × ((host + microframes * value) / 65536 ≤ microframes * values.hi)
whole_packets values microframes host value below least most =
    (paced_least microframes host value values.lo least, paced_most microframes host value values.hi below most)

pub whole_ticks : (values : Nominal) (microframes clock steps : ℕ) → StaysBetweenWholes values → clock < 65536
    → Within (microframes * values.e) steps (microframes * values.f)
    → (microframes * values.lo ≤ (clock + steps) / 65536) × ((clock + steps) / 65536 ≤ microframes * values.hi)
whole_ticks values microframes clock steps room below slight = (
  ticked_least microframes clock steps values.f values.e values.lo slight.1 room.below,
  ticked_most microframes clock steps values.f values.e values.hi below slight.0 room.above,
)
