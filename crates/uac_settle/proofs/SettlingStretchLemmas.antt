-- Why a stretch goes home: within 32 microframes a report comes, and from then on each gap takes its pull off the error.
use Rattle.std.proofs.Common.{arith, ◌≡◌, ℕ, suc, ◌+◌, ◌-◌, ◌*◌, ◌<◌, ◌≤◌, ◌⊎◌, inl, inr, max, Bool, true, false, List, [], ◌∷◌, length, ap, sym, subst}
use Rattle.std.proofs.Math.Nat.{mul-le-mul_right}
use Rattle.std.proofs.lemmas.Grind.{div_ceil_times}
use Rattle.std.specs.Int.{div_ceil}
use Rattle.uac_clock.specs.declared.values.Nominal.{Nominal}
use Rattle.uac_clock.specs.Nominal.{StaysBetweenWholes}
use Rattle.uac_rate.specs.Levels.{HasBand, AreIntervals, Point, Within, level_and_remainder, target_and_remainder, since, Interval, TakesReport, IsRobust, Anchor, anchor_of, anchor_after_interval}
use Rattle.uac_rate.proofs.LevelsLemmas.{interval_robust, report_robust, robust_near, not_long}
use Rattle.uac_settle.specs.Settling.{pull_of, four_frames, farthest, settle_of, Gap, left_of, Served, Ends, Turn, Turns, LosesNoPacket, SettlesWithin}
use Rattle.uac_settle.proofs.SettlingGapLemmas.{gap_home, gap_begins, gap_interval, gap_lost_report}

-- a report came: so many microframes passed from the first one that came to the last one, the anchor, whose error is what they left
record Came (values : Nominal) (period microframes : ℕ) (p : Point) : Type 0 where
  passed : ℕ
  anchor : Anchor
  gap : Gap values anchor p
  above : level_and_remainder anchor.level anchor.host ≤ target_and_remainder p.target anchor.clock + left_of (pull_of values) passed farthest
  below : target_and_remainder p.target anchor.clock ≤ level_and_remainder anchor.level anchor.host + left_of (pull_of values) passed farthest
  age : anchor.age ≤ since period p
  time : microframes ≤ 32 + passed + anchor.age

-- so many microframes after the start: no report came yet, or one did
abbrev Progress : Nominal → ℕ → ℕ → Point → Type 0
Progress values period microframes p = (microframes ≤ since period p) ⊎ Came values period microframes p

later : (values : Nominal) (service period : ℕ) (p q : Point) → Interval values service period false p q → since period q ≡ since period p + service
later values service period p q i = let same : q.lost * period ≡ p.lost * period = ap (λ (n : ℕ). n * period) i.lost_is in omega arith

no_sooner : (values : Nominal) (period : ℕ) (p q : Point) → TakesReport values period true p q → since period q ≡ since period p
no_sooner values period p q r =
    let more : q.lost * period ≡ suc p.lost * period = ap (λ (n : ℕ). n * period) r.lost_is in omega arith

-- what two gaps leave
both_gaps : (A B R S a b pull error : ℕ) → A ≤ B + max 262144 (R - S - b * pull) → R ≤ S + max 262144 (error - a * pull)
    → A ≤ B + max 262144 (error - (a + b) * pull)
both_gaps A B R S a b pull error after before = omega arith

interval_goes : (values : Nominal) (service period microframes : ℕ) (p q : Point) → AreIntervals service period → Interval values service period false p q
    → IsRobust values 65 service period q → Progress values period microframes p → Progress values period (microframes + service) q
interval_goes values service period microframes p q intervals i robust (inl none) =
    let more = later values service period p q i in inl (omega arith)
interval_goes values service period microframes p q intervals i robust (inr came) =
    let more = later values service period p q i in
    let short = not_long period q intervals.reports robust.counted in
    inr (record {
      passed = came.passed;
      anchor = anchor_after_interval service came.anchor;
      gap = gap_interval values service period came.anchor p q i (omega (arith, came.age)) came.gap;
      above = omega (arith, came.above, i.target_is);
      below = omega (arith, came.below, i.target_is);
      age = omega (arith, came.age);
      time = omega (arith, came.time);
    })

report_goes : (values : Nominal) (service period microframes : ℕ) (report_lost : Bool) (p q : Point) → StaysBetweenWholes values → AreIntervals service period
    → TakesReport values period report_lost p q → IsRobust values 65 service period p → Progress values period microframes p
    → Progress values period microframes q
report_goes values service period microframes false p q room intervals r robust (inl none) =
    let short = not_long period p intervals.reports robust.counted in
    let near = robust_near values 65 service period p intervals.reports robust in
    inr (record {
      passed = 0;
      anchor = anchor_of q;
      gap = gap_begins values period p q r robust.counted;
      above = omega (arith, near, robust.counted.host, r.level_is, r.target_is, r.host_is, r.clock_is);
      below = omega (arith, near, robust.counted.clock, r.level_is, r.target_is, r.host_is, r.clock_is);
      age = omega arith;
      time = omega arith;
    })
report_goes values service period microframes false p q room intervals r robust (inr came) =
    let home = gap_home values came.anchor p room came.gap in
    let high = both_gaps (level_and_remainder p.level p.host) (target_and_remainder p.target p.clock) (level_and_remainder came.anchor.level came.anchor.host) (target_and_remainder p.target came.anchor.clock)
    came.passed came.anchor.age (pull_of values) farthest home.0 came.above in
    let low = both_gaps (target_and_remainder p.target p.clock) (level_and_remainder p.level p.host) (target_and_remainder p.target came.anchor.clock) (level_and_remainder came.anchor.level came.anchor.host)
    came.passed came.anchor.age (pull_of values) farthest home.1 came.below in
    inr (record {
      passed = came.passed + came.anchor.age;
      anchor = anchor_of q;
      gap = gap_begins values period p q r robust.counted;
      above = omega (arith, high, r.level_is, r.target_is, r.host_is, r.clock_is);
      below = omega (arith, low, r.level_is, r.target_is, r.host_is, r.clock_is);
      age = omega arith;
      time = omega (arith, came.time);
    })
report_goes values service period microframes true p q room intervals r robust (inl none) =
    let same = no_sooner values period p q r in inl (omega arith)
report_goes values service period microframes true p q room intervals r robust (inr came) =
    let same = no_sooner values period p q r in
    inr (record {
      passed = came.passed;
      anchor = came.anchor;
      gap = gap_lost_report values period came.anchor p q r came.gap;
      above = omega (arith, came.above, r.target_is);
      below = omega (arith, came.below, r.target_is);
      age = omega (arith, came.age);
      time = came.time;
    })

-- a robust stream, so far after its start
record Goes (values : Nominal) (service period microframes : ℕ) (p : Point) : Type 0 where
  robust : IsRobust values 65 service period p
  progress : Progress values period microframes p

end_goes : (values : Nominal) (service period microframes : ℕ) (report_lost : Bool) (p q : Point) → StaysBetweenWholes values → HasBand values 65
    → AreIntervals service period → Ends values period report_lost p q → Goes values service period microframes p
    → Goes values service period microframes q
end_goes values service period microframes report_lost p q room facts intervals (inl none) goes = subst (Goes values service period microframes) (sym none.1) goes
end_goes values service period microframes report_lost p q room facts intervals (inr r) goes = record {
  robust = report_robust values 65 service period report_lost p q facts intervals r goes.robust;
  progress = report_goes values service period microframes report_lost p q room intervals r goes.robust goes.progress;
}

turn_goes : (values : Nominal) (service period microframes : ℕ) (served : Served) (p q : Point) → StaysBetweenWholes values → HasBand values 65
    → AreIntervals service period → Turn values service period served p q → served.packet_lost ≡ false → Goes values service period microframes p
    → Goes values service period (microframes + service) q
turn_goes values service period microframes served p q room facts intervals turn kept goes =
    end_goes values service period (microframes + service) served.report_lost turn.following q room facts intervals turn.ends (record {
      robust = robust;
      progress = interval_goes values service period microframes p turn.following intervals interval robust goes.progress;
    }) where
      interval : Interval values service period false p turn.following
      interval = subst (λ (lost : Bool). Interval values service period lost p turn.following) kept turn.interval

      robust : IsRobust values 65 service period turn.following
      robust = interval_robust values 65 service period false p turn.following facts interval goes.robust

turns_go : (values : Nominal) (service period microframes : ℕ) (all : List Served) (p q : Point) → StaysBetweenWholes values → HasBand values 65
    → AreIntervals service period → Turns values service period all p q → LosesNoPacket all → Goes values service period microframes p
    → Goes values service period (microframes + length all * service) q
turns_go values service period microframes [] p q room facts intervals same kept goes =
    subst (λ (n : ℕ). Goes values service period n q) (omega arith) (subst (Goes values service period microframes) same goes)
turns_go values service period microframes (served ∷ later) p q room facts intervals turns kept goes =
    let one = turn_goes values service period microframes served p turns.0 room facts intervals turns.1 kept.0 goes in
    subst (λ (n : ℕ). Goes values service period n q) (omega arith)
    (turns_go values service period (microframes + service) later turns.0 q room facts intervals turns.2 kept.1 one)

-- enough microframes take all of it off
enough : (n d q : ℕ) → 0 < d → div_ceil n d ≤ q → n ≤ q * d
enough n d q some h = let least = div_ceil_times n d some in let more : div_ceil n d * d ≤ q * d = mul-le-mul_right d h in omega arith

home : (values : Nominal) (service period microframes : ℕ) (p : Point) → StaysBetweenWholes values → AreIntervals service period
    → settle_of values ≤ microframes → Goes values service period microframes p → Within 4 p.level p.target
home values service period microframes p room intervals long goes = from goes.progress where
  short : since period p ≤ 32
  short = not_long period p intervals.reports goes.robust.counted

  some : 0 < pull_of values
  some = omega (arith, room.below, room.above, room.slight)

  from : Progress values period microframes p → Within 4 p.level p.target
  from (inl none) = absurd (omega (arith, short))
  from (inr came) =
      let gone : farthest - four_frames ≤ came.passed * pull_of values =
      enough (farthest - four_frames) (pull_of values) came.passed some (omega (arith, short, came.time, came.age)) in
      let at_end = gap_home values came.anchor p room came.gap in
      (omega (arith, at_end, came.above, goes.robust.counted.clock), omega (arith, at_end, came.below, goes.robust.counted.host))

pub stretch_settles : (values : Nominal) → StaysBetweenWholes values → HasBand values 65 → SettlesWithin values (settle_of values)
stretch_settles values room facts service period all start last stretch kept long =
    home values service period (length all * service) last room stretch.intervals long
    (subst (λ (n : ℕ). Goes values service period n last) (omega arith)
    (turns_go values service period 0 all start last room facts stretch.intervals stretch.turns kept (record {
      robust = stretch.robust;
      progress = inl (omega arith);
    })))
