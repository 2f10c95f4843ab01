-- Why a stretch goes on: a robust stream holds enough for the ticks of an interval, so the next point is there.
use Rattle.std.proofs.Common.{arith, ◌≡◌, ℕ, ◌+◌, ◌-◌, ◌*◌, ◌/◌, ◌%◌, ◌<◌, ◌≤◌, ◌⊎◌, inl, inr, Bool, true, false, List, [], ◌∷◌, ◌++◌, sum, refl, ap, sym, subst, ◌∙◌}
use Rattle.std.proofs.Math.Nat.{add-mod_right, mod-eq_of_lt, mod-mod_of_dvd, mul-le-mul_left}
use Rattle.std.proofs.lemmas.Nat.Gcd.{dvd_of_mod-eq-zero}
use Rattle.std.proofs.lemmas.Bool.{cases_lt}
use Rattle.uac_clock.specs.declared.values.Nominal.{Nominal}
use Rattle.uac_clock.specs.Nominal.{StaysBetweenWholes}
use Rattle.uac_rate.specs.Levels.{HasBand, IsInterval, AreIntervals, Point, Within, frames_came, Interval, lost_after, value_after, IsTarget, IsRobust}
use Rattle.uac_rate.proofs.PacketSizesLemmas.{slight_sum}
use Rattle.uac_rate.proofs.LevelsLemmas.{interval_size, interval_robust, report_robust, robust_near, whole_ticks, falls_due}
use Rattle.uac_settle.specs.Settling.{Served, IsServed, IsIntervalEnd, Ends, Turn, Turns, Stretch}

-- by the count
pub ends_by_count : (service period count : ℕ) (p : Point) → AreIntervals service period → count % service ≡ 0 → p.waited ≡ count % period
    → IsIntervalEnd service period p
ends_by_count service period count p intervals whole same =
    let due = falls_due service period count intervals whole in
    let size = interval_size service intervals.serves in
    record {
      waited = omega (arith, due.in_time);
      whole = ap (λ (n : ℕ). n % service) same ∙ mod-mod_of_dvd service count (dvd_of_mod-eq-zero service intervals.multiple) ∙ whole;
    }

-- a robust stream holds at least the ticks of an interval
holds_ticks : (service target level ticks : ℕ) → IsInterval service → IsTarget service target → Within 129 level target → ticks ≤ service * 25
    → ticks ≤ level
holds_ticks service target level ticks (inl one) t near few = let least = t.single one in omega arith
holds_ticks service target level ticks (inr longer) t near few =
    let size = interval_size service (inr longer) in
    let least = t.longer (more longer) in omega arith where
      more : (service ≡ 2) ⊎ ((service ≡ 4) ⊎ (service ≡ 8)) → 1 < service
      more (inl h) = omega arith
      more (inr (inl h)) = omega arith
      more (inr (inr h)) = omega arith

came_enough : (lost : Bool) (level sent ticks : ℕ) → ticks ≤ level → ticks ≤ level + frames_came lost sent ticks
came_enough false level sent ticks h = omega arith
came_enough true level sent ticks h = omega arith

-- the point after the packet and the ticks of an interval
abbrev after_of : ℕ → Served → Point → Point
after_of service served p =
    let ticks = (p.clock + sum served.steps) / 65536 in
    record p {
      level = p.level + frames_came served.packet_lost ((p.host + service * p.value) / 65536) ticks - ticks;
      host = (p.host + service * p.value) % 65536;
      clock = (p.clock + sum served.steps) % 65536;
      waited = p.waited + service;
    }

taken : (level came ticks : ℕ) → ticks ≤ level + came → level + came - ticks + ticks ≡ level + came
taken level came ticks h = omega arith

-- an interval with these steps
record Passes (values : Nominal) (service period : ℕ) (served : Served) (p q : Point) : Type 0 where
  interval : Interval values service period served.packet_lost p q
  steps_are : interval.steps ≡ sum served.steps

interval_is_there : (values : Nominal) (service period : ℕ) (served : Served) (p : Point) → StaysBetweenWholes values → AreIntervals service period
    → IsRobust values 65 service period p → IsIntervalEnd service period p → IsServed values service served
    → Passes values service period served p (after_of service served p)
interval_is_there values service period served p room intervals robust at_end given = record {
  interval = record {
    steps = sum served.steps;
    slight = slight;
    sent = (p.host + service * p.value) / 65536;
    sent_is = refl;
    host_is = refl;
    ticks = (p.clock + sum served.steps) / 65536;
    ticks_is = refl;
    clock_is = refl;
    level_is = taken p.level (frames_came served.packet_lost ((p.host + service * p.value) / 65536) ((p.clock + sum served.steps) / 65536))
        ((p.clock + sum served.steps) / 65536)
        (came_enough served.packet_lost p.level ((p.host + service * p.value) / 65536) ((p.clock + sum served.steps) / 65536) enough);
    target_is = refl;
    value_is = refl;
    waited_is = refl;
    in_time = omega (arith, (falls_due service period p.waited intervals at_end.whole).in_time, mod-eq_of_lt at_end.waited);
    lost_is = refl;
  };
  steps_are = refl;
} where
  slight : Within (service * values.e) (sum served.steps) (service * values.f)
  slight = subst (λ (n : ℕ). Within (n * values.e) (sum served.steps) (n * values.f)) given.whole (slight_sum values served.steps given.slight)

  enough : (p.clock + sum served.steps) / 65536 ≤ p.level
  enough =
      let most = (whole_ticks values service p.clock (sum served.steps) room robust.counted.clock slight).1 in
      let few : service * values.hi ≤ service * 25 = mul-le-mul_left service room.most in
      holds_ticks service p.target p.level ((p.clock + sum served.steps) / 65536) intervals.serves robust.target
      (robust_near values 65 service period p intervals.reports robust) (omega arith)

-- the point after a report
abbrev reported_of : Nominal → Bool → Point → Point
reported_of values report_lost p =
    record p { value = value_after report_lost values p; waited = 0; lost = lost_after report_lost p.lost }

few_lost : (report_lost : Bool) (lost : ℕ) → (report_lost ≡ true → lost < 3) → lost_after report_lost lost ≤ 3
few_lost false lost h = omega arith
few_lost true lost h = let few = h refl in omega arith

-- the next point
record Next (values : Nominal) (service period : ℕ) (served : Served) (p : Point) : Type 0 where
  point : Point
  turn : Turn values service period served p point

next_of : (values : Nominal) (service period : ℕ) (served : Served) (p : Point) → StaysBetweenWholes values → AreIntervals service period
    → IsRobust values 65 service period p → IsIntervalEnd service period p → IsServed values service served
    → (p.waited + service ≡ period → served.report_lost ≡ true → p.lost < 3) → Next values service period served p
next_of values service period served p room intervals robust at_end given few = from (cases_lt (p.waited + service) period) where
  passes : Passes values service period served p (after_of service served p)
  passes = interval_is_there values service period served p room intervals robust at_end given

  from : (p.waited + service < period) ⊎ (period ≤ p.waited + service) → Next values service period served p
  from (inl before) = record {
    point = after_of service served p;
    turn = record {
      is_served = given;
      following = after_of service served p;
      interval = passes.interval;
      steps_are = passes.steps_are;
      ends = inl (before, refl);
    };
  }
  from (inr late) =
      let due : p.waited + service ≡ period = omega (arith, passes.interval.in_time) in
      record {
        point = reported_of values served.report_lost (after_of service served p);
        turn = record {
          is_served = given;
          following = after_of service served p;
          interval = passes.interval;
          steps_are = passes.steps_are;
          ends = inr (record {
            due = due;
            waited_is = refl;
            lost_is = refl;
            few = few_lost served.report_lost p.lost (few due);
            value_is = refl;
            level_is = refl;
            target_is = refl;
            host_is = refl;
            clock_is = refl;
          });
        };
      }

-- a turn keeps a stream robust and at the end of an interval
record Stays (values : Nominal) (service period : ℕ) (p : Point) : Type 0 where
  robust : IsRobust values 65 service period p
  at_end : IsIntervalEnd service period p

turn_stays : (values : Nominal) (service period : ℕ) (served : Served) (p q : Point) → HasBand values 65 → AreIntervals service period
    → Turn values service period served p q → Stays values service period p → Stays values service period q
turn_stays values service period served p q facts intervals turn stays = from turn.ends where
  robust : IsRobust values 65 service period turn.following
  robust = interval_robust values 65 service period served.packet_lost p turn.following facts turn.interval stays.robust

  whole : turn.following.waited % service ≡ 0
  whole = ap (λ (n : ℕ). n % service) turn.interval.waited_is ∙ add-mod_right p.waited service ∙ stays.at_end.whole

  from : Ends values period served.report_lost turn.following q → Stays values service period q
  from (inl none) = subst (Stays values service period) (sym none.1) (record { robust = robust; at_end = record { waited = none.0; whole = whole } })
  from (inr r) = record {
    robust = report_robust values 65 service period served.report_lost turn.following q facts intervals r robust;
    at_end = ends_by_count service period 0 q intervals (zero_row service intervals.serves) (r.waited_is ∙ sym (zero_row period intervals.reports));
  } where
    zero_row : (n : ℕ) → IsInterval n → 0 % n ≡ 0
    zero_row n h = let size = interval_size n h in mod-eq_of_lt (omega arith)

turns_stay : (values : Nominal) (service period : ℕ) (all : List Served) (p q : Point) → HasBand values 65 → AreIntervals service period
    → Turns values service period all p q → Stays values service period p → Stays values service period q
turns_stay values service period [] p q facts intervals same stays = subst (Stays values service period) same stays
turns_stay values service period (served ∷ later) p q facts intervals turns stays =
    turns_stay values service period later turns.0 q facts intervals turns.2
    (turn_stays values service period served p turns.0 facts intervals turns.1 stays)

-- one more turn
pub turns_and : (values : Nominal) (service period : ℕ) (all : List Served) (served : Served) (p q r : Point) → Turns values service period all p q
    → Turn values service period served q r → Turns values service period (all ++ served ∷ []) p r
turns_and values service period [] served p q r same turn = (r, subst (λ (x : Point). Turn values service period served x r) (sym same) turn, refl)
turns_and values service period (first ∷ later) served p q r turns turn =
    (turns.0, turns.1, turns_and values service period later served turns.0 q r turns.2 turn)

pub goes_on : (values : Nominal) (service period : ℕ) (all : List Served) (start last : Point) (served : Served) → StaysBetweenWholes values → HasBand values 65
    → Stretch values service period all start last → IsServed values service served
    → (last.waited + service ≡ period → served.report_lost ≡ true → last.lost < 3)
    → (next : Point) × Stretch values service period (all ++ served ∷ []) start next
goes_on values service period all start last served room facts stretch given few =
    let stays = turns_stay values service period all start last facts stretch.intervals stretch.turns
    (record { robust = stretch.robust; at_end = stretch.begins }) in
    let next = next_of values service period served last room stretch.intervals stays.robust stays.at_end given few in (
      next.point,
      record {
        intervals = stretch.intervals;
        robust = stretch.robust;
        begins = stretch.begins;
        turns = turns_and values service period all served start last next.point stretch.turns next.turn;
      },
    )
