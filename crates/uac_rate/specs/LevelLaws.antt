-- profile: what keeps the level of a primed stream's ring in its bands. The laws speak of numbers alone.
use Rattle.std.specs.Prelude.{◌≡◌, ℕ, suc, ◌+◌, ◌-◌, ◌*◌, ◌%◌, ◌<◌, ◌≤◌, ◌/◌, Bool, true, false, ℤ, List, [], ◌∷◌, ◌++◌, length, sum}
use Rattle.std.specs.List.{AllByRecursion}
use Rattle.uac_clock.specs.declared.values.Nominal.{Nominal}
use Rattle.uac_clock.specs.Nominal.{IsNominal, StaysBetweenWholes, step_of}
use Rattle.uac_rate.specs.PacketSizes.{frames_in_packet}
use Rattle.uac_rate.specs.Steadiness.{is_slight}
use Rattle.uac_rate.specs.Levels.{HasBand, AreIntervals, Point, Within, level_and_remainder, target_and_remainder, Interval, TakesReport}
use Rattle.uac_rate.specs.Levels.{IsTarget, IsRobust, Anchor, anchor_of}
use Rattle.uac_rate.specs.Levels.{anchor_after_interval, anchor_after, HasDrifted, IsTight, IsJustPrimed, IsPriming, Fills, Moment}
use Rattle.uac_rate.specs.Levels.{IsSafeLevel, FallsDue}

-- each of the twelve rates has room, and a band of 65 frames
abbrev pub RatesHaveBands : Type 0
RatesHaveBands = (values : Nominal) → IsNominal values → StaysBetweenWholes values × HasBand values 65

-- a packet of one microframe more has that microframe's frames more
abbrev pub PacketsAddUp : Type 0
PacketsAddUp =
    (service : ℕ) (values : List ℕ) (value : ℕ) → service ≤ length values
    → frames_in_packet (suc service) (values ++ value ∷ []) ≡ frames_in_packet service values + frames_in_packet 1 (values ++ value ∷ [])

-- a packet's frames follow from the remainder that the values before left, and from those of the packet
abbrev pub PacketsFollowRemainders : Type 0
PacketsFollowRemainders =
    (values packet : List ℕ)
    → (frames_in_packet (length packet) (values ++ packet) ≡ (sum values % 65536 + sum packet) / 65536)
    × (sum (values ++ packet) % 65536 ≡ (sum values % 65536 + sum packet) % 65536)

-- a clock that is steady is off by at most a thousandth of its rate, and so are the steps of an interval in sum
abbrev pub SteadyClocksAreSlight : Type 0
SteadyClocksAreSlight =
    (values : Nominal) (ppm : ℤ) → IsNominal values → is_slight ppm ≡ true
    → Within values.e (step_of values ppm) values.f

abbrev pub SlightStepsAddUp : Type 0
SlightStepsAddUp =
    (values : Nominal) (steps : List ℕ) → AllByRecursion (λ step. Within values.e step values.f) steps
    → Within (length steps * values.e) (sum steps) (length steps * values.f)

-- so many microframes have the least whole frames to the greatest each: at a rate value between these, and by a slight clock's ticks
abbrev pub PacketsAreWhole : Type 0
PacketsAreWhole =
    (values : Nominal) (microframes host value : ℕ) → host < 65536 → values.lo * 65536 ≤ value → value ≤ values.hi * 65536
    → (microframes * values.lo ≤ (host + microframes * value) / 65536) × ((host + microframes * value) / 65536 ≤ microframes * values.hi)

abbrev pub TicksAreWhole : Type 0
TicksAreWhole =
    (values : Nominal) (microframes clock steps : ℕ) → StaysBetweenWholes values → clock < 65536
    → Within (microframes * values.e) steps (microframes * values.f)
    → (microframes * values.lo ≤ (clock + steps) / 65536) × ((clock + steps) / 65536 ≤ microframes * values.hi)

-- by the count of a stream's microframes at the end of an interval
abbrev pub ReportsFallDue : Type 0
ReportsFallDue = (service period count : ℕ) → AreIntervals service period → count % service ≡ 0 → FallsDue service period count

-- an interval keeps a robust stream robust, whether its packet came or was lost
abbrev pub IntervalsKeepRobust : Type 0
IntervalsKeepRobust =
    (values : Nominal) (band service period : ℕ) (packet_lost : Bool) (p q : Point) → HasBand values band
    → Interval values service period packet_lost p q → IsRobust values band service period p → IsRobust values band service period q

-- so does a report, whether it came or was lost, where it isn't the fourth in succession
abbrev pub ReportsKeepRobust : Type 0
ReportsKeepRobust =
    (values : Nominal) (band service period : ℕ) (report_lost : Bool) (p q : Point) → HasBand values band → AreIntervals service period
    → TakesReport values period report_lost p q → IsRobust values band service period p → IsRobust values band service period q

-- where the report of the anchor isn't clamped at either end: in 64ths, each microframe since the anchor takes one of its error, and leaves
-- the remainders of the anchor and at most what the clock deviated
abbrev pub FreeFormula : Type 0
FreeFormula =
    (values : Nominal) (anchor : Anchor) (p : Point) → anchor.age ≤ 64 → p.value + 1024 * anchor.level ≡ values.f + 1024 * p.target
    → HasDrifted values anchor p
    → Within (64 * (anchor.age * values.e))
    (64 * level_and_remainder p.level p.host + (64 - anchor.age) * target_and_remainder p.target anchor.clock + anchor.age * anchor.clock)
    (64 * target_and_remainder p.target p.clock + (64 - anchor.age) * level_and_remainder anchor.level anchor.host + anchor.age *
    anchor.host)

-- an interval whose packet came keeps a tight stream tight
abbrev pub IntervalsKeepTight : Type 0
IntervalsKeepTight =
    (values : Nominal) (service period : ℕ) (anchor : Anchor) (p q : Point) → Interval values service period false p q
    → IsTight values period anchor p → IsTight values period (anchor_after_interval service anchor) q

-- so does a report, whether it came, which makes a new anchor, or was lost
abbrev pub ReportsKeepTight : Type 0
ReportsKeepTight =
    (values : Nominal) (band service period : ℕ) (report_lost : Bool) (anchor : Anchor) (p q : Point) → HasBand values band
    → AreIntervals service period → TakesReport values period report_lost p q → IsTight values period anchor p
    → IsTight values period (anchor_after report_lost anchor p) q

-- a robust stream is within 130 frames of its target at the end of an interval, and a tight one within 3
abbrev pub RobustIsNear : Type 0
RobustIsNear =
    (values : Nominal) (service period : ℕ) (p : Point) → AreIntervals service period → IsRobust values 65 service period p
    → Within 130 p.level p.target

abbrev pub TightIsNear : Type 0
TightIsNear =
    (values : Nominal) (service period : ℕ) (anchor : Anchor) (p : Point) → StaysBetweenWholes values → HasBand values 65
    → AreIntervals service period
    → IsTight values period anchor p → Within 3 p.level p.target

-- what a primed ring holds at every moment
abbrev pub RingsHoldEnough : Type 0
RingsHoldEnough =
    (values : Nominal) (service period : ℕ) (p : Point) (level : ℕ) → StaysBetweenWholes values → AreIntervals service period
    → IsRobust values 65 service period p → Moment values service p level → IsSafeLevel service level

-- a stream is primed at a level in its range: it was below the least one until a packet came at the nominal value, or an interval's zeros
abbrev pub PrimedInRange : Type 0
PrimedInRange =
    (values : Nominal) (service period least before after : ℕ) → StaysBetweenWholes values → AreIntervals service period
    → IsPriming service least
    → before < least → least ≤ after → Fills values service before after → IsTarget service after

-- a stream that was just primed is robust, and it is tight
abbrev pub PrimedIsRobust : Type 0
PrimedIsRobust =
    (values : Nominal) (band service period : ℕ) (p : Point) → HasBand values band → IsJustPrimed values service period p
    → IsRobust values band service period p

abbrev pub PrimedIsTight : Type 0
PrimedIsTight =
    (values : Nominal) (band service period : ℕ) (p : Point) → HasBand values band → IsJustPrimed values service period p
    → IsTight values period (anchor_of p) p
