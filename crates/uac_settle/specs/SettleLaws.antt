-- profile: why a stream comes home. The laws speak of numbers alone.
use Rattle.std.specs.Prelude.{◌≡◌, ℕ, ◌+◌, ◌-◌, ◌*◌, ◌%◌, ◌<◌, ◌≤◌, true, false, pos, negsuc, ◌+ℤ◌, ◌-ℤ◌, ◌≤ℤ◌, List, [], ◌∷◌, ◌++◌, Some}
use Rattle.std.specs.Int.{int_min, int_max}
use Rattle.uac_clock.specs.declared.values.Nominal.{Nominal}
use Rattle.uac_clock.specs.Nominal.{StaysBetweenWholes}
use Rattle.uac_rate.specs.Levels.{HasBand, AreIntervals, Point, level_and_remainder, target_and_remainder, Interval, TakesReport, IsCounted}
use Rattle.uac_rate.specs.Levels.{Anchor, anchor_of, anchor_after_interval}
use Rattle.uac_settle.specs.Settling.{pull_of, settle_of, bound_of, Gap, left_of, error_of, Served, IsServed, IsIntervalEnd, Stretch, SettlesWithin}

-- a gap takes its microframes' pull off an error above four frames, and an error of at most four frames stays so: too full, or too
-- empty. An error that lies the other way counts as 0 in either half
abbrev pub GapsGoHome : Type 0
GapsGoHome =
    (values : Nominal) (anchor : Anchor) (p : Point) → StaysBetweenWholes values → Gap values anchor p
    → (level_and_remainder p.level p.host ≤ target_and_remainder p.target p.clock
    + left_of (pull_of values) anchor.age (level_and_remainder anchor.level anchor.host - target_and_remainder p.target anchor.clock))
    × (target_and_remainder p.target p.clock ≤ level_and_remainder p.level p.host
    + left_of (pull_of values) anchor.age (target_and_remainder p.target anchor.clock - level_and_remainder anchor.level anchor.host))

-- gaps over the integers, by the error at the anchor and at the point
abbrev pub GapsOverIntegers : Type 0
GapsOverIntegers =
    (values : Nominal) (anchor : Anchor) (p : Point) → StaysBetweenWholes values → Gap values anchor p
    → let first = error_of anchor.level p.target anchor.host anchor.clock in
    let last = error_of p.level p.target p.host p.clock in
    let pulled = pos (anchor.age * pull_of values) in
    (int_min (negsuc 262143) (first +ℤ pulled) ≤ℤ last) × (last ≤ℤ int_max (pos 262144) (first -ℤ pulled))

-- a gap begins at a report that came
abbrev pub GapsBegin : Type 0
GapsBegin =
    (values : Nominal) (period : ℕ) (p q : Point) → TakesReport values period false p q → IsCounted period p → Gap values (anchor_of q) q

-- an interval whose packet came goes on with it, up to 32 microframes
abbrev pub IntervalsGoOn : Type 0
IntervalsGoOn =
    (values : Nominal) (service period : ℕ) (anchor : Anchor) (p q : Point) → Interval values service period false p q
    → anchor.age + service ≤ 32 → Gap values anchor p → Gap values (anchor_after_interval service anchor) q

-- a gap goes on past a report that was lost
abbrev pub LostReportsGoOn : Type 0
LostReportsGoOn =
    (values : Nominal) (period : ℕ) (anchor : Anchor) (p q : Point) → TakesReport values period true p q → Gap values anchor p
    → Gap values anchor q

-- gaps one after the other take every stretch home
abbrev pub StretchesSettle : Type 0
StretchesSettle = (values : Nominal) → StaysBetweenWholes values → HasBand values 65 → SettlesWithin values (settle_of values)

-- a stretch goes on with whatever interval comes next, with its packet lost or not, and with its report lost where that isn't the fourth in
-- succession
abbrev pub StretchesGoOn : Type 0
StretchesGoOn =
    (values : Nominal) (service period : ℕ) (all : List Served) (start last : Point) (served : Served) → StaysBetweenWholes values
    → HasBand values 65
    → Stretch values service period all start last → IsServed values service served
    → (last.waited + service ≡ period → served.report_lost ≡ true → last.lost < 3)
    → (next : Point) × Stretch values service period (all ++ served ∷ []) start next

-- when an interval ends, by the count of a stream's microframes
abbrev pub IntervalsEndByCount : Type 0
IntervalsEndByCount =
    (service period count : ℕ) (p : Point) → AreIntervals service period → count % service ≡ 0 → p.waited ≡ count % period
    → IsIntervalEnd service period p

-- no rate has a longer bound: a stream that loses no packet is at home after at most so many microframes, two seconds and a little more
abbrev pub NoBoundIsLonger : Type 0
NoBoundIsLonger = (hertz microframes : ℕ) → bound_of hertz ≡ Some microframes → microframes ≤ 16384
