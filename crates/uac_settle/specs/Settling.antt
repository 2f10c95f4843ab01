-- profile: how long a stream takes to come home after a lost packet, by feedback (USB 2.0, 5.12.4.2). Numbers of frames are told in
-- 65,536ths. All are natural numbers: a difference is told by two sums, and a bound by two inequalities.
use Rattle.std.specs.Prelude.{◌≡◌, ℕ, ◌+◌, ◌-◌, ◌*◌, ◌%◌, ◌<◌, ◌≤◌, ◌⊎◌, min, max, Bool, false, ℤ, pos, ◌+ℤ◌, ◌-ℤ◌, ◌*ℤ◌, List, [], ◌∷◌}
use Rattle.std.specs.Prelude.{length, sum, Option}
use Rattle.std.specs.Int.{div_ceil}
use Rattle.std.specs.List.{AllByRecursion}
use Rattle.std.specs.Option.{option_map}
use Rattle.uac_clock.specs.declared.values.Nominal.{Nominal}
use Rattle.uac_clock.specs.Nominal.{nominal_of}
use Rattle.uac_rate.specs.Reports.{report_of}
use Rattle.uac_rate.specs.Levels.{AreIntervals, Point, Within, Interval, TakesReport, IsRobust, Anchor, HasDrifted}

-- what a microframe takes home at least, whatever the clock deviates, where the last report saw the level off by four frames or more: such
-- a report is the least packet, the greatest packet, or off the nominal value by four times 1,024
abbrev pub pull_of : Nominal → ℕ
pull_of values = min (values.f - values.e - 65536 * values.lo) (min (65536 * values.hi - values.f - values.e) (4096 - values.e))

-- an error of four frames, and the greatest that a robust stream can have: 130 frames and a remainder
abbrev pub four_frames : ℕ
four_frames = 4 * 65536

abbrev pub farthest : ℕ
farthest = 130 * 65536 + 65535

-- so many microframes until the level is within four frames: 32 until a report comes, and 32 from the last one on
abbrev pub settle_of : Nominal → ℕ
settle_of values = 64 + div_ceil (farthest - four_frames) (pull_of values)

-- the bound of a rate in Hz, if it is one of the twelve
abbrev pub bound_of : ℕ → Option ℕ
bound_of hertz = option_map settle_of (nominal_of hertz)

-- a part of a stream from a report that came, the anchor, to a point at most 32 microframes later, with no other report that came and no
-- lost packet between them
pub record Gap (values : Nominal) (anchor : Anchor) (p : Point) : Type 0 where
  pub host : anchor.host < 65536
  pub clock : anchor.clock < 65536
  pub value : p.value ≡ report_of values p.target anchor.level
  pub young : anchor.age ≤ 32
  pub drift : HasDrifted values anchor p

-- what may be left of an error after so many microframes
abbrev pub left_of : ℕ → ℕ → ℕ → ℕ
left_of pull microframes error = max four_frames (error - microframes * pull)

-- by how much a stream misses its target, remainders counted: below 0 where it holds too little
abbrev pub error_of : ℕ → ℕ → ℕ → ℕ → ℤ
error_of level target host clock = pos 65536 *ℤ (pos level -ℤ pos target) +ℤ (pos host -ℤ pos clock)

-- what is given in a service interval: the steps of the clock in its microframes, whether its packet was lost, and whether the report was
-- that fell due at its end, if one did
pub record Served : Type 0 where
  pub steps : List ℕ
  pub packet_lost : Bool
  pub report_lost : Bool

-- the clock is off by at most a thousandth in each microframe
pub record IsServed (values : Nominal) (service : ℕ) (served : Served) : Type 0 where
  pub whole : length served.steps ≡ service
  pub slight : AllByRecursion (λ step. Within values.e step values.f) served.steps

-- the end of an interval, after the report that fell due there if one did: by the microframes since the last one
pub record IsIntervalEnd (service period : ℕ) (p : Point) : Type 0 where
  pub waited : p.waited < period
  pub whole : p.waited % service ≡ 0

-- where a report falls due, it comes or is lost; nothing else happens at the end of an interval
abbrev pub Ends : Nominal → ℕ → Bool → Point → Point → Type 0
Ends values period report_lost p q = ((p.waited < period) × (q ≡ p)) ⊎ TakesReport values period report_lost p q

-- what an interval makes of a stream
pub record Turn (values : Nominal) (service period : ℕ) (served : Served) (p q : Point) : Type 0 where
  pub is_served : IsServed values service served
  pub following : Point
  pub interval : Interval values service period served.packet_lost p following
  pub steps_are : interval.steps ≡ sum served.steps
  pub ends : Ends values period served.report_lost following q

-- intervals one after the other
abbrev pub Turns : Nominal → ℕ → ℕ → List Served → Point → Point → Type 0
Turns values service period [] p q = p ≡ q
Turns values service period (served ∷ later) p q =
    (following : Point) × Turn values service period served p following × Turns values service period later following q

-- a robust stream at the end of an interval, and the intervals from there on; no four reports in succession are lost, those before the
-- start counted in
pub record Stretch (values : Nominal) (service period : ℕ) (all : List Served) (start last : Point) : Type 0 where
  pub intervals : AreIntervals service period
  pub robust : IsRobust values 65 service period start
  pub begins : IsIntervalEnd service period start
  pub turns : Turns values service period all start last

-- none of its packets was lost
abbrev pub LosesNoPacket : List Served → Type 0
LosesNoPacket all = AllByRecursion (λ served. served.packet_lost ≡ false) all

-- whatever stretch it is that loses no packet: at the end of each interval that ends so many microframes or more after its start, the
-- level is within four frames of its target
abbrev pub SettlesWithin : Nominal → ℕ → Type 0
SettlesWithin values microframes =
    (service period : ℕ) (all : List Served) (start last : Point) → Stretch values service period all start last → LosesNoPacket all
    → microframes ≤ length all * service → Within 4 last.level last.target
