-- profile: what keeps the level of a primed stream's ring in its bands on a full-speed bus. The laws speak of numbers alone. A number of
-- frames is told in 16,384ths where remainders count.
use Rattle.std.specs.Prelude.{◌≡◌, ℕ, suc, ◌+◌, ◌-◌, ◌*◌, ◌/◌, ◌%◌, ◌<◌, ◌≤◌, ◌⊎◌, Bool, true, false, ℤ}
use Rattle.uac_clock.specs.declared.values.Nominal.{Nominal}
use Rattle.uac_rate.specs.Levels.{HasBand, Point, Within, frames_came, lost_after, Anchor, IsRobust, IsTight, anchor_of, anchor_after, anchor_after_interval}
use Rattle.uac_rate.specs.Steadiness.{is_slight}
use Rattle.uac_fullspeed.specs.declared.values.FsNominal.{FsNominal}
use Rattle.uac_fullspeed.specs.FullSpeedNominal.{IsFsNominal, fs_step_of, fs_report_of}

-- the same nominal values in 65,536ths of a frame
abbrev pub in_65536ths : FsNominal → Nominal
in_65536ths values = record { f = 4 * values.f; e = 4 * values.e; lo = values.lo; hi = values.hi }

-- what the bands use of nominal values
pub record FsLeavesRoom (values : FsNominal) : Type 0 where
  pub band : HasBand (in_65536ths values) 65
  pub slight : values.e ≤ 1572
  pub most : values.hi ≤ 97

-- a primed stream at the end of a bus frame
pub record FsPoint : Type 0 where
  -- the frames in its ring, and those that were there when it was primed
  pub level : ℕ
  pub target : ℕ
  -- the remainders of the host's pace and of the clock
  pub host : ℕ
  pub clock : ℕ
  -- the rate value in force
  pub value : ℕ
  -- the bus frames since a report last fell due, and how many reports were lost since one came
  pub waited : ℕ
  pub lost : ℕ

-- the same point as a high-speed stream's, with 256 for its target: only the difference counts
abbrev pub point_of : FsPoint → Point
point_of p = record {
  level = p.level + 256 - p.target;
  target = 256;
  host = 4 * p.host;
  clock = 4 * p.clock;
  value = 4 * p.value;
  waited = p.waited;
  lost = p.lost;
}

-- a bus frame, by whether its packet was lost
pub record BusFrame (values : FsNominal) (packet_lost : Bool) (p q : FsPoint) : Type 0 where
  pub step : ℕ
  pub slight : Within values.e step values.f
  pub sent : ℕ
  pub sent_is : sent ≡ (p.host + p.value) / 16384
  pub host_is : q.host ≡ (p.host + p.value) % 16384
  pub ticks : ℕ
  pub ticks_is : ticks ≡ (p.clock + step) / 16384
  pub clock_is : q.clock ≡ (p.clock + step) % 16384
  pub level_is : q.level + ticks ≡ p.level + frames_came packet_lost sent ticks
  pub target_is : q.target ≡ p.target
  pub value_is : q.value ≡ p.value
  pub waited_is : q.waited ≡ suc p.waited
  pub in_time : q.waited ≤ 8
  pub lost_is : q.lost ≡ p.lost

abbrev pub fs_value_after : Bool → FsNominal → FsPoint → ℕ
fs_value_after false values p = fs_report_of values p.target p.level
fs_value_after true values p = p.value

-- a report that fell due and came, or was lost, but wasn't the fourth in succession
pub record TakesFsReport (values : FsNominal) (report_lost : Bool) (p q : FsPoint) : Type 0 where
  pub due : p.waited ≡ 8
  pub waited_is : q.waited ≡ 0
  pub lost_is : q.lost ≡ lost_after report_lost p.lost
  pub few : q.lost ≤ 3
  pub value_is : q.value ≡ fs_value_after report_lost values p
  pub level_is : q.level ≡ p.level
  pub target_is : q.target ≡ p.target
  pub host_is : q.host ≡ p.host
  pub clock_is : q.clock ≡ p.clock

-- the level at which a stream is primed
abbrev pub IsFsTarget : ℕ → Type 0
IsFsTarget target = (256 ≤ target) × (target ≤ 352)

pub record IsFsRobust (values : FsNominal) (p : FsPoint) : Type 0 where
  pub point : IsRobust (in_65536ths values) 65 1 8 (point_of p)
  pub target : IsFsTarget p.target

pub record IsFsTight (values : FsNominal) (anchor : Anchor) (p : FsPoint) : Type 0 where
  pub point : IsTight (in_65536ths values) 8 anchor (point_of p)

-- a stream that was primed just now
pub record IsFsPrimed (values : FsNominal) (p : FsPoint) : Type 0 where
  pub host : p.host < 16384
  pub clock : p.clock < 16384
  pub lost : p.lost ≤ 3
  pub waited : p.waited ≤ 8
  pub level : p.level ≡ p.target
  pub value : p.value ≡ values.f
  pub target : IsFsTarget p.target

-- some moment after the end of a bus frame: of the next one's packet some frames have come, or of the zero frames in its place, and some of
-- its ticks were played
pub record FsMoment (values : FsNominal) (p : FsPoint) (level : ℕ) : Type 0 where
  pub step : ℕ
  pub slight : Within values.e step values.f
  pub played : ℕ
  pub some_ticks : played ≤ (p.clock + step) / 16384
  pub came : ℕ
  pub some_frames : (came ≤ (p.host + p.value) / 16384) ⊎ (came ≤ (p.clock + step) / 16384)
  pub level_is : level + played ≡ p.level + came

-- ---- the laws

abbrev pub FsRatesHaveBands : Type 0
FsRatesHaveBands = (values : FsNominal) → IsFsNominal values → FsLeavesRoom values

abbrev pub FsSteadyClocksAreSlight : Type 0
FsSteadyClocksAreSlight =
    (values : FsNominal) (ppm : ℤ) → IsFsNominal values → is_slight ppm ≡ true → Within values.e (fs_step_of values ppm) values.f

abbrev pub FramesKeepRobust : Type 0
FramesKeepRobust =
    (values : FsNominal) (packet_lost : Bool) (p q : FsPoint) → FsLeavesRoom values → BusFrame values packet_lost p q
    → IsFsRobust values p → IsFsRobust values q

abbrev pub FsReportsKeepRobust : Type 0
FsReportsKeepRobust =
    (values : FsNominal) (report_lost : Bool) (p q : FsPoint) → FsLeavesRoom values → TakesFsReport values report_lost p q
    → IsFsRobust values p → IsFsRobust values q

abbrev pub FramesKeepTight : Type 0
FramesKeepTight =
    (values : FsNominal) (anchor : Anchor) (p q : FsPoint) → FsLeavesRoom values → BusFrame values false p q → IsFsRobust values p
    → IsFsTight values anchor p → IsFsTight values (anchor_after_interval 1 anchor) q

abbrev pub FsReportsKeepTight : Type 0
FsReportsKeepTight =
    (values : FsNominal) (report_lost : Bool) (anchor : Anchor) (p q : FsPoint) → FsLeavesRoom values
    → TakesFsReport values report_lost p q → IsFsRobust values p
    → IsFsTight values anchor p → IsFsTight values (anchor_after report_lost anchor (point_of p)) q

abbrev pub FsRobustIsNear : Type 0
FsRobustIsNear = (values : FsNominal) (p : FsPoint) → IsFsRobust values p → Within 129 p.level p.target

abbrev pub FsTightIsNear : Type 0
FsTightIsNear =
    (values : FsNominal) (anchor : Anchor) (p : FsPoint) → FsLeavesRoom values → IsFsRobust values p → IsFsTight values anchor p
    → Within 8 p.level p.target

abbrev pub FsRingsHoldEnough : Type 0
FsRingsHoldEnough =
    (values : FsNominal) (p : FsPoint) (level : ℕ) → FsLeavesRoom values → IsFsRobust values p → FsMoment values p level
    → (24 ≤ level) × (level ≤ 584)

abbrev pub FsPrimedInBands : Type 0
FsPrimedInBands =
    (values : FsNominal) (p : FsPoint) → FsLeavesRoom values → IsFsPrimed values p
    → IsFsRobust values p × IsFsTight values (anchor_of (point_of p)) p
