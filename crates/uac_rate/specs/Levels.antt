-- profile: the bands in which the level of a primed stream's ring stays, by feedback (USB 2.0, 5.12.4.2). Numbers of frames are told in
-- 65,536ths where remainders count. All are natural numbers: a difference is told by two sums, and a bound by two inequalities.
use Rattle.std.specs.Prelude.{◌≡◌, ℕ, suc, ◌+◌, ◌*◌, ◌/◌, ◌%◌, ◌<◌, ◌≤◌, ◌⊎◌, Bool, true, false}
use Rattle.uac_clock.specs.declared.values.Nominal.{Nominal}
use Rattle.uac_rate.specs.Reports.{report_of}

-- what the bands use of nominal values: a slightly deviating clock stays between whole numbers that lie close, and a level that misses its
-- target by more than the band asks for the least packet or the greatest
pub record HasBand (values : Nominal) (band : ℕ) : Type 0 where
  pub below : values.lo * 65536 + values.e < values.f
  pub above : values.f + values.e < values.hi * 65536
  pub apart : values.hi ≤ values.lo + 2
  pub up : values.hi * 65536 ≤ values.f + 1024 * (band + 1)
  pub down : values.f ≤ values.lo * 65536 + 1024 * (band + 1)

-- 1, 2, 4 or 8 microframes
abbrev pub IsInterval : ℕ → Type 0
IsInterval n = (n ≡ 1) ⊎ ((n ≡ 2) ⊎ ((n ≡ 4) ⊎ (n ≡ 8)))

-- a stream has a packet every `service` microframes and a report every `period`, which is a multiple of that
pub record AreIntervals (service period : ℕ) : Type 0 where
  pub serves : IsInterval service
  pub reports : IsInterval period
  pub multiple : period % service ≡ 0

-- a primed stream at the end of a microframe in which it had a packet
pub record Point : Type 0 where
  -- the frames in its ring, and those that were there when it was primed
  pub level : ℕ
  pub target : ℕ
  -- the remainders of the host's pace and of the clock
  pub host : ℕ
  pub clock : ℕ
  -- the rate value in force
  pub value : ℕ
  -- the microframes since a report last fell due, and how many reports were lost since one came
  pub waited : ℕ
  pub lost : ℕ

-- two numbers differ by at most so much
abbrev pub Within : ℕ → ℕ → ℕ → Type 0
Within most a b = (a ≤ b + most) × (b ≤ a + most)

-- the frames in the ring with the host's remainder, and the target with the clock's
abbrev pub level_and_remainder : ℕ → ℕ → ℕ
level_and_remainder level host = 65536 * level + host

abbrev pub target_and_remainder : ℕ → ℕ → ℕ
target_and_remainder target clock = 65536 * target + clock

-- the microframes since a report came, or since the stream's start
abbrev pub since : ℕ → Point → ℕ
since period p = p.lost * period + p.waited

-- the frames that come in an interval: those of the packet; where it is lost, a zero frame for each tick
abbrev pub frames_came : Bool → ℕ → ℕ → ℕ
frames_came false sent ticks = sent
frames_came true sent ticks = ticks

-- a service interval, in which no report fell due before its end, with the sum of the clock's steps, each off by at most a thousandth
pub record Interval (values : Nominal) (service period : ℕ) (packet_lost : Bool) (p q : Point) : Type 0 where
  pub steps : ℕ
  pub slight : Within (service * values.e) steps (service * values.f)
  pub sent : ℕ
  pub sent_is : sent ≡ (p.host + service * p.value) / 65536
  pub host_is : q.host ≡ (p.host + service * p.value) % 65536
  pub ticks : ℕ
  pub ticks_is : ticks ≡ (p.clock + steps) / 65536
  pub clock_is : q.clock ≡ (p.clock + steps) % 65536
  pub level_is : q.level + ticks ≡ p.level + frames_came packet_lost sent ticks
  pub target_is : q.target ≡ p.target
  pub value_is : q.value ≡ p.value
  pub waited_is : q.waited ≡ p.waited + service
  pub in_time : q.waited ≤ period
  pub lost_is : q.lost ≡ p.lost

-- how many reports were lost since one came, after this one
abbrev pub lost_after : Bool → ℕ → ℕ
lost_after false lost = 0
lost_after true lost = suc lost

-- the rate value after a report
abbrev pub value_after : Bool → Nominal → Point → ℕ
value_after false values p = report_of values p.target p.level
value_after true values p = p.value

-- a report that fell due at the end of an interval and came, or was lost, but wasn't the fourth in succession
pub record TakesReport (values : Nominal) (period : ℕ) (report_lost : Bool) (p q : Point) : Type 0 where
  pub due : p.waited ≡ period
  pub waited_is : q.waited ≡ 0
  pub lost_is : q.lost ≡ lost_after report_lost p.lost
  pub few : q.lost ≤ 3
  pub value_is : q.value ≡ value_after report_lost values p
  pub level_is : q.level ≡ p.level
  pub target_is : q.target ≡ p.target
  pub host_is : q.host ≡ p.host
  pub clock_is : q.clock ≡ p.clock

-- the level is at most the band below the target, and two frames for each microframe since a report came; or at most 64 frames below the
-- band where the greatest packets come
abbrev pub IsLow : Nominal → ℕ → ℕ → Point → Type 0
IsLow values band period p =
    (p.target ≤ p.level + band + 2 * since period p) ⊎ ((p.target ≤ p.level + band + 64) × (p.value ≡ values.hi * 65536))

-- the mirror: above the target, and the least packets
abbrev pub IsHigh : Nominal → ℕ → ℕ → Point → Type 0
IsHigh values band period p =
    (p.level ≤ p.target + band + 2 * since period p) ⊎ ((p.level ≤ p.target + band + 64) × (p.value ≡ values.lo * 65536))

-- the level at which a stream is primed
pub record IsTarget (service target : ℕ) : Type 0 where
  pub single : service ≡ 1 → (256 ≤ target) × (target ≤ 280)
  pub longer : 1 < service → (512 ≤ target) × (target ≤ 711)

-- remainders are below a frame, at most three reports were lost since one came, and none is overdue
pub record IsCounted (period : ℕ) (p : Point) : Type 0 where
  pub host : p.host < 65536
  pub clock : p.clock < 65536
  pub lost : p.lost ≤ 3
  pub waited : p.waited ≤ period

pub record IsRobust (values : Nominal) (band service period : ℕ) (p : Point) : Type 0 where
  pub counted : IsCounted period p
  pub low : IsLow values band period p
  pub high : IsHigh values band period p
  pub least : values.lo * 65536 ≤ p.value
  pub most : p.value ≤ values.hi * 65536
  pub target : IsTarget service p.target

-- a stream as it stood at its last delivered report, or where it was primed if that was later, and the microframes since then
pub record Anchor : Type 0 where
  pub level : ℕ
  pub host : ℕ
  pub clock : ℕ
  pub age : ℕ

abbrev pub anchor_of : Point → Anchor
anchor_of p = record { level = p.level; host = p.host; clock = p.clock; age = 0 }

abbrev pub anchor_after_interval : ℕ → Anchor → Anchor
anchor_after_interval service anchor = record anchor { age = anchor.age + service }

-- a report that comes is a new anchor
abbrev pub anchor_after : Bool → Anchor → Point → Anchor
anchor_after false anchor p = anchor_of p
anchor_after true anchor p = anchor

-- how far an anchor, or a point, may be off its target, remainders counted
abbrev pub tight_bound : Nominal → ℕ
tight_bound values = 65535 + 64 * values.e

-- since the anchor the level moved by what the value in force is over the nominal one, but for what the clock deviated
abbrev pub HasDrifted : Nominal → Anchor → Point → Type 0
HasDrifted values anchor p =
    Within (anchor.age * values.e) (level_and_remainder p.level p.host + target_and_remainder p.target anchor.clock + anchor.age * values.f)
    (target_and_remainder p.target p.clock + level_and_remainder anchor.level anchor.host + anchor.age * p.value)

-- the value in force is the report of the anchor, which lies close to the target
pub record IsTight (values : Nominal) (period : ℕ) (anchor : Anchor) (p : Point) : Type 0 where
  pub counted : IsCounted period p
  pub host : anchor.host < 65536
  pub clock : anchor.clock < 65536
  pub start : Within (tight_bound values) (level_and_remainder anchor.level anchor.host) (target_and_remainder p.target anchor.clock)
  pub value : p.value ≡ report_of values p.target anchor.level
  pub age : anchor.age ≤ since period p
  pub drift : HasDrifted values anchor p

-- a stream that was primed just now; reports may have been lost while it was priming, and the nominal value is in force
pub record IsJustPrimed (values : Nominal) (service period : ℕ) (p : Point) : Type 0 where
  pub counted : IsCounted period p
  pub level : p.level ≡ p.target
  pub value : p.value ≡ values.f
  pub target : IsTarget service p.target

-- the least level at which a stream is primed
pub record IsPriming (service least : ℕ) : Type 0 where
  pub single : service ≡ 1 → least ≡ 256
  pub longer : 1 < service → least ≡ 512

-- what an interval brings to the ring of a priming stream: the frames of a packet at the nominal value, or a zero frame for each tick
pub record Fills (values : Nominal) (service before after : ℕ) : Type 0 where
  pub host : ℕ
  pub host_below : host < 65536
  pub clock : ℕ
  pub clock_below : clock < 65536
  pub steps : ℕ
  pub slight : Within (service * values.e) steps (service * values.f)
  pub level_is : (after ≡ before + (host + service * values.f) / 65536) ⊎ (after ≡ before + (clock + steps) / 65536)

-- some moment after the end of an interval: so many microframes of the next one have passed, or pass now; some of their ticks were played,
-- and of the interval's packet, or of the zero frames for these ticks, some have come
pub record Moment (values : Nominal) (service : ℕ) (p : Point) (level : ℕ) : Type 0 where
  pub passed : ℕ
  pub within : passed ≤ service
  pub steps : ℕ
  pub slight : Within (passed * values.e) steps (passed * values.f)
  pub played : ℕ
  pub some_ticks : played ≤ (p.clock + steps) / 65536
  pub came : ℕ
  pub some_frames : (came ≤ (p.host + service * p.value) / 65536) ⊎ (came ≤ (p.clock + steps) / 65536)
  pub level_is : level + played ≡ p.level + came

-- the frames that a primed ring holds
pub record IsSafeLevel (service level : ℕ) : Type 0 where
  pub single : service ≡ 1 → (101 ≤ level) × (level ≤ 435)
  pub longer : 1 < service → (182 ≤ level) × (level ≤ 1041)

-- by the count of a stream's microframes, at the end of an interval: no report falls due before the end of the next one; where it falls due
-- there, the count is a multiple of the period, and else the microframes since the last report grow by the interval
pub record FallsDue (service period count : ℕ) : Type 0 where
  pub in_time : count % period + service ≤ period
  pub due : count % period + service ≡ period → (count + service) % period ≡ 0
  pub before : count % period + service < period → (count + service) % period ≡ count % period + service
