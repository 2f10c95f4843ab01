-- A stream to the device whose clock and feedback are steady: where it is between two microframes, and that it stays there (profile;
-- feedback is that of USB 2.0, 5.12.4.2).
use Rattle.std.specs.Prelude.{◌≡◌, ℕ, ◌+◌, ◌-◌, ◌*◌, ◌/◌, ◌%◌, ◌<◌, ◌≤◌, Bool, true, false, List, [], ◌∷◌, ◌++◌, length, sum, Option, None}
use Rattle.std.specs.Prelude.{Some}
use Rattle.uac_clock.specs.Nominal.{IsNominal}
use Rattle.uac_clock.specs.Ticks.{ticks_in}
use Rattle.uac_clock.specs.declared.values.Nominal.{Nominal}
use Rattle.uac_rate.specs.Levels.{AreIntervals, IsSafeLevel, IsRobust, Point, Within}
use Rattle.uac_rate.specs.Steadiness.{latest_run}
use Rattle.uac_alt.specs.AltStreams.{StreamFields}
use Rattle.uac_flow.specs.FlowStreams.{OutStream, after_ticks, arrival_of, frames_of, is_dry, is_due, out_level, priming_level, started_out}
use Rattle.uac_ring.specs.declared.arrival.Arrival.TheVariants as arrival
use Rattle.uac_host.specs.HostCalls.{next_size, fresh_pace}
use Rattle.uac_levels.specs.Life.{Life, life_after, ticks_taken, with_packet}

-- a step of a clock that is off by at most a thousandth
abbrev pub IsSlightStep : Nominal → ℕ → Type 0
IsSlightStep values step = Within values.e step values.f

-- how many microframes of the service interval that runs have passed
abbrev pub microframes_since_due : OutStream → ℕ
microframes_since_due o = o.microframes % o.stream.service

-- since its last service interval ended, with this remainder of its clock, the clock went on by steps that are slight, and its ticks were
-- counted
pub record HasTicked (l : Life) (clock : ℕ) : Type 0 where
  pub steps : ℕ
  pub slight : Within (microframes_since_due l.out * l.out.stream.nominal.e) steps (microframes_since_due l.out * l.out.stream.nominal.f)
  pub ticks : l.out.ticks ≡ (clock + steps) / 65536
  pub phase : sum l.steps % 65536 ≡ (clock + steps) % 65536

-- a primed stream between two microframes, by the point at which its last service interval ended: since then no packet came, and the level
-- fell by its domain's ticks
pub record IsFollowing (l : Life) (target : ℕ) (p : Point) : Type 0 where
  pub robust : IsRobust l.out.stream.nominal 65 l.out.stream.service l.out.stream.period p
  pub target_is : p.target ≡ target
  pub level : p.level ≡ out_level l.out + l.out.ticks
  pub host : p.host ≡ sum l.pace.used % 65536
  pub value : p.value ≡ l.pace.value
  pub lost : p.lost ≡ latest_run l.reports
  pub waited : p.waited ≡ (l.out.microframes - microframes_since_due l.out) % l.out.stream.period
  pub ticked : HasTicked l p.clock

-- a priming stream: its ring has fewer frames than prime it, and the nominal value is in force
pub record IsFilling (l : Life) : Type 0 where
  pub level : out_level l.out < priming_level l.out.stream
  pub value : l.pace.value ≡ l.out.stream.nominal.f
  pub clock : ℕ
  pub below : clock < 65536
  pub ticked : HasTicked l clock

abbrev pub IsAt : Option ℕ → Life → Type 0
IsAt None l = IsFilling l
IsAt (Some target) l = (p : Point) × IsFollowing l target p

-- between two microframes
pub record InBand (l : Life) : Type 0 where
  pub same : l.pace.stream ≡ l.out.stream
  pub nominal : IsNominal l.out.stream.nominal
  pub intervals : AreIntervals l.out.stream.service l.out.stream.period
  pub taken : l.out.taken ≤ length l.out.arrived
  pub waits : l.out.lost ≡ false
  pub few : latest_run l.reports ≤ 3
  pub at : IsAt l.out.target l

-- a stream that starts, whatever its domain's clock did before
abbrev pub started_life : StreamFields → List ℕ → List (List Bool) → Life
started_life stream steps reports = record { out = started_out stream; pace = fresh_pace stream; steps = steps; reports = [] ∷ reports }

-- a stream that was just primed is in its band
abbrev pub StartsInBand : Type 0
StartsInBand =
    (stream : StreamFields) (steps : List ℕ) (reports : List (List Bool)) → IsNominal stream.nominal
    → AreIntervals stream.service stream.period
    → InBand (started_life stream steps reports)

-- what a steady microframe brings: a step that is slight; and where a packet is due and comes, as many frames as the host's pace says
pub record IsSteadyMicroframe (packet : Option (List ℕ)) (step : ℕ) (l : Life) : Type 0 where
  pub slight : IsSlightStep l.out.stream.nominal step
  pub frames : (bytes : List ℕ) → packet ≡ Some bytes → is_due l.out.stream l.out.microframes ≡ true
      → length (frames_of l.out.stream bytes) ≡ next_size l.pace

-- a steady microframe keeps a stream in its band, where its report isn't the fourth in succession that was lost
abbrev pub StaysInBand : Type 0
StaysInBand =
    (l : Life) (packet : Option (List ℕ)) (step : ℕ) (report_lost : Bool) → InBand l → IsSteadyMicroframe packet step l
    → latest_run (life_after packet step report_lost l).reports ≤ 3 → InBand (life_after packet step report_lost l)

-- the ticks of a microframe, and the stream after some of them
abbrev pub ticks_then : ℕ → Life → ℕ
ticks_then step l = ticks_in (l.steps ++ step ∷ [])

abbrev pub stream_at_tick : ℕ → Option (List ℕ) → ℕ → Life → OutStream
stream_at_tick i packet step l = ticks_taken i (after_ticks (ticks_then step l) (with_packet packet l).out)

-- what a primed ring holds before each tick of a steady microframe, and after the last
abbrev pub HoldsEnough : Type 0
HoldsEnough =
    (l : Life) (packet : Option (List ℕ)) (step : ℕ) (target : ℕ) → InBand l → IsSteadyMicroframe packet step l → l.out.target ≡ Some target
    → (i : ℕ) → i ≤ ticks_then step l → IsSafeLevel l.out.stream.service (out_level (stream_at_tick i packet step l))

-- no tick of a steady microframe finds a primed ring empty
abbrev pub NeverDry : Type 0
NeverDry =
    (l : Life) (packet : Option (List ℕ)) (step : ℕ) → InBand l → IsSteadyMicroframe packet step l
    → (i : ℕ) → i < ticks_then step l → is_dry (stream_at_tick i packet step l) ≡ false

-- and its packet, where one is due, fits
abbrev pub NeverOver : Type 0
NeverOver =
    (l : Life) (packet : Option (List ℕ)) (step : ℕ) → InBand l → IsSteadyMicroframe packet step l
    → is_due l.out.stream l.out.microframes ≡ true → arrival_of packet l.out ≡ arrival.Over → ⊥

-- where a service interval has ended, the level of a primed ring is within 130 frames of its target
abbrev pub EndsNear : Type 0
EndsNear =
    (l : Life) (target : ℕ) → InBand l → l.out.target ≡ Some target → microframes_since_due l.out ≡ 0 → Within 130 (out_level l.out) target

-- between two microframes a primed ring holds enough
abbrev pub HoldsBetween : Type 0
HoldsBetween = (l : Life) (target : ℕ) → InBand l → l.out.target ≡ Some target → IsSafeLevel l.out.stream.service (out_level l.out)
