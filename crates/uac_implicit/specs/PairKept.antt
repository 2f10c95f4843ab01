-- What a pair keeps, for which worlds it stands, and what a line is answered.
use Rattle.std.specs.Prelude.{◌≡◌, ◌≢◌, ℕ, ◌+◌, ◌≤◌, Bool, false, ℤ, List, ◌++◌, ◌∷◌, [], Option, None, Some, Result, Ok, Err, OnOk, IfErr}
use Rattle.std.specs.Io.KnownBytes.{Appends}
use Rattle.uac_clock.specs.declared.values.Nominal.{Nominal}
use Rattle.uac_clock.specs.Nominal.{nominal_of, values_of}
use Rattle.uac_units.specs.Hearing.{at_most_u64}
use Rattle.uac_edges.specs.Faults.{Rose}
use Rattle.uac_edges.specs.Writing.{AppendsFront}
use Rattle.uac_script.specs.Phrase.{Phrase}
use Rattle.uac_transcript.specs.Transcript.{Said}
use Rattle.uac_transcript.specs.Printing.{Prints}
use Rattle.uac_bench.specs.BenchStreams.{level_of}
use Rattle.uac_bench.specs.BenchKept.{BenchStreamFields, BenchStreamStands, BenchClockFields, BenchClockStands}
use Rattle.uac_implicit.specs.declared.fault.PairFault.{PairFault}
use Rattle.uac_implicit.specs.declared.fault.PairFault.TheVariants as faults
use Rattle.uac_implicit.specs.Followers.{FollowerFields, FollowerStands}
use Rattle.uac_implicit.specs.Following.{PairWorld, step_next}
use Rattle.uac_implicit.specs.PairLines.{PairStep, pair_done, pair_refused, pair_step, PairSaid, pair_text}

-- what runs of a pair is seen as: it keeps the clock's step, and of its deviation nothing else
pub record PairRunFields : Type 0 where
  pub nominal : Nominal
  pub step : ℕ
  pub clock : BenchClockFields
  pub follower : FollowerFields
  pub out : BenchStreamFields
  pub waiting : List (List ℤ)
  pub time : ℕ
  pub detail : ℕ
  pub in_lost : ℕ

-- within a microframe, when the host has formed so many packets and the clock has these steps
pub record PairStandsIn (sent : ℕ) (steps : List ℕ) (kept : PairRunFields) (w : PairWorld) : Type 0 where
  pub listed : nominal_of w.rate ≡ Some (values_of w.rate)
  pub nominal : kept.nominal ≡ values_of w.rate
  pub step : kept.step ≡ step_next w
  pub clock : BenchClockStands kept.clock steps
  pub follower : FollowerStands (values_of w.rate) sent w.heard kept.follower
  pub out : BenchStreamStands kept.out w.out
  pub waiting : kept.waiting ≡ w.waiting
  pub time : kept.time ≡ at_most_u64 w.time
  pub detail : kept.detail ≡ w.detail
  pub in_lost : kept.in_lost ≡ w.in_lost

-- a priming stream has fewer frames than prime it
abbrev pub IsShort : PairWorld → Type 0
IsShort w = w.out.target ≡ None → level_of w.out ≤ 255

-- between two microframes
pub record PairRunStands (kept : PairRunFields) (w : PairWorld) : Type 0 where
  pub in_it : PairStandsIn w.time w.steps kept w
  pub short : IsShort w

-- packets and ticks keep these
pub record KeepsSettings (before w : PairWorld) : Type 0 where
  pub rate : w.rate ≡ before.rate
  pub deviation : w.deviation ≡ before.deviation
  pub time : w.time ≡ before.time
  pub detail : w.detail ≡ before.detail

-- what a pair is seen as: what runs, and whether a write failed
pub record PairFields : Type 0 where
  pub run : PairRunFields
  pub failed : Bool

pub record PairStands (kept : PairFields) (w : PairWorld) : Type 0 where
  pub run : PairRunStands kept.run w
  pub going : kept.failed ≡ false

-- the lines were printed, and this stands; or at an error a front of them
abbrev pub PairTells : {T E : Type 0} → List Said → Type 0 → Option (List ℕ) → Option (List ℕ) → Result T E → Type 0
PairTells lines Stands old new result = Prints old new result lines × OnOk result Stands

-- the step was done: this holds of the next world, and its lines were written
abbrev pub PairReaches : PairStep → (PairWorld → Type 0) → Option (List ℕ) → Option (List ℕ) → Type 0
PairReaches (pair_done next lines) Holds written written' = Holds next × Appends written written' (pair_text lines)
PairReaches (pair_refused rule) Holds written written' = ⊥

-- a write failed in the middle of the step's lines
abbrev pub IsPairCut : PairStep → Option (List ℕ) → Option (List ℕ) → Type 0
IsPairCut (pair_done next lines) written written' = AppendsFront written written' (pair_text lines)
IsPairCut (pair_refused rule) written written' = ⊥

-- why a step wasn't done
abbrev pub PairPrevents : PairFault → PairStep → Option (List ℕ) → Option (List ℕ) → Type 0
PairPrevents faults.WriteFault s written written' = IsPairCut s written written'
PairPrevents (faults.Script rule) s written written' = s ≡ pair_refused rule

-- what a step is answered, and what it leaves
abbrev pub PairDoes : PairStep → (PairWorld → Type 0) → Option (List ℕ) → Option (List ℕ) → Result (Unit {0}) PairFault → Type 0
PairDoes s Holds written written' (Ok _) = PairReaches s Holds written written'
PairDoes s Holds written written' (Err fault) = PairPrevents fault s written written'

-- what a line that says this is answered in a world, and what it leaves
abbrev pub PairAnswers : Phrase → PairWorld → PairFields → Option (List ℕ) → Option (List ℕ) → Result (Unit {0}) PairFault → Type 0
PairAnswers phrase w pair written written' result = PairDoes (pair_step phrase w) (PairStands pair) written written' result

-- what a rule of the script that is broken leaves as it was
pub record LeavesPair {A B : Type 0} (old new : A) (sink sink' : B) (result : Result (Unit {0}) PairFault) : Type 0 where
  pub pair : IfErr result (λ fault. fault ≢ faults.WriteFault → new ≡ old)
  pub unwritten : IfErr result (λ fault. fault ≢ faults.WriteFault → sink' ≡ sink)

-- a failed write has its cause in this call; the count of faults never falls, and where the line is done no write met one
pub record HasPairCause (old new : ℕ) (result : Result (Unit {0}) PairFault) : Type 0 where
  pub cause : IfErr result (λ fault. fault ≡ faults.WriteFault → Rose old new)
  pub never_falls : old ≤ new
  pub faultless : OnOk result (new ≡ old)
