-- What a bench keeps, for which worlds it stands, and what a line is answered.
use Rattle.std.specs.Prelude.{◌≡◌, ℕ, ◌+◌, ◌*◌, ◌%◌, ◌^◌, ◌<◌, ◌≤◌, ◌≤ℤ◌, Bool, true, false, ℤ, pos, negsuc, List, length, map, Option, None, Some, Result, Ok, Err, OnOk, IfErr}
use Rattle.std.specs.Io.KnownBytes.{Appends}
use Rattle.uac_edges.specs.Faults.{Rose}
use Rattle.uac_edges.specs.Writing.{AppendsFront}
use Rattle.uac_clock.specs.Ticks.{IsPhaseAfter}
use Rattle.uac_rate.specs.Steadiness.{SteadyFields, SteadyStands}
use Rattle.uac_units.specs.Hearing.{at_most_u64}
use Rattle.uac_bench.specs.BenchKept.{BenchStreamFields, BenchStreamStands, BenchClockFields, BenchClockStands}
use Rattle.uac_bench.specs.BenchStreams.{StreamWorld, level_of}
use Rattle.uac_fullspeed.specs.declared.values.FsNominal.{FsNominal}
use Rattle.uac_fullspeed.specs.declared.fault.BenchFault.{BenchFault}
use Rattle.uac_fullspeed.specs.declared.fault.BenchFault.TheVariants as faults
use Rattle.uac_fullspeed.specs.declared.carry.Brought.{Brought}
use Rattle.uac_fullspeed.specs.FullSpeedNominal.{IsFsNominal, fs_nominal_of}
use Rattle.uac_fullspeed.specs.FullSpeedWorld.{FullSpeedWorld, after_frame}
use Rattle.uac_transcript.specs.Transcript.{Said}
use Rattle.uac_transcript.specs.Printing.{Prints}
use Rattle.uac_fullspeed.specs.FullSpeedLines.{FsLine, FsPrints, fs_text_of, stream_lines}
use Rattle.uac_fullspeed.specs.FullSpeedSteps.{FsStep, fs_done, fs_refused}

-- what a stream under way is seen as. Its clock and its pace count 65,536ths of a frame.
pub record FsRunFields : Type 0 where
  pub nominal : FsNominal
  pub stream : BenchStreamFields
  pub clock : BenchClockFields
  pub pace : ℕ
  pub value : ℕ
  pub deviation : ℤ
  pub steady : SteadyFields
  pub detail : ℕ
  pub time : ℕ
  pub since : ℕ

-- what holds of it at every moment
pub record IsFsRun (nominal : FsNominal) (value : ℕ) (deviation : ℤ) (since : ℕ) : Type 0 where
  pub of_a_rate : IsFsNominal nominal
  pub fits : value < 2 ^ 24
  pub low : negsuc 99999 ≤ℤ deviation
  pub high : deviation ≤ℤ pos 100000
  pub counted : since < 8

-- 16,384ths of a frame as 65,536ths
abbrev pub four_times : List ℕ → List ℕ
four_times values = map (λ v. 4 * v) values

pub record FsRunStands (kept : FsRunFields) (w : FullSpeedWorld) : Type 0 where
  pub rate : fs_nominal_of w.rate ≡ Some kept.nominal
  pub nominal : kept.nominal ≡ w.nominal
  pub stream : BenchStreamStands kept.stream w.stream
  pub clock : BenchClockStands kept.clock (four_times w.steps)
  pub pace : IsPhaseAfter kept.pace (four_times w.values)
  pub value : kept.value ≡ w.value
  pub deviation : kept.deviation ≡ w.deviation
  pub steady : SteadyStands kept.steady w.history
  pub detail : kept.detail ≡ w.detail
  pub time : kept.time ≡ at_most_u64 (length w.steps)
  pub since : kept.since ≡ length w.steps % 8

-- a priming stream has fewer frames than prime it
abbrev pub FewByTarget : Option ℕ → ℕ → Type 0
FewByTarget None level = level ≤ 255
FewByTarget (Some target) level = level ≤ 1024

-- what was told of the stream was printed: all of it, and what is kept stands for the stream; or at an error a front of it
abbrev pub StreamTells : {E : Type 0} → List Said → StreamWorld → BenchStreamFields → Option (List ℕ) → Option (List ℕ)
    → Result (Unit {0}) E → Type 0
StreamTells lines next kept old new result = Prints old new result lines × OnOk result (BenchStreamStands kept next)

-- between two bus frames the ring has room for the zeros of a lost packet
pub record HasRoom (s : StreamWorld) : Type 0 where
  pub played : s.played ≤ length s.arrived
  pub few : FewByTarget s.target (level_of s)

pub record FsRunStandsBetween (kept : FsRunFields) (w : FullSpeedWorld) : Type 0 where
  pub now : FsRunStands kept w
  pub room : HasRoom w.stream

-- what was told was printed: all of it, and what is kept stands for the next world; or at an error a front of it
abbrev pub FsTellsBetween : {E : Type 0} → List FsLine → FullSpeedWorld → FsRunFields → Option (List ℕ) → Option (List ℕ)
    → Result (Unit {0}) E → Type 0
FsTellsBetween lines next kept old new result = FsPrints old new result lines × OnOk result (FsRunStandsBetween kept next)

-- the same of lines that a run has, too
abbrev pub FsSaysBetween : {E : Type 0} → List Said → FullSpeedWorld → FsRunFields → Option (List ℕ) → Option (List ℕ)
    → Result (Unit {0}) E → Type 0
FsSaysBetween lines next kept old new result = Prints old new result lines × OnOk result (FsRunStandsBetween kept next)

-- what a bus frame brings to the stream, in a world that has gone on by it
abbrev pub CarryTells : {E : Type 0} → Brought → FullSpeedWorld → FsRunFields → Option (List ℕ) → Option (List ℕ)
    → Result (Unit {0}) E → Type 0
CarryTells b w kept old new result =
    FsSaysBetween (stream_lines w.detail b.lost b.frames b.ticks w.stream) (record w { stream = after_frame b.lost b.frames b.ticks w.stream }) kept old
    new result

-- what a bench is seen as: the stream, and whether a write failed
pub record FsBenchFields : Type 0 where
  pub run : FsRunFields
  pub failed : Bool

-- a bench stands for the world: no write failed
pub record FsBenchStands (kept : FsBenchFields) (w : FullSpeedWorld) : Type 0 where
  pub going : kept.failed ≡ false
  pub run : FsRunStandsBetween kept.run w

-- the step was done: what is kept stands for the next world, and its lines were written
abbrev pub FsReaches : {K : Type 0} → FsStep → (K → FullSpeedWorld → Type 0) → K → Option (List ℕ) → Option (List ℕ) → Type 0
FsReaches (fs_done next lines) Stands kept written written' = Stands kept next × Appends written written' (fs_text_of lines)
FsReaches (fs_refused rule) Stands kept written written' = ⊥

-- a write failed in the middle of the step's lines
abbrev pub IsFsCut : FsStep → Option (List ℕ) → Option (List ℕ) → Type 0
IsFsCut (fs_done next lines) written written' = AppendsFront written written' (fs_text_of lines)
IsFsCut (fs_refused rule) written written' = ⊥

-- why a step wasn't done
abbrev pub FsPrevents : BenchFault → FsStep → Option (List ℕ) → Option (List ℕ) → Type 0
FsPrevents (faults.Script rule) s written written' = s ≡ fs_refused rule
FsPrevents faults.WriteFault s written written' = IsFsCut s written written'

-- what a step is answered, and what it leaves
abbrev pub FsDoes : {K : Type 0} → FsStep → (K → FullSpeedWorld → Type 0) → K → Option (List ℕ) → Option (List ℕ)
    → Result (Unit {0}) BenchFault → Type 0
FsDoes s Stands kept written written' (Ok _) = FsReaches s Stands kept written written'
FsDoes s Stands kept written written' (Err fault) = FsPrevents fault s written written'

-- a rule of the script that a line breaks
abbrev pub IsScript : BenchFault → Type 0
IsScript (faults.Script rule) = Unit {0}
IsScript faults.WriteFault = ⊥

-- A failed write has its cause in this call; the count of faults never falls, and where the line is done no write met one.
pub record HasFsCause {T : Type 0} (old new : ℕ) (result : Result T BenchFault) : Type 0 where
  pub cause : IfErr result (λ fault. fault ≡ faults.WriteFault → Rose old new)
  pub never_falls : old ≤ new
  pub faultless : OnOk result (new ≡ old)
