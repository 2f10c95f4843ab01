-- What a line comes to, and what stops its lines.
use Rattle.std.specs.Prelude.{◌≡◌, ℕ, Bool, true, List, Option, Result, Ok, Err}
use Rattle.std.specs.Io.KnownBytes.{Appends}
use Rattle.uac_edges.specs.Faults.{Rose}
use Rattle.uac_edges.specs.Writing.{AppendsFront}
use Rattle.uac_lines.specs.declared.lines.LineStop.{LineStop}
use Rattle.uac_lines.specs.declared.lines.LineStop.TheVariants as stop
use Rattle.uac_ends.specs.declared.fault.LineFault.{LineFault}
use Rattle.uac_ends.specs.declared.fault.LineFault.TheVariants as faults
use Rattle.uac_ends.specs.Outcome.{Last, at_long_line, past_limit, at_failed_read}
use Rattle.uac_runner.specs.Machine.{Machine, Step, done, refused, text_of}

-- nothing was printed, no write met a fault, and what stands beside shows the same
pub record IsSilent (Shown : Type 0) (written written' : Option (List ℕ)) (writes writes' : ℕ) : Type 0 where
  pub shown : Shown
  pub kept : written' ≡ written
  pub faultless : writes' ≡ writes

-- the step was done: this holds of the next world, its lines were written, and no write met a fault
abbrev pub Reaches : {W L : Type 0} → Machine W L → Step W L → (W → Type 0) → Option (List ℕ) → Option (List ℕ) → ℕ → ℕ → Type 0
Reaches m (done next lines) Holds written written' writes writes' = Holds next × Appends written written' (text_of m lines) × (writes' ≡ writes)
Reaches m (refused fault) Holds written written' writes writes' = ⊥

-- a write failed in the middle of the step's lines
abbrev pub IsWriteCut : {W L : Type 0} → Machine W L → Step W L → Option (List ℕ) → Option (List ℕ) → Type 0
IsWriteCut m (done next lines) written written' = AppendsFront written written' (text_of m lines)
IsWriteCut m (refused fault) written written' = ⊥

-- why a step wasn't done, and what that leaves; memory may be wanted only where this says so
abbrev pub Prevents : {W L : Type 0} → LineFault → Machine W L → Bool → Step W L → Type 0 → Option (List ℕ) → Option (List ℕ) → ℕ → ℕ → Type 0
Prevents faults.WriteFault m memory s Shown written written' writes writes' = IsWriteCut m s written written' × Rose writes writes'
Prevents faults.NoMemory m memory s Shown written written' writes writes' = (memory ≡ true) × IsSilent Shown written written' writes writes'
Prevents (faults.Script rule) m memory s Shown written written' writes writes' = (s ≡ refused (faults.Script rule)) × IsSilent Shown written written' writes writes'
Prevents (faults.Grammar fault) m memory s Shown written written' writes writes' = (s ≡ refused (faults.Grammar fault)) × IsSilent Shown written written' writes writes'
Prevents (faults.Topology fault) m memory s Shown written written' writes writes' = (s ≡ refused (faults.Topology fault)) × IsSilent Shown written written' writes writes'

-- what a text is answered in a world, and what that leaves
abbrev pub DoesLine : {W L : Type 0} → Machine W L → List ℕ → W → (W → Type 0) → Type 0 → Option (List ℕ) → Option (List ℕ) → ℕ → ℕ
    → Result (Unit {0}) LineFault → Type 0
DoesLine m text w Holds Shown written written' writes writes' (Ok _) = Reaches m (m.step text w) Holds written written' writes writes'
DoesLine m text w Holds Shown written written' writes writes' (Err fault) =
    Prevents fault m (m.wants text w) (m.step text w) Shown written written' writes writes'

-- the last line where there is no next one; the number is that of a line that is too long
abbrev pub stop_last : LineStop → ℕ → Last
stop_last stop.Long number = at_long_line number
stop_last stop.TooLong number = past_limit
stop_last stop.Failed number = at_failed_read
