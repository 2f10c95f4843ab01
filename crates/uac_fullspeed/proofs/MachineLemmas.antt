-- What a bench is answered, as what a machine is; and its lines come to what they say does.
use Rattle.std.proofs.Common.{◌≡◌, ◌≢◌, ◌∙◌, ap, refl, sym, subst, ℕ, ◌⊎◌, inl, inr, Bool, true, false, List, [], ◌∷◌, ◌++◌, map, Option, None, Result, Ok, Err}
use Rattle.std.specs.Prelude.{⊤}
use Rattle.uac_edges.specs.Faults.{Rose}
use Rattle.uac_script.specs.LineParsing.{answer}
use Rattle.uac_script.specs.Phrase.{Phrase}
use Rattle.uac_script.proofs.LineParsingLemmas.{says_only}
use Rattle.uac_ends.specs.declared.fault.LineFault.{LineFault}
use Rattle.uac_ends.specs.declared.fault.LineFault.TheVariants as faults
use Rattle.uac_runner.specs.Machine.{After, Step, after, and_then}
use Rattle.uac_runner.specs.LineOutcomes.{IsSilent, IsWriteCut, Prevents, Reaches}
use Rattle.uac_runner.proofs.ScriptLemmas.{after_said, and_then_same, transcript_same}
use Rattle.uac_fullspeed.specs.declared.fault.BenchFault.{BenchFault}
use Rattle.uac_fullspeed.specs.declared.fault.BenchFault.TheVariants as told
use Rattle.uac_fullspeed.specs.FullSpeedWorld.{FullSpeedWorld, full_speed_start}
use Rattle.uac_fullspeed.specs.FullSpeedLines.{FsLine}
use Rattle.uac_fullspeed.specs.FullSpeedSteps.{FsStep, FsAfter, fs_done, fs_refused, fs_said_step, fs_step, fs_after, fs_and_then}
use Rattle.uac_fullspeed.specs.FullSpeedKept.{FsPrevents, FsReaches, IsFsCut, IsScript}
use Rattle.uac_fullspeed.specs.FullSpeedPromise.{FullSpeedKeepsPromises}
use Rattle.uac_fullspeed.specs.FullSpeedMachine.{FsFrontsKeepPromises, FsHasOneTranscript, FsLinesAreSayings, IsSteadyBench, fs_lifted}
use Rattle.uac_fullspeed.specs.FullSpeedMachine.{fs_lifted_after, fs_machine, line_fault}

-- ---- a line

module _ (says : List ℕ → Result Phrase ℕ) (written written' : Option (List ℕ)) (writes writes' : ℕ) where
  reaches : {K : Type 0} (Stands : K → FullSpeedWorld → Type 0) (kept : K) (s : FsStep) → FsReaches s Stands kept written written' → writes' ≡ writes
      → Reaches (fs_machine says) (fs_lifted s) (Stands kept) written written' writes writes'
  reaches Stands kept (fs_done next lines) r still = (r.0, r.1, still)
  reaches Stands kept (fs_refused rule) r still = absurd r

  cut : (s : FsStep) → IsFsCut s written written' → IsWriteCut (fs_machine says) (fs_lifted s) written written'
  cut (fs_done next lines) c = c
  cut (fs_refused rule) c = absurd c

  -- a line that says this was done
  pub line_done : {K : Type 0} (Stands : K → FullSpeedWorld → Type 0) (kept : K) (text : List ℕ) (phrase : Phrase) (w : FullSpeedWorld)
      → says text ≡ Ok phrase → FsReaches (fs_step phrase w) Stands kept written written' → writes' ≡ writes
      → Reaches (fs_machine says) ((fs_machine says).step text w) (Stands kept) written written' writes writes'
  line_done Stands kept text phrase w is r still =
      subst (λ (said : Result Phrase ℕ). Reaches (fs_machine says) (fs_lifted (fs_said_step said w)) (Stands kept) written written' writes writes') (sym is)
      (reaches Stands kept (fs_step phrase w) r still)

  prevented : (fault : BenchFault) (s : FsStep) → FsPrevents fault s written written'
      → (IsScript fault → IsSilent ⊤ written written' writes writes') → (fault ≡ told.WriteFault → Rose writes writes')
      → Prevents (line_fault fault) (fs_machine says) false (fs_lifted s) ⊤ written written' writes writes'
  prevented (told.Script rule) s p silent rose = (ap fs_lifted p, silent tt)
  prevented told.WriteFault s p silent rose = (cut s p, rose refl)

  -- it wasn't, and for any cause but a failed write nothing was printed
  pub line_prevented : (fault : BenchFault) (answered : LineFault) (text : List ℕ) (phrase : Phrase) (w : FullSpeedWorld) → answered ≡ line_fault fault
      → says text ≡ Ok phrase → FsPrevents fault (fs_step phrase w) written written'
      → (IsScript fault → IsSilent ⊤ written written' writes writes') → (fault ≡ told.WriteFault → Rose writes writes')
      → Prevents answered (fs_machine says) false ((fs_machine says).step text w) ⊤ written written' writes writes'
  line_prevented fault answered text phrase w same is p silent rose =
      subst (λ (f : LineFault). Prevents f (fs_machine says) false (fs_lifted (fs_said_step (says text) w)) ⊤ written written' writes writes') (sym same)
      (subst (λ (said : Result Phrase ℕ). Prevents (line_fault fault) (fs_machine says) false (fs_lifted (fs_said_step said w)) ⊤ written written' writes writes') (sym is)
      (prevented fault (fs_step phrase w) p silent rose))

-- a text that breaks a rule of spelling does nothing
pub line_misread : (says : List ℕ → Result Phrase ℕ) (written : Option (List ℕ)) (writes : ℕ) (text : List ℕ) (rule : ℕ) (w : FullSpeedWorld) → says text ≡ Err rule
    → Prevents (faults.Script rule) (fs_machine says) false ((fs_machine says).step text w) ⊤ written written writes writes
line_misread says written writes text rule w is =
    (ap (λ (said : Result Phrase ℕ). fs_lifted (fs_said_step said w)) is, record { shown = tt; kept = refl; faultless = refl })

-- where a failed write wasn't kept, it has its cause here
pub cause_now : (failed : Bool) (writes writes' : ℕ) → failed ≡ false → (failed ≡ true) ⊎ Rose writes writes' → Rose writes writes'
cause_now failed writes writes' going (inl again) = absurd (cc)
cause_now failed writes writes' going (inr rose) = rose

-- ---- lines are what they say

then_lifted : (s : FsStep) (w : FullSpeedWorld) (go : FullSpeedWorld → FsAfter) → and_then (fs_lifted s) w (λ v. fs_lifted_after (go v)) ≡ fs_lifted_after (fs_and_then s w go)
then_lifted (fs_done next lines) w go = refl
then_lifted (fs_refused rule) w go = refl

after_lifted : (saids : List (Result Phrase ℕ)) (w : FullSpeedWorld) → after (λ said v. fs_lifted (fs_said_step said v)) saids w ≡ fs_lifted_after (fs_after saids w)
unfolding after fs_after
after_lifted [] w = refl
after_lifted (said ∷ saids) w =
    and_then_same (fs_lifted (fs_said_step said w)) w (after (λ s v. fs_lifted (fs_said_step s v)) saids) (λ v. fs_lifted_after (fs_after saids v)) (after_lifted saids)
    ∙ then_lifted (fs_said_step said w) w (fs_after saids)

pub lines_are_sayings : FsLinesAreSayings
lines_are_sayings says texts w = after_said says (λ said v. fs_lifted (fs_said_step said v)) texts w ∙ after_lifted (map says texts) w

pub one_transcript : FsHasOneTranscript
one_transcript says says' table table' w taken end =
    transcript_same (fs_machine says) (fs_machine says')
    (λ text v. ap (λ (said : Result Phrase ℕ). fs_lifted (fs_said_step said v)) (says_only text (says text) (table text) ∙ sym (says_only text (says' text) (table' text))))
    (λ v. refl) w taken end

-- ---- what is promised

pub fronts_keep_promises : FullSpeedKeepsPromises → FsFrontsKeepPromises
fronts_keep_promises keep says hertz texts listed front rest parts steady =
    keep (map says front) hertz listed
    (subst IsSteadyBench (ap (λ (a : After FullSpeedWorld FsLine). a.world) (lines_are_sayings says front (full_speed_start hertz))) steady)
