-- What the bus is answered, as what a machine is.
use Rattle.std.proofs.Common.{◌≡◌, ◌≢◌, ℕ, ◌⊎◌, inl, inr, true, List, Option, None, Some, Result, Ok, Err, refl, sym, ap, subst, ◌∙◌}
use Rattle.uac_edges.specs.Faults.{Rose}
use Rattle.uac_units.specs.Hearing.{Reading}
use Rattle.uac_units.specs.declared.jobs.UnitKind.{UnitKind}
use Rattle.uac_script.specs.LineParsing.{answer}
use Rattle.uac_script.specs.Phrase.{Phrase}
use Rattle.uac_fault.specs.declared.fault.BusFault.{BusFault}
use Rattle.uac_fault.specs.declared.fault.BusFault.TheVariants as told
use Rattle.uac_rows.specs.BusWorld.{BusWorld, describing, running, meters_in, step, finish_of}
use Rattle.uac_rows.specs.BusWorld as bus
use Rattle.uac_rows.specs.BusSteps.{may_want}
use Rattle.uac_rows.specs.BusSteps as rows
use Rattle.uac_rows.specs.After.{said_step}
use Rattle.uac_bus.specs.BusKept.{Answers, BusFields, BusStands}
use Rattle.uac_ends.specs.declared.fault.LineFault.{LineFault}
use Rattle.uac_ends.specs.declared.fault.LineFault.TheVariants as faults
use Rattle.uac_runner.specs.Machine.{Step, done, refused, ended_by}
use Rattle.uac_runner.specs.LineOutcomes.{DoesLine, IsSilent, IsWriteCut, Prevents, Reaches}
use Rattle.uac_scripts.specs.BusMachine.{Sayings, bus_machine, lifted, line_fault, rule_at_end, wants}
use Rattle.uac_scripts.specs.BusMachineLaws.{bus_shown}

module _ (says : Sayings) (Holds : BusWorld → Type 0) (written written' : Option (List ℕ)) (writes writes' : ℕ) where
  reaches : (s : bus.Step) → rows.Reaches s Holds written written' → writes' ≡ writes → Reaches (bus_machine says) (lifted s) Holds written written' writes writes'
  reaches (bus.done next lines) r still = (r.0, r.1, still)
  reaches (bus.refused fault) r still = absurd r

  cut : (s : bus.Step) → rows.IsWriteCut s written written' → IsWriteCut (bus_machine says) (lifted s) written written'
  cut (bus.done next lines) c = c
  cut (bus.refused fault) c = absurd c

  -- a line that says this was done
  pub line_done : (text : List ℕ) (phrase : Phrase) (w : BusWorld) → says text ≡ Ok phrase → rows.Reaches (step phrase w) Holds written written' → writes' ≡ writes
      → Reaches (bus_machine says) ((bus_machine says).step text w) Holds written written' writes writes'
  line_done text phrase w is r still =
      subst (λ (said : Result Phrase ℕ). Reaches (bus_machine says) (lifted (said_step said w)) Holds written written' writes writes') (sym is) (reaches (step phrase w) r still)

  -- it wasn't, and for any cause but a failed write nothing was printed or heard
  prevented : (Shown : Type 0) (fault : BusFault) (phrase : Phrase) (w : BusWorld) → rows.Prevents fault (may_want phrase w) (step phrase w) written written'
      → (fault ≢ told.WriteFault → IsSilent Shown written written' writes writes') → (fault ≡ told.WriteFault → Rose writes writes')
      → Prevents (line_fault fault) (bus_machine says) (may_want phrase w) (lifted (step phrase w)) Shown written written' writes writes'
  prevented Shown (told.Script rule) phrase w p silent rose = (ap lifted p, silent (λ e. cc))
  prevented Shown (told.Grammar fault) phrase w p silent rose = (ap lifted p, silent (λ e. cc))
  prevented Shown (told.Topology fault) phrase w p silent rose = (ap lifted p, silent (λ e. cc))
  prevented Shown told.WriteFault phrase w p silent rose = (cut (step phrase w) p, rose refl)
  prevented Shown told.NoMemory phrase w p silent rose = (p, silent (λ e. cc))

  pub line_prevented : (Shown : Type 0) (fault : BusFault) (answered : LineFault) (text : List ℕ) (phrase : Phrase) (w : BusWorld) → answered ≡ line_fault fault
      → says text ≡ Ok phrase → rows.Prevents fault (may_want phrase w) (step phrase w) written written'
      → (fault ≢ told.WriteFault → IsSilent Shown written written' writes writes') → (fault ≡ told.WriteFault → Rose writes writes')
      → Prevents answered (bus_machine says) ((bus_machine says).wants text w) ((bus_machine says).step text w) Shown written written' writes writes'
  line_prevented Shown fault answered text phrase w same is p silent rose =
      subst (λ (f : LineFault). Prevents f (bus_machine says) (wants (says text) w) (lifted (said_step (says text) w)) Shown written written' writes writes') (sym same)
      (subst (λ (said : Result Phrase ℕ). Prevents (line_fault fault) (bus_machine says) (wants said w) (lifted (said_step said w)) Shown written written' writes writes') (sym is)
      (prevented Shown fault phrase w p silent rose))

-- a text that breaks a rule of spelling does nothing
pub line_misread : (says : Sayings) (Shown : Type 0) (written : Option (List ℕ)) (writes : ℕ) (text : List ℕ) (rule : ℕ) (w : BusWorld) → says text ≡ Err rule → Shown
    → Prevents (faults.Script rule) (bus_machine says) ((bus_machine says).wants text w) ((bus_machine says).step text w) Shown written written writes writes
line_misread says Shown written writes text rule w is shown =
    (ap (λ (said : Result Phrase ℕ). lifted (said_step said w)) is, record { shown = shown; kept = refl; faultless = refl })

-- where a failed write wasn't kept, it has its cause here
pub cause_now : (before : Option BusFault) (writes writes' : ℕ) → before ≡ None → (before ≡ Some told.WriteFault) ⊎ Rose writes writes' → Rose writes writes'
cause_now before writes writes' none (inl again) = absurd (cc)
cause_now before writes writes' none (inr rose) = rose

-- ---- the script's end

pub ends_well : (w : BusWorld) (u : Unit {0}) → finish_of w ≡ Ok u → Ok tt ≡ ended_by (rule_at_end w)
ends_well (describing bytes meters) u e = absurd (cc)
ends_well (running r) u e = refl

pub ends_badly : (w : BusWorld) (fault : BusFault) → finish_of w ≡ Err fault → Err (line_fault fault) ≡ ended_by (rule_at_end w)
ends_badly (describing bytes meters) fault e = let same : fault ≡ told.Script 8 = cc in ap (λ (f : BusFault). let r : Result (Unit {0}) LineFault = Err (line_fault f) in r) same
ends_badly (running r) fault e = absurd (cc)
