-- What a desk does is what its machine does.
use Rattle.std.proofs.Common.{◌≡◌, ◌≢◌, ◌∙◌, refl, ap, sym, ℕ, List, Option, None, Some, Result, Ok, Err, IfErr, OnOk, ◌⊎◌, inl, inr}
use Rattle.std.specs.Prelude.{⊤}
use Rattle.uac_edges.specs.Faults.{Rose}
use Rattle.uac_ends.specs.declared.fault.LineFault.{LineFault}
use Rattle.uac_ends.specs.declared.fault.LineFault.TheVariants as faults
use Rattle.uac_runner.specs.Machine.{done, refused}
use Rattle.uac_runner.specs.LineOutcomes.{DoesLine, IsSilent, Reaches}
use Rattle.uac_status.specs.DeskPhrases.{desk_answer}
use Rattle.uac_status.specs.Desks.{DeskStep, DeskWorld, desk_machine, said_step, said_wants}
use Rattle.uac_status.specs.FrontKept.{Does, IsDone}

-- the sink is as it was
silent : {S : Type 0} (written : S → Option (List ℕ)) (faulted : S → ℕ) (old new : S) → new ≡ old → IsSilent ⊤ (written old) (written new) (faulted old) (faulted new)
silent written faulted old new same = record { shown = tt; kept = ap written same; faultless = ap faulted same }

reached : (s : DeskStep) (Holds : DeskWorld → Type 0) (written written' : Option (List ℕ)) (writes writes' : ℕ) → IsDone s Holds written written' → writes' ≡ writes
    → Reaches desk_machine s Holds written written' writes writes'
reached (done next lines) Holds written written' writes writes' is same = (is.0, is.1, same)
reached (refused fault) Holds written written' writes writes' is same = absurd is

not_kept : (kept : Option LineFault) (R : Type 0) → kept ≡ None → (kept ≡ Some faults.WriteFault) ⊎ R → R
not_kept kept R none (inl is) = absurd (let no : None ≡ Some faults.WriteFault = sym none ∙ is in cc)
not_kept kept R none (inr rose) = rose

pub line_does : {S : Type 0} (written : S → Option (List ℕ)) (faulted : S → ℕ) (old new : S) (text : List ℕ) (w : DeskWorld) (Holds : DeskWorld → Type 0) (kept : Option LineFault)
    (result : Result (Unit {0}) LineFault) → kept ≡ None
    → Does (said_step (desk_answer text) w) (said_wants (desk_answer text) w) Holds (written old) (written new) result
    → IfErr result (λ fault. fault ≢ faults.WriteFault → new ≡ old)
    → IfErr result (λ fault. fault ≡ faults.WriteFault → (kept ≡ Some faults.WriteFault) ⊎ Rose (faulted old) (faulted new))
    → OnOk result (faulted new ≡ faulted old)
    → DoesLine desk_machine text w Holds ⊤ (written old) (written new) (faulted old) (faulted new) result
line_does written faulted old new text w Holds kept (Ok _) none does same cause faultless =
    reached (said_step (desk_answer text) w) Holds (written old) (written new) (faulted old) (faulted new) does faultless
line_does written faulted old new text w Holds kept (Err faults.WriteFault) none does same cause faultless =
    (does, not_kept kept (Rose (faulted old) (faulted new)) none (cause refl))
line_does written faulted old new text w Holds kept (Err faults.NoMemory) none does same cause faultless =
    (does, silent written faulted old new (same (λ e. cc)))
line_does written faulted old new text w Holds kept (Err (faults.Script rule)) none does same cause faultless =
    (does, silent written faulted old new (same (λ e. cc)))
line_does written faulted old new text w Holds kept (Err (faults.Grammar fault)) none does same cause faultless =
    (does, silent written faulted old new (same (λ e. cc)))
line_does written faulted old new text w Holds kept (Err (faults.Topology fault)) none does same cause faultless =
    (does, silent written faulted old new (same (λ e. cc)))
