-- From how a run was to end, to how it ends once all that waits in the sink was to be handed on.
use Rattle.std.proofs.Common.{◌≡◌, ◌≢◌, ℕ, inl, inr, List, Option, sym, subst, ◌∙◌}
use Rattle.std.specs.Io.KnownBytes.{Keeps}
use Rattle.std.proofs.KnownBytes.{Appends-kept}
use Rattle.uac_edges.specs.Faults.{Rose}
use Rattle.uac_edges.specs.Writing.{AppendsFront}
use Rattle.uac_edges.proofs.WritingLemmas.{AppendsFront-whole}
use Rattle.uac_ends.specs.declared.status.Status.{Status}
use Rattle.uac_ends.specs.declared.status.Status.TheVariants as statuses
use Rattle.uac_ends.specs.Closing.{Closes, IsFaultless}
use Rattle.uac_ends.specs.HandingOn.{HandsOn}
use Rattle.uac_ends.specs.Outcome.{Outcome}
use Rattle.uac_ends.specs.Outside.{Outside, outside}

-- a front that was appended stays
AppendsFront-kept : (w m w' : Option (List ℕ)) (text : List ℕ) → AppendsFront w m text → Keeps m w' → AppendsFront w w' text
AppendsFront-kept w m w' text f kept = record { front = f.front; rest = f.rest; parts = f.parts; appended = Appends-kept w m w' f.front f.appended kept }

-- its text was written, and is kept
pub closes_on : (outcome : Outcome) (w m w' : Option (List ℕ)) (f g f' : ℕ) (status status' : Status) → Keeps m w' → HandsOn status g f' status'
    → Closes outcome w m f g status → Closes outcome w w' f f' status'
closes_on outcome w m w' f g f' status status' kept (inl same) (inl all) = inl (same.0 ∙ all.0, Appends-kept w m w' outcome.text all.1 kept, same.1 ∙ all.2)
closes_on outcome w m w' f g f' status status' kept (inl same) (inr cut) =
    inr (same.0 ∙ cut.0, subst (λ (n : ℕ). Rose f n) (sym same.1) cut.1, AppendsFront-kept w m w' outcome.text cut.2 kept)
closes_on outcome w m w' f g f' status status' kept (inr fault) (inl all) =
    inr (fault.1, subst (λ (n : ℕ). Rose n f') all.2 fault.2, AppendsFront-whole w w' outcome.text (Appends-kept w m w' outcome.text all.1 kept))
closes_on outcome w m w' f g f' status status' kept (inr fault) (inr cut) = absurd (fault.0 cut.0)

-- a status that isn't a failed write's was that of the run
pub status_before : (status status' : Status) (g f' : ℕ) → HandsOn status g f' status' → status' ≢ statuses.WriteFault → status' ≡ status
status_before status status' g f' (inl same) other = same.0
status_before status status' g f' (inr fault) other = absurd (other fault.1)

-- where no fault is told none was met
pub faultless_on : (before : Outside) (left : Option (List ℕ)) (reads : ℕ) (m w : Option (List ℕ)) (g f' : ℕ) (status status' : Status) → HandsOn status g f' status'
    → IsFaultless before (outside left reads m g) status → IsFaultless before (outside left reads w f') status'
faultless_on before left reads m w g f' status status' (inl same) quiet unread unwritten =
    let earlier = quiet (λ is. unread (same.0 ∙ is)) (λ is. unwritten (same.0 ∙ is)) in (earlier.0, same.1 ∙ earlier.1)
faultless_on before left reads m w g f' status status' (inr fault) quiet unread unwritten = absurd (unwritten fault.1)
