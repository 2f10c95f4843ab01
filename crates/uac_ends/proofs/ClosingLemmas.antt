-- How a run was closed.
use Rattle.std.specs.Io.KnownBytes.{Appends}
use Rattle.std.proofs.Common.{◌≡◌, ◌≢◌, ℕ, inl, inr, List, Option, codes, refl, subst}
use Rattle.uac_transcript.specs.Transcript.{spelling_of}
use Rattle.uac_ends.specs.declared.status.Status.{Status}
use Rattle.uac_ends.specs.declared.status.Status.TheVariants as statuses
use Rattle.uac_ends.specs.Closing.{Closes, HasNoFault}
use Rattle.uac_ends.specs.Outcome.{Outcome, no_memory, read_fault, too_long}

-- ---- the last lines that are always the same

memory_text : codes "no memory\n" ≡ no_memory.text
unfolding spelling_of
memory_text = refl

read_fault_text : codes "read fault\n" ≡ read_fault.text
unfolding spelling_of
read_fault_text = refl

too_long_text : codes "input too long\n" ≡ too_long.text
unfolding spelling_of
too_long_text = refl

-- a text was written that is the outcome's
pub closes_as : (o : Outcome) (text : List ℕ) (w w' : Option (List ℕ)) (f f' : ℕ) (status : Status) → text ≡ o.text
    → Closes (record { text = text; status = o.status }) w w' f f' status → Closes o w w' f f' status
closes_as o text w w' f f' status same closed = subst (λ (t : List ℕ). Closes (record { text = t; status = o.status }) w w' f f' status) same closed

pub closes_memory : (w w' : Option (List ℕ)) (f f' : ℕ) (status : Status)
    → Closes (record { text = codes "no memory\n"; status = statuses.NoMemory }) w w' f f' status → Closes no_memory w w' f f' status
closes_memory w w' f f' status closed = closes_as no_memory _ w w' f f' status memory_text closed

pub closes_read_fault : (w w' : Option (List ℕ)) (f f' : ℕ) (status : Status)
    → Closes (record { text = codes "read fault\n"; status = statuses.ReadFault }) w w' f f' status → Closes read_fault w w' f f' status
closes_read_fault w w' f f' status closed = closes_as read_fault _ w w' f f' status read_fault_text closed

pub closes_too_long : (w w' : Option (List ℕ)) (f f' : ℕ) (status : Status)
    → Closes (record { text = codes "input too long\n"; status = statuses.TooLong }) w w' f f' status → Closes too_long w w' f f' status
closes_too_long w w' f f' status closed = closes_as too_long _ w w' f f' status too_long_text closed

-- ---- where no fault is told none was met

-- no write failed, so none met a fault
pub closes_faultless : (o : Outcome) (w w' : Option (List ℕ)) (f f' : ℕ) (status : Status) → Closes o w w' f f' status → status ≢ statuses.WriteFault → f' ≡ f
closes_faultless o w w' f f' status (inl all) other = all.2
closes_faultless o w w' f f' status (inr cut) other = absurd (other cut.0)

-- the outcome's status is told, or the failed write
pub told_status : (o : Outcome) (w w' : Option (List ℕ)) (f f' : ℕ) (status : Status) → Closes o w w' f f' status → status ≢ o.status → status ≢ statuses.WriteFault → ⊥
told_status o w w' f f' status (inl all) unlike other = unlike all.0
told_status o w w' f f' status (inr cut) unlike other = other cut.0

-- no write failed, so the whole text was written
pub closed_whole : (outcome : Outcome) (w w' : Option (List ℕ)) (f f' : ℕ) (status : Status) → HasNoFault f f' → Closes outcome w w' f f' status
    → (status ≡ outcome.status) × Appends w w' outcome.text
closed_whole outcome w w' f f' status quiet (inl all) = (all.0, all.1)
closed_whole outcome w w' f f' status quiet (inr cut) = absurd (quiet cut.1)
