-- How a call ends, as its source and its sink see it (profile).
use Rattle.std.specs.Prelude.{◌≡◌, ◌≢◌, ℕ, ◌⊎◌, List, Option}
use Rattle.std.specs.Io.KnownBytes.{Appends, IsAtEnd}
use Rattle.uac_edges.specs.Faults.{Rose}
use Rattle.uac_edges.specs.Writing.{AppendsFront}
use Rattle.uac_ends.specs.declared.status.Status.{Status}
use Rattle.uac_ends.specs.declared.status.Status.TheVariants as statuses
use Rattle.uac_ends.specs.Outcome.{End, at_end, read_failed, stopped, Outcome}
use Rattle.uac_ends.specs.Outside.{Outside}

-- why no more was taken shows on the source: what is left, and its counts of faults before and after. Unless a read failed, no fault
-- was met
abbrev pub ShowsEnd : End → Option (List ℕ) → ℕ → ℕ → Type 0
ShowsEnd at_end left before after = IsAtEnd left × (after ≡ before)
ShowsEnd read_failed left before after = Rose before after
ShowsEnd stopped left before after = after ≡ before

-- the same of the outside
abbrev pub HasEnded : End → Outside → Outside → Type 0
HasEnded end before after = ShowsEnd end after.left before.reads after.reads

-- The status is the outcome's, the whole text was appended, and no write met a fault; or the sink failed, and a front of the text was.
abbrev pub Closes : Outcome → Option (List ℕ) → Option (List ℕ) → ℕ → ℕ → Status → Type 0
Closes outcome old new before after status =
    ((status ≡ outcome.status) × Appends old new outcome.text × (after ≡ before))
    ⊎ ((status ≡ statuses.WriteFault) × Rose before after × AppendsFront old new outcome.text)

-- the same of the outside
abbrev pub IsClosed : Outcome → Outside → Outside → Status → Type 0
IsClosed outcome before after status = Closes outcome before.written after.written before.writes after.writes status

-- A failed read is told only where one failed.
abbrev pub HasReadCause : Outside → Outside → Status → Type 0
HasReadCause before after status = status ≡ statuses.ReadFault → Rose before.reads after.reads

-- A failed write is told only where one failed.
abbrev pub HasWriteCause : Outside → Outside → Status → Type 0
HasWriteCause before after status = status ≡ statuses.WriteFault → Rose before.writes after.writes

-- A call that tells of no failed read and of no failed write met no fault.
abbrev pub IsFaultless : Outside → Outside → Status → Type 0
IsFaultless before after status =
    status ≢ statuses.ReadFault → status ≢ statuses.WriteFault → (after.reads ≡ before.reads) × (after.writes ≡ before.writes)

-- Where Ok is told, the source was read to its end.
abbrev pub IsReadToEnd : Outside → Status → Type 0
IsReadToEnd after status = status ≡ statuses.Ok → IsAtEnd after.left

-- no fault shows in a call: the count of faults neither rose nor stands at its type's end
abbrev pub HasNoFault : ℕ → ℕ → Type 0
HasNoFault before after = Rose before after → ⊥

-- no read and no write failed
pub record MeetsNoFault (before after : Outside) : Type 0 where
  pub read : HasNoFault before.reads after.reads
  pub wrote : HasNoFault before.writes after.writes

-- the status is the outcome's, and its whole text was written
abbrev pub ComesTo : Outcome → Outside → Outside → Status → Type 0
ComesTo outcome before after status = (status ≡ outcome.status) × Appends before.written after.written outcome.text
