-- How a text is put into the caller's room.
use Rattle.std.specs.Prelude.{◌≡◌, ℕ, ◌≤◌, ◌<◌, ◌⊎◌, List, ◌++◌, length, take, drop}
use Rattle.uac_ends.specs.declared.status.Status.TheVariants as statuses
use Rattle.uac_ends.specs.Exit.{exit_number}

-- the whole text stands in front of the room, and this number is told; or the room is full of its front, and a write fault is told
abbrev pub IsPut : List ℕ → ℕ → List ℕ → List ℕ → ℕ → ℕ → Type 0
IsPut text status old new written number =
    ((number ≡ status) × (written ≡ length text) × (new ≡ text ++ drop written old))
    ⊎ ((number ≡ exit_number statuses.WriteFault) × (length old < length text) × (written ≡ length old) × (new ≡ take written text))
