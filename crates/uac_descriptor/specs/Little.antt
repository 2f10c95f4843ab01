-- Fields of more than one byte: the lowest byte comes first (USB 2.0, 8.1).
use Rattle.std.specs.Prelude.{ℕ, ◌+◌, ◌*◌, ◌/◌, ◌%◌, List, [], ◌∷◌, slice_index}

-- the two bytes of a field
abbrev pub two : ℕ → List ℕ
two n = n % 256 ∷ n / 256 ∷ []

-- the four bytes of a field
abbrev pub four : ℕ → List ℕ
four n = n % 256 ∷ n / 256 % 256 ∷ n / 65536 % 256 ∷ n / 16777216 ∷ []

-- the field in the two bytes from place i
abbrev pub two_at : List ℕ → ℕ → ℕ
two_at bytes i = slice_index bytes i + 256 * slice_index bytes (i + 1)

-- the field in the four bytes from place i
abbrev pub four_at : List ℕ → ℕ → ℕ
four_at bytes i =
    slice_index bytes i + 256 * slice_index bytes (i + 1) + 65536 * slice_index bytes (i + 2) + 16777216 * slice_index bytes (i + 3)
