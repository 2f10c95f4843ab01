-- Counts of 64 bits, each of which stands still at the greatest of them (profile).
use Rattle.std.specs.Prelude.{ℕ, min, ◌^◌, ◌-◌}

-- the value, or the greatest number of 64 bits where it would pass that
abbrev pub at_most_u64 : ℕ → ℕ
at_most_u64 value = min value (2 ^ 64 - 1)
