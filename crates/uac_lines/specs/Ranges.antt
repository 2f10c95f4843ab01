-- Profile: the ranges of the numbers of a script line.
use Rattle.std.specs.Prelude.{◌&&◌, Bool, ℤ, pos, negsuc, int_le}

-- the number lies between these two, or is one of them
abbrev pub is_within : ℤ → ℤ → ℤ → Bool
is_within least most z = int_le least z && int_le z most

-- an id of 0 to 255
abbrev pub is_id : ℤ → Bool
is_id z = is_within (pos 0) (pos 255) z

-- a signed number of 32 bits
abbrev pub is_in_32_bits : ℤ → Bool
is_in_32_bits z = is_within (negsuc 2147483647) (pos 2147483647) z
