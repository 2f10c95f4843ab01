-- Audio Data Formats 2.0, 2.3.1 (Type I formats): a sample in an audio subslot of 1 to 4 bytes, of which the resolution says
-- how many bits are used, left-justified. What the unused bits hold is the profile's: they are 0 on sending and on reading.
use Rattle.std.specs.Prelude.{ℕ, ◌-◌, ◌*◌, ◌^◌, ℤ, pos, ◌*ℤ◌, unsigned_abs, List}
use Rattle.std.specs.Int.{w32, int_div_euclid, int_rem_euclid, int_wrap}
use Rattle.byteorder.specs.Endian.{little_bytes, little_number}

-- the quotient rounded down
abbrev pub floor_of : ℤ → ℕ → ℤ
floor_of dividend divisor = int_div_euclid dividend (pos divisor)

-- the remainder, from 0 up
abbrev pub modulo : ℤ → ℕ → ℕ
modulo dividend divisor = unsigned_abs (int_rem_euclid dividend (pos divisor))

-- the signed number of 32 bits that differs from this one by a multiple of 2^32
abbrev pub wrap : ℤ → ℤ
wrap number = int_wrap w32 number

-- the sample at a resolution: its bits below the uppermost `resolution` of 32 are 0
unfoldable pub cut_to : ℕ → ℤ → ℤ
cut_to resolution sample = floor_of sample (2 ^ (32 - resolution)) *ℤ pos (2 ^ (32 - resolution))

-- the subslot of a sample: the uppermost bytes of the cut sample, so many of them, the lowest first
unfoldable pub subslot_of : ℕ → ℕ → ℤ → List ℕ
subslot_of size resolution sample =
    little_bytes size (modulo (floor_of (cut_to resolution sample) (2 ^ (32 - 8 * size))) (2 ^ (8 * size)))

-- the sample of a subslot: that holds its uppermost bytes, the others are 0, and then it is cut
unfoldable pub sample_of_subslot : ℕ → ℕ → List ℕ → ℤ
sample_of_subslot size resolution subslot = cut_to resolution (wrap (pos (little_number size subslot * 2 ^ (32 - 8 * size))))
