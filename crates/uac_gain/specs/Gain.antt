-- Gains, scaling and saturation. Profile: the standard leaves a device's arithmetic open. Of it only the form of a
-- volume is the standard's: Audio Class 2.0, 5.2.5.7.2 (Volume Control), parts of 1/256 decibel, and -32768 for silence.
use Rattle.std.specs.Prelude.{ℕ, zero, suc, ◌*◌, ◌/◌, ◌%◌, ◌^◌, ◌&&◌, ◌==◌, ℤ, pos, negsuc, ◌*ℤ◌, nat_le, if◌then◌else◌, Option, Some, None}
use Rattle.std.specs.Int.{int_max, int_min}

-- the gain of one: a sample scaled by it stays as it is
abbrev pub unity : ℕ
unity = 2 ^ 30

-- the gain that many decibels down: each is the one before, scaled by one decibel (956973408 parts of 2^30) and rounded down
unfoldable pub decibel_gain : ℕ → ℕ
decibel_gain zero = unity
decibel_gain (suc decibels) = decibel_gain decibels * 956973408 / 2 ^ 30

-- the gain that many decibels up: each is the one before, scaled by one decibel (1204758141 parts of 2^30) and rounded down
unfoldable pub raised_gain : ℕ → ℕ
raised_gain zero = unity
raised_gain (suc decibels) = raised_gain decibels * 1204758141 / 2 ^ 30

-- half a decibel further down or up: 1013677647 or 1137365026 parts of 2^30, rounded down
abbrev pub half_below : ℕ → ℕ
half_below gain = gain * 1013677647 / 2 ^ 30

abbrev pub half_above : ℕ → ℕ
half_above gain = gain * 1137365026 / 2 ^ 30

-- the gain that many parts of 1/256 decibel below 0: whole decibels down to -96, and halves down to -31.5
abbrev pub gain_below : ℕ → Option ℕ
gain_below parts =
    if parts % 256 == 0 && nat_le parts 24576 then Some (decibel_gain (parts / 256))
    else if parts % 256 == 128 && nat_le parts 8064 then Some (half_below (decibel_gain (parts / 256)))
    else None

-- the gain that many parts above 0: whole decibels up to 12, and halves up to 11.5
abbrev pub gain_above : ℕ → Option ℕ
gain_above parts =
    if parts % 256 == 0 && nat_le parts 3072 then Some (raised_gain (parts / 256))
    else if parts % 256 == 128 && nat_le parts 2944 then Some (half_above (raised_gain (parts / 256)))
    else None

-- silence has the gain 0, a volume on the grid has its decibels' gain, and nothing else has one
abbrev pub gain_of : ℤ → Option ℕ
gain_of (pos parts) = gain_above parts
gain_of (negsuc n) = if n == 32767 then Some 0 else gain_below (suc n)

-- the quotient rounded towards minus infinity
abbrev pub floor_div : ℤ → ℕ → ℤ
floor_div (pos n) d = pos (n / d)
floor_div (negsuc n) d = negsuc (n / d)

-- the signed number of 32 bits that is nearest
abbrev pub nearest_in_32_bits : ℤ → ℤ
nearest_in_32_bits sum = int_max (negsuc 2147483647) (int_min sum (pos 2147483647))

-- the sample times the gain, which is in parts of 2^30
abbrev pub product_floor : ℤ → ℕ → ℤ
product_floor sample gain = floor_div (sample *ℤ pos gain) (2 ^ 30)

-- a sample scaled and clamped to 32 bits: a gain above one can leave them
abbrev pub scaled_sample : ℤ → ℕ → ℤ
scaled_sample sample gain = nearest_in_32_bits (product_floor sample gain)
