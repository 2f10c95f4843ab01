-- Samples and gains in eight lanes (profile: the arithmetic of units, as in Rendering).
use Rattle.std.specs.Prelude.{ℕ, ◌^◌, ℤ, pos, ◌*ℤ◌, ◌≤ℤ◌, ◌<ℤ◌, ◌≤◌, unsigned_abs, List, [], ◌∷◌, bit_or}
use Rattle.std.specs.Simd.Lanes.{fold_l}
use Rattle.uac_gain.specs.Gain.{floor_div, nearest_in_32_bits}

-- what stands in each of eight lanes
abbrev pub eight : {A : Type 0} → (ℕ → A) → List A
eight lane = lane 0 ∷ lane 1 ∷ lane 2 ∷ lane 3 ∷ lane 4 ∷ lane 5 ∷ lane 6 ∷ lane 7 ∷ []

-- a gain, in parts of 2^30, as a lane has it
abbrev pub IsGain : ℤ → Type 0
IsGain gain = (pos 0 ≤ℤ gain) × (gain <ℤ pos 4294967296)

-- a sum to which a sample can be added in 64 bits
abbrev pub SumFits : ℤ → Type 0
SumFits sum = unsigned_abs sum ≤ 2 ^ 40

-- a sample scaled by a lane's gain, before and after it is clamped to 32 bits
abbrev pub floored_by : ℤ → ℤ → ℤ
floored_by sample gain = floor_div (sample *ℤ gain) (2 ^ 30)

abbrev pub scaled_by : ℤ → ℤ → ℤ
scaled_by sample gain = nearest_in_32_bits (floored_by sample gain)

-- the bits of all gains together: 0 where all are silent, and no gain is above them
abbrev pub together : List ℕ → ℕ
together gains = fold_l bit_or 0 gains
