-- Numbers as bytes, the lowest first.
use Rattle.std.proofs.Common.{◌≡◌, ℕ, zero, suc, ◌++◌, List, take, drop, refl, ◌≤◌, arith}
use Rattle.byteorder.specs.Endian.{little_bytes, little_number}
use Rattle.byteorder.specs.Numbers.{little_from-take}

-- the first bytes of eight
pub first_bytes : (width n : ℕ) (rest : List ℕ) → width ≤ 6 → take width (little_bytes 8 n ++ rest) ≡ little_bytes width n
first_bytes zero n rest few = refl
first_bytes (suc zero) n rest few = refl
first_bytes (suc (suc zero)) n rest few = refl
first_bytes (suc (suc (suc zero))) n rest few = refl
first_bytes (suc (suc (suc (suc zero)))) n rest few = refl
first_bytes (suc (suc (suc (suc (suc zero))))) n rest few = refl
first_bytes (suc (suc (suc (suc (suc (suc zero)))))) n rest few = refl
first_bytes (suc (suc (suc (suc (suc (suc (suc k))))))) n rest few = absurd (omega arith)

-- a number of two bytes is that of the first two
pub first_two : (i : ℕ) (bytes : List ℕ) → little_number 2 (take 2 (drop i bytes)) ≡ little_number 2 (drop i bytes)
first_two i bytes = little_from-take 0 2 2 (drop i bytes) (omega arith)
