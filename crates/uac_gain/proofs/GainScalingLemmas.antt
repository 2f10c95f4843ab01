-- The laws of scaling.
use Rattle.std.proofs.Common.{◌≡◌, ◌∙◌, ap, arith, ℕ, zero, suc, ◌*◌, ◌-◌, ◌/◌, ◌^◌, ◌≤◌, ℤ, pos, negsuc, neg_ℤ, unsigned_abs, FitsSigned, w32, min, le_trans, le_of_eq}
use Rattle.std.proofs.lemmas.Int.{ints}
use Rattle.std.proofs.Math.Nat.{mul-le-mul_left}
use Rattle.uac_gain.specs.Gain.{floor_div, product_floor, scaled_sample, nearest_in_32_bits}

-- a product below 0 by more than k, rounded down
floor_div-below : (p k : ℕ) → p ≡ suc k → floor_div (neg_ℤ (pos p)) (2 ^ 30) ≡ negsuc (k / 2 ^ 30)
floor_div-below zero k h = absurd (omega arith)
floor_div-below (suc p) k h = ap (λ n. negsuc (n / 2 ^ 30)) (omega arith)

pub product_floor-unity : (sample : ℤ) → product_floor sample (2 ^ 30) ≡ sample
product_floor-unity (pos n) = ap pos (omega arith)
product_floor-unity (negsuc n) = floor_div-below (suc n * 2 ^ 30) (suc n * 2 ^ 30 - 1) (omega arith) ∙ ap negsuc (omega arith)

pub nearest_in_32_bits-pos : (n : ℕ) → nearest_in_32_bits (pos n) ≡ pos (min n 2147483647)
nearest_in_32_bits-pos n = grind (arith, ints)

pub nearest_in_32_bits-negsuc : (n : ℕ) → nearest_in_32_bits (negsuc n) ≡ negsuc (min n 2147483647)
nearest_in_32_bits-negsuc n = grind (arith, ints)

-- the size of a scaled negative sample grows with the product
below-mono : (p q : ℕ) → p ≤ q → unsigned_abs (nearest_in_32_bits (floor_div (neg_ℤ (pos p)) (2 ^ 30))) ≤ unsigned_abs (nearest_in_32_bits (floor_div (neg_ℤ (pos q)) (2 ^ 30)))
below-mono zero q h = omega arith
below-mono (suc p) zero h = absurd (omega arith)
below-mono (suc p) (suc q) h = rw (nearest_in_32_bits-negsuc (p / 2 ^ 30), nearest_in_32_bits-negsuc (q / 2 ^ 30)) (omega arith)

pub scaled_sample-lesser : (sample : ℤ) (less more : ℕ) → less ≤ more → unsigned_abs (scaled_sample sample less) ≤ unsigned_abs (scaled_sample sample more)
scaled_sample-lesser (pos n) less more h =
    let k : n * less ≤ n * more = mul-le-mul_left n h in
    rw (nearest_in_32_bits-pos (n * less / 2 ^ 30), nearest_in_32_bits-pos (n * more / 2 ^ 30)) (omega arith)
scaled_sample-lesser (negsuc n) less more h = below-mono (suc n * less) (suc n * more) (mul-le-mul_left (suc n) h)

pub nearest_in_32_bits-smaller : (sum : ℤ) → unsigned_abs (nearest_in_32_bits sum) ≤ unsigned_abs sum
nearest_in_32_bits-smaller (pos n) = rw (nearest_in_32_bits-pos n) (omega arith)
nearest_in_32_bits-smaller (negsuc n) = rw (nearest_in_32_bits-negsuc n) (omega arith)

pub scaled_sample-whole : (sample : ℤ) (gain : ℕ) → gain ≤ 2 ^ 30 → unsigned_abs (scaled_sample sample gain) ≤ unsigned_abs sample
scaled_sample-whole sample gain h =
    le_trans (scaled_sample-lesser sample gain (2 ^ 30) h)
    (le_trans (nearest_in_32_bits-smaller (product_floor sample (2 ^ 30))) (le_of_eq (ap unsigned_abs (product_floor-unity sample))))

pub scaled_sample-unity : (sample : ℤ) → FitsSigned w32 sample → scaled_sample sample (2 ^ 30) ≡ sample
scaled_sample-unity sample fits = ap nearest_in_32_bits (product_floor-unity sample) ∙ whole sample fits
  where
    whole : (sample : ℤ) → FitsSigned w32 sample → nearest_in_32_bits sample ≡ sample
    whole (pos n) fits = nearest_in_32_bits-pos n ∙ ap pos (omega (arith, fits))
    whole (negsuc n) fits = nearest_in_32_bits-negsuc n ∙ ap negsuc (omega (arith, fits))
