-- A product of a large number and a byte.
use Rattle.std.proofs.Common.{ℕ, ◌+◌, ◌*◌, ◌^◌, ◌<◌, ◌≤◌, arith}
use Rattle.std.proofs.Math.Nat.{mul-le-mul_left}

pub product_fits : (a b : ℕ) → a < 2 ^ 72 → b < 2 ^ 8 → a * b + 7 < 2 ^ 128
product_fits a b h g =
    let wide : b ≤ 256 = omega arith in
    omega (arith, mul-le-mul_left a wide)
