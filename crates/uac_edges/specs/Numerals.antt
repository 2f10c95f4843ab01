-- Profile: a number is written in decimal without leading zeros, with `-` where it is negative (not `-0`).
use Rattle.std.specs.Prelude.{ℕ, ◌+◌, ◌==◌, if◌then◌else◌, List, ◌∷◌, map, codes, ℤ, pos, negsuc}
use Rattle.std.specs.Int.Digits.{digits_of}

-- the numeral of a natural number: `0`, or its digits, of which the first isn't 0
unfoldable pub natural : ℕ → List ℕ
natural n = if n == 0 then codes "0" else map (λ d. 48 + d) (digits_of 10 n)

-- the numeral of a number: each has one, of whatever length
unfoldable pub numeral : ℤ → List ℕ
numeral (pos n) = natural n
numeral (negsuc n) = 45 ∷ natural (n + 1)
