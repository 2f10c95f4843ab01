-- Frames of one and of two channels, written one sample after the other.
use Rattle.std.proofs.Common.{◌≡◌, ◌∙◌, ap, arith, ℕ, ℤ, List, [], ◌∷◌, length, map, set}
use Rattle.std.specs.List.{range_with_len}

pub one_sounded : (sample : ℕ → ℤ) (list : List ℤ) (z : ℤ) → length list ≡ 1 → z ≡ sample 0 → set list 0 z ≡ map sample (range_with_len 0 (length list))
one_sounded sample (y ∷ []) z one is = ap (λ (s : ℤ). s ∷ []) is
one_sounded sample [] z one is = absurd (omega (arith, one))
one_sounded sample (y ∷ w ∷ list) z one is = absurd (omega (arith, one))

pub two_sounded : (sample : ℕ → ℤ) (list : List ℤ) (a b : ℤ) → length list ≡ 2 → a ≡ sample 0 → b ≡ sample 1
    → set (set list 0 a) 1 b ≡ map sample (range_with_len 0 (length list))
two_sounded sample (y ∷ w ∷ []) a b two left right = ap (λ (s : ℤ). s ∷ b ∷ []) left ∙ ap (λ (s : ℤ). sample 0 ∷ s ∷ []) right
two_sounded sample [] a b two left right = absurd (omega (arith, two))
two_sounded sample (y ∷ []) a b two left right = absurd (omega (arith, two))
two_sounded sample (y ∷ w ∷ v ∷ list) a b two left right = absurd (omega (arith, two))
