-- What is the same at each of so many numbers.
use Rattle.std.proofs.Common.{◌≡◌, subst, ℕ, zero, suc, ◌+◌, ◌≤◌, ◌<◌, map, arith, inl, inr}
use Rattle.std.specs.List.{range_with_len}
use Rattle.std.proofs.lemmas.Bool.{cases_eq}

module _ {A : Type 0} (f g : ℕ → A) where
  in_row : (from count : ℕ) → map f (range_with_len from count) ≡ map g (range_with_len from count) → (n : ℕ) → from ≤ n
      → n < from + count → f n ≡ g n
  in_row from zero each n low high = absurd (omega arith)
  in_row from (suc count) each n low high = elim (cases_eq from n) [
    | inl same ↦ subst (λ (m : ℕ). f m ≡ g m) same (let first : f from ≡ g from = cc in first)
    | inr other ↦
        in_row (from + 1) count (let rest : map f (range_with_len (from + 1) count) ≡ map g (range_with_len (from + 1) count) = cc in rest) n
        (omega arith) (omega arith)
  ]

  pub in_each : (count : ℕ) → map f (range_with_len 0 count) ≡ map g (range_with_len 0 count) → (n : ℕ) → n < count → f n ≡ g n
  in_each count each n below = in_row 0 count each n (omega arith) (omega arith)

  pub of_thirty : map f (range_with_len 0 30) ≡ map g (range_with_len 0 30) → (n : ℕ) → n < 30 → f n ≡ g n
  of_thirty = in_each 30
