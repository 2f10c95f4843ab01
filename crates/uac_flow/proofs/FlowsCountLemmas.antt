-- Counts of microframes as they are kept.
use Rattle.std.proofs.Common.{◌≡◌, sym, ap, subst, arith, ℕ, zero, suc, ◌+◌, ◌%◌, ◌≤◌, add-one, inl, inr}
use Rattle.uac_rate.specs.Levels.{IsInterval}
use Rattle.uac_flow.specs.Flows.{kept_count}

-- one more microframe
pub count_more : (n : ℕ) → kept_count (n + 1) ≡ n % 8 + 1
count_more n = ap kept_count (add-one n)

pub after_eight : (n count : ℕ) → count ≡ kept_count n → count ≡ 8 → n % 8 + 1 ≡ 1
after_eight zero count is eight = omega arith
after_eight (suc m) count is eight =
    let k : count ≡ m % 8 + 1 = is in omega arith

pub after_less : (n count : ℕ) → count ≡ kept_count n → count ≤ 7 → n % 8 + 1 ≡ count + 1
after_less zero count is less = omega (arith, is)
after_less (suc m) count is less =
    let k : count ≡ m % 8 + 1 = is in omega arith

-- intervals divide 8
same_rests : (n count : ℕ) → count ≡ kept_count n
    → ((count + 1) % 1 ≡ (n + 1) % 1) × ((count + 1) % 2 ≡ (n + 1) % 2) × ((count + 1) % 4 ≡ (n + 1) % 4) × ((count + 1) % 8 ≡ (n + 1) % 8)
same_rests zero count is = (omega (arith, is), omega (arith, is), omega (arith, is), omega (arith, is))
same_rests (suc m) count is =
    let k : count ≡ m % 8 + 1 = is in (omega arith, omega arith, omega arith, omega arith)

pub due_kept : (service n count : ℕ) → IsInterval service → count ≡ kept_count n → (count + 1) % service ≡ (n + 1) % service
due_kept service n count serves is =
    elim serves [
      | inl one ↦ subst (λ (s : ℕ). (count + 1) % s ≡ (n + 1) % s) (sym one) (same_rests n count is).0
      | inr (inl two) ↦ subst (λ (s : ℕ). (count + 1) % s ≡ (n + 1) % s) (sym two) (same_rests n count is).1
      | inr (inr (inl four)) ↦ subst (λ (s : ℕ). (count + 1) % s ≡ (n + 1) % s) (sym four) (same_rests n count is).2
      | inr (inr (inr eight)) ↦ subst (λ (s : ℕ). (count + 1) % s ≡ (n + 1) % s) (sym eight) (same_rests n count is).3
    ]
