-- Numbers that wrap at 32 bits.
use Rattle.std.proofs.Common.{◌≡◌, ℕ, ◌+◌, ◌*◌, ◌%◌, ℤ, pos, ◌+ℤ◌, ◌*ℤ◌, FitsSigned, to_z, of_z, w32, arith, ap, ◌∙◌, refl, rules}
use Rattle.std.proofs.Math.Nat.{mod-lt}
use Rattle.std.specs.Int.{int_wrap}
use Rattle.std.proofs.lemmas.Int.{to_z-of_z, wrapping_add-bits, wrapping_mul_is, int_wrap-add_right, int_wrap-mul_right}
use Rattle.std.proofs.lemmas.Nat.{mul-mod_first}

-- what is left of a natural number
pub int_wrap-pos : (n : ℕ) → int_wrap w32 (pos n) ≡ to_z w32 (n % 4294967296)
unfolding int_wrap
int_wrap-pos n = refl

-- a straight line, each of whose steps wraps
pub line_wraps : (start rise rises : ℤ) (place : ℕ) → FitsSigned w32 start → FitsSigned w32 rise → FitsSigned w32 rises
    → rises ≡ int_wrap w32 (pos place)
    → to_z w32 ((of_z w32 start + of_z w32 rise * of_z w32 rises % 4294967296) % 4294967296) ≡ int_wrap w32 (start +ℤ (rise *ℤ pos place))
line_wraps start rise rises place f g h e =
    let product : ℕ = of_z w32 rise * of_z w32 rises % 4294967296 in
    let sum : to_z w32 ((of_z w32 start + product) % 4294967296) ≡ int_wrap w32 (to_z w32 (of_z w32 start) +ℤ to_z w32 product) =
    wrapping_add-bits w32 (of_z w32 start) product (search rules) (mod-lt (of_z w32 rise * of_z w32 rises) (omega arith)) in
    let kept : to_z w32 (of_z w32 start) ≡ start = to_z-of_z w32 start f in
    let times : to_z w32 product ≡ int_wrap w32 (rise *ℤ rises) = wrapping_mul_is w32 rise rises g h in
    let placed : int_wrap w32 (rise *ℤ rises) ≡ int_wrap w32 (rise *ℤ pos place) =
    ap (λ (z : ℤ). int_wrap w32 (rise *ℤ z)) e ∙ int_wrap-mul_right w32 rise (pos place) in
    sum
    ∙ ap (λ (z : ℤ). int_wrap w32 (z +ℤ to_z w32 product)) kept
    ∙ ap (λ (z : ℤ). int_wrap w32 (start +ℤ z)) (times ∙ placed)
    ∙ int_wrap-add_right w32 start (rise *ℤ pos place)

-- a sum that wraps at each step, for numbers of 32 bits
pub noise_wraps : (origin place channel : ℕ)
    → ((origin + place % 4294967296 * 32 % 4294967296) % 4294967296 + channel) % 4294967296 * 2654435761 % 4294967296
    ≡ (origin + 32 * place + channel) * 2654435761 % 4294967296
noise_wraps origin place channel =
    let inner : ((origin + place % 4294967296 * 32 % 4294967296) % 4294967296 + channel) % 4294967296
    ≡ (origin + 32 * place + channel) % 4294967296 = omega arith in
    ap (λ (n : ℕ). n * 2654435761 % 4294967296) inner
    ∙ mul-mod_first (origin + 32 * place + channel) 2654435761 4294967296
