-- A number's digits are its numeral.
use Rattle.std.proofs.Common.{◌≡◌, ℕ, zero, suc, ◌^◌, ◌+◌, ◌/◌, ◌%◌, ◌<◌, ◌≤◌, [], false, true, Bool, if◌then◌else◌, ℤ, pos, negsuc, SFits, w32, ◌∷◌, ◌++◌, codes, decimal, unsigned_abs, refl, sym, ap, ◌∙◌, arith, add-one}
use Rattle.std.specs.Prelude.{int_lt}
use Rattle.std.proofs.lemmas.Bool.{cond-false, ltb-true, ne_eqb}
use Rattle.std.proofs.lemmas.Fmt.{decimal-digits_of, decimal_digit, decimal_step}
use Rattle.uac_edges.specs.Numerals.{natural, numeral}

pub decimal-natural : (n : ℕ) → n < 2 ^ 64 → decimal n ≡ natural n
unfolding natural
decimal-natural zero h = decimal_digit 0 (omega arith)
decimal-natural (suc n) h = decimal-digits_of (suc n) (omega arith) h ∙ sym (cond-false _ _ _ (ne_eqb (suc n) 0 (λ e. omega arith)))

-- with no sign, or with a minus sign
pub positive-numeral : (z : ℤ) → SFits w32 z → int_lt z (pos 0) ≡ false → decimal (unsigned_abs z) ≡ numeral z
unfolding numeral
positive-numeral (pos n) fits h = let small = fits.sfits in decimal-natural n (omega arith)
positive-numeral (negsuc n) fits h = absurd (cc)

pub negative-numeral : (z : ℤ) → SFits w32 z → int_lt z (pos 0) ≡ true → 45 ∷ decimal (unsigned_abs z) ≡ numeral z
unfolding numeral
negative-numeral (pos n) fits h = let less = ltb-true n 0 h in absurd (omega arith)
negative-numeral (negsuc n) fits h =
    let small = fits.sfits in
    ap (λ xs. 45 ∷ xs) (decimal-natural (suc n) (omega arith) ∙ ap natural (sym (add-one n)))

-- where the sign is asked for
pub signed-numeral : (z : ℤ) → SFits w32 z → (b : Bool) → int_lt z (pos 0) ≡ b →
    numeral z ≡ (if b then 45 ∷ decimal (unsigned_abs z) else decimal (unsigned_abs z))
signed-numeral z fits true h = sym (negative-numeral z fits h)
signed-numeral z fits false h = sym (positive-numeral z fits h)

-- one digit
pub decimal_of_one : (n : ℕ) → n < 10 → decimal n ≡ (48 + n) ∷ []
decimal_of_one n h = decimal_digit n h

-- two digits
pub decimal_of_two : (n : ℕ) → 10 ≤ n → n < 100 → decimal n ≡ (48 + n / 10) ∷ (48 + n % 10) ∷ []
decimal_of_two n large small = rw (decimal_step n large (omega arith), decimal_digit (n / 10) (omega arith))

-- the last digit stands after the digits of a tenth
pub decimal_and_last : (n : ℕ) → 10 ≤ n → n < 1000 → decimal n ≡ decimal (n / 10) ++ (48 + n % 10) ∷ []
decimal_and_last n large small = decimal_step n large (omega arith)

-- the numeral of 0
pub numeral_of_zero : numeral (pos 0) ≡ codes "0"
unfolding numeral natural
numeral_of_zero = refl
