-- A word of digits is parsed as the number that it spells.
use Rattle.std.proofs.Common.{◌≡◌, ℕ, ◌-◌, ◌^◌, ◌<◌, ◌≤◌, ◌&&◌, Bool, true, false, List, [], ◌∷◌, length, Some, Result, Ok, Err, sym, ap, subst, ◌∙◌, refl, inl, inr, arith}
use Rattle.std.specs.List.{list_all}
use Rattle.std.specs.Char.{is_ascii_digit, digit_value}
use Rattle.std.specs.Result.{OkIff, result_ok}
use Rattle.std.specs.Str.Parse.{AllDigits, IsNumeral, ParsesUnsigned, digits_value, without_leading_plus}
use Rattle.std.proofs.lemmas.Bool.{and_parts, leb-true, le-leb, le-ltb, lt-ltb, ltb-true, cond-true, cond-false, ne_eqb}
use Rattle.std.proofs.lemmas.Bool.Decides.{leb_tells}
use Rattle.uac_words.specs.Asked.{is_decimal, decimal_value_of}

value_of_digit : (c : ℕ) → is_ascii_digit c ≡ true → (48 ≤ c) × (c ≤ 57) × (digit_value c ≡ c - 48)
value_of_digit c h =
    let parts = and_parts _ _ h in
    let low = leb-true 48 c parts.0 in
    let high = leb-true c 57 parts.1 in
    (low, high, cond-false _ _ _ (le-ltb c 48 low) ∙ cond-true _ _ _ (lt-ltb c 58 (omega arith)))

pub digits_all : (ds : List ℕ) → list_all is_ascii_digit ds ≡ true → AllDigits 10 ds
digits_all [] h = tt
digits_all (c ∷ cs) h =
    let parts = and_parts _ _ h in
    let d = value_of_digit c parts.0 in
    (omega arith, digits_all cs parts.1)

no_plus : (ds : List ℕ) → list_all is_ascii_digit ds ≡ true → without_leading_plus ds ≡ ds
no_plus [] h = refl
no_plus (c ∷ cs) h =
    let d = value_of_digit c (and_parts _ _ h).0 in
    rw (ne_eqb c 43 (λ e. omega arith)) refl

decimal_parts : (word : List ℕ) → is_decimal word ≡ true → (0 < length word) × (list_all is_ascii_digit word ≡ true)
unfolding is_decimal
decimal_parts word h =
    let parts = and_parts _ _ h in
    (ltb-true 0 (length word) (and_parts _ _ parts.0).0, parts.1)

pub both_true : (a b : Bool) → a ≡ true → b ≡ true → (a && b) ≡ true
both_true true b h k = k
both_true false b h k = h

first_only : (a b : Bool) → b ≡ false → (a && b) ≡ false
first_only true b h = h
first_only false b h = refl

parsed : {E : Type 0} (word : List ℕ) (r : Result ℕ E) → is_decimal word ≡ true → 0 < length word → AllDigits 10 word
    → OkIff r (IsNumeral 10 word × (digits_value 10 word < 2 ^ 32)) (digits_value 10 word) → result_ok r ≡ decimal_value_of word
unfolding decimal_value_of
parsed word (Ok x) decimal some all h =
    let small = h.0.1 in
    ap Some h.1 ∙ sym (cond-true _ _ _ (both_true _ _ decimal (le-leb (digits_value 10 word) 4294967295 (omega arith))))
parsed word (Err e) decimal some all h = elim (leb_tells (digits_value 10 word) 4294967295) [
  | inl fits ↦ let at = fits.1 in absurd (h ((some, all), omega arith))
  | inr past ↦ sym (cond-false _ _ _ (first_only _ _ past.0))
]

pub number_read : {E : Type 0} (word : List ℕ) (r : Result ℕ E) → is_decimal word ≡ true → ParsesUnsigned 32 10 word r → result_ok r ≡ decimal_value_of word
number_read {E} word r decimal h =
    let parts = decimal_parts word decimal in
    parsed word r decimal parts.0 (digits_all word parts.1)
    (subst (λ (ds : List ℕ). OkIff r (IsNumeral 10 ds × (digits_value 10 ds < 2 ^ 32)) (digits_value 10 ds)) (no_plus word parts.1) h)
