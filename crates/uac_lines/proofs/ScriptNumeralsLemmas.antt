-- Numerals: how they are read, and that each number has one and each numeral one number.
use Rattle.std.proofs.Common.{◌≡◌, ℕ, ◌+◌, ◌*◌, ◌-◌, ◌<◌, ◌≤◌, min, Bool, true, false, List, [], ◌∷◌, length, take, get_or, sym, ap, ◌∙◌, refl, arith}
use Rattle.std.specs.List.{list_all}
use Rattle.std.specs.Char.{is_ascii_digit, digit_value}
use Rattle.std.specs.Str.Parse.{digits_value}
use Rattle.std.proofs.lemmas.Int.Digits.{digits_value_more}
use Rattle.std.proofs.lemmas.List.Folds.{list_all_at}
use Rattle.std.proofs.lemmas.Bool.{and_parts, leb-true, le-ltb, lt-ltb, cond-true, cond-false, false≢true}
use Rattle.uac_lines.specs.ScriptNumerals.{is_natural, natural_of, number_of, is_number, far}

pub value_of_digit : (c : ℕ) → is_ascii_digit c ≡ true → (48 ≤ c) × (c ≤ 57) × (digit_value c ≡ c - 48)
value_of_digit c h =
    let parts = and_parts _ _ h in
    let low = leb-true 48 c parts.0 in
    let high = leb-true c 57 parts.1 in
    (low, high, cond-false _ _ _ (le-ltb c 48 low) ∙ cond-true _ _ _ (lt-ltb c 58 (omega arith)))

capped : (value total digit most : ℕ) → 0 < most → value ≡ min total most → min (value * 10 + digit) most ≡ min (total * 10 + digit) most
capped value total digit most h e = omega arith

digit_at : (word : List ℕ) (i : ℕ) → list_all is_ascii_digit word ≡ true → i < length word → (b : Bool) → is_ascii_digit (get_or word i 0) ≡ b → b ≡ true
digit_at word i all h true e = refl
digit_at word i all h false e = absurd (false≢true (sym (list_all_at is_ascii_digit word i 0 h e) ∙ all))

-- each byte of a numeral is a digit
pub digit_in : (word : List ℕ) (i : ℕ) → is_natural word ≡ true → i < length word → is_ascii_digit (get_or word i 0) ≡ true
unfolding is_natural
digit_in word i natural h = digit_at word i (and_parts _ _ natural).1 h _ refl

pub digit_is : (word : List ℕ) (i : ℕ) → is_natural word ≡ true → i < length word → 48 ≤ get_or word i 0
digit_is word i natural h = (value_of_digit _ (digit_in word i natural h)).0

-- one more digit of a number that is held
pub held_more : (word : List ℕ) (i value : ℕ) → is_natural word ≡ true → i < length word → value ≡ min (digits_value 10 (take i word)) far
    → min (value * 10 + (get_or word i 0 - 48)) far ≡ min (digits_value 10 (take (i + 1) word)) far
held_more word i value natural h e =
    let d = value_of_digit _ (digit_in word i natural h) in
    capped value _ (get_or word i 0 - 48) far (omega arith) e ∙ ap (λ n. min n far) (ap (λ x. digits_value 10 (take i word) * 10 + x) (sym d.2) ∙ sym (digits_value_more 10 word i h))

-- a numeral isn't empty
pub number_not_empty : (word : List ℕ) → is_number word ≡ true → 1 ≤ length word
unfolding is_number number_of natural_of is_natural
number_not_empty [] h = absurd (false≢true h)
number_not_empty (c ∷ rest) h = omega arith
