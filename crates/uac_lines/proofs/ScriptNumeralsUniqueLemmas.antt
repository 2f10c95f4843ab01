-- Each number has one numeral, and each numeral one number.
use Rattle.std.proofs.Common.{◌≡◌, ◌≢◌, ℕ, zero, suc, ◌+◌, ◌*◌, ◌/◌, ◌%◌, ◌<◌, Bool, true, false, not, ◌||◌, cond, List, [], ◌∷◌, ◌++◌, map, length, drop, get_or, Option, Some, None, is_some, unwrap_or, ℤ, pos, negsuc, eqb, ◌⊎◌, inl, inr, sym, ap, ◌∙◌, refl, append_assoc, add-one, arith, rules}
use Rattle.std.specs.List.{list_all}
use Rattle.std.specs.Option.{option_map}
use Rattle.std.specs.Char.{is_ascii_digit, digit_value}
use Rattle.std.specs.Str.Parse.{digits_value}
use Rattle.std.specs.Int.Digits.{digits_of, number_from_digits, number_from_digits_after, AllBelowBase}
use Rattle.std.proofs.lemmas.Int.Digits.{digits_value_is, digits_of_step, all_below_base_digits_of, first_digits_of, number_digits_of, number_after_ge}
use Rattle.std.proofs.lemmas.Bool.{and_parts, and_from, le-leb, lt-ltb, ne_eqb, eqb-true, eqb-false, cond-true, cond-false, cases_eq, false≢true, or_left, or_cases, not-true}
use Rattle.std.proofs.lemmas.Option.{cond_some}
use Rattle.uac_lines.proofs.ScriptNumeralsLemmas.{value_of_digit, digit_in}
use Rattle.uac_lines.specs.Words.{Word}
use Rattle.uac_edges.specs.Numerals.{natural, numeral}
use Rattle.uac_lines.specs.ScriptNumerals.{is_natural, natural_of, number_of, is_number, value_of, negative_of}

-- ---- digits and their characters

digit_written : (d : ℕ) → d < 10 → is_ascii_digit (48 + d) ≡ true
digit_written d h = and_from _ _ (le-leb 48 (48 + d) (omega arith)) (le-leb (48 + d) 57 (omega arith))

value_written : (d : ℕ) → d < 10 → digit_value (48 + d) ≡ d
value_written d h = (value_of_digit (48 + d) (digit_written d h)).2 ∙ omega arith

all_written : (ds : List ℕ) → AllBelowBase 10 ds → list_all is_ascii_digit (map (λ d. 48 + d) ds) ≡ true
all_written [] h = refl
all_written (d ∷ ds) h = and_from _ _ (digit_written d h.0) (all_written ds h.1)

values_written : (ds : List ℕ) → AllBelowBase 10 ds → map digit_value (map (λ d. 48 + d) ds) ≡ ds
values_written [] h = refl
values_written (d ∷ ds) h = ap (λ x. x ∷ map digit_value (map (λ d. 48 + d) ds)) (value_written d h.0) ∙ ap (λ xs. d ∷ xs) (values_written ds h.1)

written_back : (word : Word) → list_all is_ascii_digit word ≡ true → map (λ d. 48 + d) (map digit_value word) ≡ word
written_back [] h = refl
written_back (c ∷ word) h =
    let parts = and_parts _ _ h in
    let digit = value_of_digit c parts.0 in
    let same : 48 + digit_value c ≡ c = omega arith in
    ap (λ x. x ∷ map (λ d. 48 + d) (map digit_value word)) same ∙ ap (λ xs. c ∷ xs) (written_back word parts.1)

below_ten : (word : Word) → list_all is_ascii_digit word ≡ true → AllBelowBase 10 (map digit_value word)
below_ten [] h = search rules
below_ten (c ∷ word) h =
    let parts = and_parts _ _ h in
    let digit = value_of_digit c parts.0 in
    (omega arith, below_ten word parts.1)

-- ---- the digits of what digits write, where the first of them isn't 0

one_more : (n d : ℕ) → 0 < n * 10 + d → d < 10 → digits_of 10 (n * 10 + d) ≡ digits_of 10 n ++ (d ∷ [])
one_more n d h below =
    let quotient : (n * 10 + d) / 10 ≡ n = omega arith in
    let rest : (n * 10 + d) % 10 ≡ d = omega arith in
    digits_of_step 10 (n * 10 + d) (omega arith) h ∙ ap (λ m. digits_of 10 m ++ ((n * 10 + d) % 10 ∷ [])) quotient ∙ ap (λ m. digits_of 10 n ++ (m ∷ [])) rest

digits_after : (n : ℕ) (ds : List ℕ) → 0 < n → AllBelowBase 10 ds → digits_of 10 (number_from_digits_after 10 n ds) ≡ digits_of 10 n ++ ds
digits_after n [] h below = search rules
digits_after n (d ∷ ds) h below =
    digits_after (n * 10 + d) ds (omega arith) below.1 ∙ ap (λ xs. xs ++ ds) (one_more n d (omega arith) below.0) ∙ append_assoc (digits_of 10 n) (d ∷ []) ds

digits_back : (d : ℕ) (ds : List ℕ) → 0 < d → AllBelowBase 10 (d ∷ ds) → digits_of 10 (number_from_digits 10 (d ∷ ds)) ≡ d ∷ ds
digits_back d ds h below =
    digits_after (0 * 10 + d) ds (omega arith) below.1 ∙ ap (λ xs. xs ++ ds) (one_more 0 d (omega arith) below.0)

-- ---- natural numbers

-- a word that begins with another digit than 0 and has digits alone
is_canonical : (word : Word) → 0 < length word → get_or word 0 0 ≢ 48 → list_all is_ascii_digit word ≡ true → is_natural word ≡ true
unfolding is_natural
is_canonical word long first digits =
    and_from _ _ (and_from _ _ (lt-ltb 0 (length word) long) (or_left _ (eqb (length word) 1) (ap not (ne_eqb _ 48 first)))) digits

first_written : (ds : List ℕ) → 0 < length ds → get_or (map (λ d. 48 + d) ds) 0 0 ≡ 48 + get_or ds 0 0
first_written [] h = absurd (omega arith)
first_written (d ∷ ds) h = refl

long_enough : (ds : List ℕ) → 0 < get_or ds 0 0 → (0 < length ds) × (0 < length (map (λ d. 48 + d) ds))
long_enough [] h = absurd (omega arith)
long_enough (d ∷ ds) h = (omega arith, omega arith)

positive_natural : (n : ℕ) → 0 < n → natural_of (map (λ d. 48 + d) (digits_of 10 n)) ≡ Some n
unfolding natural_of
positive_natural n h =
    let ds = digits_of 10 n in
    let first : 0 < get_or (digits_of 10 n) 0 0 = first_digits_of 10 n (omega arith) h in
    let below : AllBelowBase 10 (digits_of 10 n) = all_below_base_digits_of 10 n (omega arith) in
    let long = long_enough (digits_of 10 n) first in
    let start = first_written (digits_of 10 n) long.0 in
    let canonical = is_canonical (map (λ d. 48 + d) (digits_of 10 n)) long.1 (λ e. omega arith) (all_written (digits_of 10 n) below) in
    let value = digits_value_is 10 (map (λ d. 48 + d) (digits_of 10 n)) ∙ ap (number_from_digits 10) (values_written (digits_of 10 n) below) ∙ number_digits_of 10 n (omega arith) in
    cond-true _ _ _ canonical ∙ ap (λ x. Some x) value

natural-positive : (n : ℕ) → 0 < n → natural n ≡ map (λ d. 48 + d) (digits_of 10 n)
unfolding natural
natural-positive n h = cond-false _ _ _ (ne_eqb n 0 (λ e. omega arith))

-- a natural number's numeral reads as the number
pub natural_of-natural : (n : ℕ) → natural_of (natural n) ≡ Some n
unfolding natural natural_of is_natural
natural_of-natural zero = refl
natural_of-natural (suc n) = ap natural_of (natural-positive (suc n) (omega arith)) ∙ positive_natural (suc n) (omega arith)

alone_digit : (c : ℕ) (rest : Word) → c ≡ 48 → length (c ∷ rest) ≡ 1 → c ∷ rest ≡ 48 ∷ []
alone_digit c [] e h = ap (λ x. x ∷ []) e
alone_digit c (d ∷ rest) e h = absurd (omega arith)

no_front : (c : ℕ) (rest : Word) → c ≡ 48 → (not (eqb c 48) || eqb (length (c ∷ rest)) 1) ≡ true → length (c ∷ rest) ≡ 1
no_front c rest e h =
    elim (or_cases (not (eqb c 48)) (eqb (length (c ∷ rest)) 1) h) [
      | inl other ↦ absurd (eqb-false c 48 (not-true _ other) e)
      | inr short ↦ eqb-true _ _ short
    ]

split_digits : (word : Word) → is_natural word ≡ true → (word ≡ 48 ∷ []) ⊎ ((0 < length word) × (get_or word 0 0 ≢ 48) × (list_all is_ascii_digit word ≡ true))
unfolding is_natural
split_digits [] h = absurd (false≢true h)
split_digits (c ∷ rest) h =
    let digits = and_parts _ (list_all is_ascii_digit (c ∷ rest)) h in
    let front = and_parts _ (not (eqb c 48) || eqb (length (c ∷ rest)) 1) digits.0 in
    elim (cases_eq c 48) [
      | inl same ↦ inl (alone_digit c rest same (no_front c rest same front.1))
      | inr other ↦ inr (omega arith, other, digits.1)
    ]

natural_value : (word : Word) → 0 < length word → get_or word 0 0 ≢ 48 → list_all is_ascii_digit word ≡ true → word ≡ natural (digits_value 10 word)
natural_value [] long first digits = absurd (omega arith)
natural_value (c ∷ rest) long first digits =
    let digit = value_of_digit c (and_parts _ _ digits).0 in
    let positive : 0 < digit_value c = omega arith in
    let least = number_after_ge 10 (0 * 10 + digit_value c) (map digit_value rest) (omega arith) in
    let value : digits_value 10 (c ∷ rest) ≡ number_from_digits 10 (map digit_value (c ∷ rest)) = digits_value_is 10 (c ∷ rest) in
    let back = digits_back (digit_value c) (map digit_value rest) positive (below_ten (c ∷ rest) digits) in
    sym (ap natural value ∙ natural-positive _ (omega arith) ∙ ap (map (λ d. 48 + d)) back ∙ written_back (c ∷ rest) digits)

-- what reads as a natural number is its numeral
pub natural-natural_of : (word : Word) (n : ℕ) → natural_of word ≡ Some n → word ≡ natural n
unfolding natural_of natural
natural-natural_of word n h =
    let parts = cond_some (is_natural word) _ n h in
    elim (split_digits word parts.0) [
      | inl alone ↦ alone ∙ ap natural (ap (digits_value 10) (sym alone) ∙ parts.1)
      | inr more ↦ natural_value word more.0 more.1 more.2 ∙ ap natural parts.1
    ]

-- ---- numbers of either sign

natural_long : (word : Word) → is_natural word ≡ true → 0 < length word
unfolding is_natural
natural_long [] h = absurd (false≢true h)
natural_long (c ∷ rest) h = omega arith

-- a natural number's numeral begins with a digit
natural_begins : (n : ℕ) (word : Word) → natural_of word ≡ Some n → eqb (get_or word 0 0) 45 ≡ false
unfolding natural_of
natural_begins n word h =
    let natural = (cond_some (is_natural word) _ n h).0 in
    let digit = value_of_digit (get_or word 0 0) (digit_in word 0 natural (natural_long word natural)) in
    ne_eqb _ 45 (λ e. omega arith)

pub number_of-numeral : (z : ℤ) → number_of (numeral z) ≡ Some z
unfolding number_of numeral
number_of-numeral (pos n) = cond-false _ _ _ (natural_begins n (natural n) (natural_of-natural n)) ∙ ap (option_map pos) (natural_of-natural n)
number_of-numeral (negsuc n) = ap negative_of (natural_of-natural (n + 1)) ∙ ap (λ m. negative_of (Some m)) (add-one n)

negated_some : (o : Option ℕ) (z : ℤ) → negative_of o ≡ Some z → (n : ℕ) × (o ≡ Some (suc n)) × (negsuc n ≡ z)
negated_some None z h = cc
negated_some (Some zero) z h = cc
negated_some (Some (suc n)) z h = (n, refl, cc)

mapped_some : (o : Option ℕ) (z : ℤ) → option_map pos o ≡ Some z → (n : ℕ) × (o ≡ Some n) × (pos n ≡ z)
mapped_some None z h = cc
mapped_some (Some n) z h = (n, refl, cc)

begins : (word : Word) → get_or word 0 0 ≡ 45 → word ≡ 45 ∷ drop 1 word
begins [] h = absurd (omega arith)
begins (c ∷ rest) h = ap (λ x. x ∷ rest) h

by_sign : (b : Bool) (word : Word) (z : ℤ) → eqb (get_or word 0 0) 45 ≡ b → cond b (negative_of (natural_of (drop 1 word))) (option_map pos (natural_of word)) ≡ Some z → word ≡ numeral z
unfolding numeral
by_sign true word z e h =
    let parts = negated_some _ z h in
    begins word (eqb-true _ _ e) ∙ ap (λ w. 45 ∷ w) (natural-natural_of (drop 1 word) _ parts.1 ∙ ap natural (sym (add-one parts.0))) ∙ ap numeral parts.2
by_sign false word z e h =
    let parts = mapped_some _ z h in
    natural-natural_of word _ parts.1 ∙ ap numeral parts.2

pub numeral-number_of : (word : Word) (z : ℤ) → number_of word ≡ Some z → word ≡ numeral z
unfolding number_of
numeral-number_of word z h = by_sign _ word z refl h

-- ---- the same, as the test and the value

pub is_number-numeral : (z : ℤ) → is_number (numeral z) ≡ true
unfolding is_number
is_number-numeral z = ap is_some (number_of-numeral z)

pub value_of-numeral : (z : ℤ) → value_of (numeral z) ≡ z
unfolding value_of
value_of-numeral z = ap (λ o. unwrap_or o (pos 0)) (number_of-numeral z)

some_value : (o : Option ℤ) → is_some o ≡ true → o ≡ Some (unwrap_or o (pos 0))
some_value None h = absurd (false≢true h)
some_value (Some z) h = refl

pub numeral-value_of : (word : Word) → is_number word ≡ true → word ≡ numeral (value_of word)
unfolding is_number value_of
numeral-value_of word h = numeral-number_of word _ (some_value (number_of word) h)

-- two numbers with one numeral are the same
pub numeral_injective : (y z : ℤ) → numeral y ≡ numeral z → y ≡ z
numeral_injective y z h = sym (value_of-numeral y) ∙ ap value_of h ∙ value_of-numeral z
