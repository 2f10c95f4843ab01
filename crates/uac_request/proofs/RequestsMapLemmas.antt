-- The map of an interface's valid settings, bit by bit.
use Rattle.std.proofs.Common.{◌≡◌, ◌∙◌, sym, ap, subst, refl, ℕ, zero, suc, ◌+◌, ◌-◌, ◌*◌, ◌/◌, ◌%◌, ◌^◌, ◌<◌, ◌==◌, ◌&&◌, ◌||◌, nat_le, Bool, true, false, ℤ, List, [], ◌∷◌, map, drop, length, Some, if◌then◌else◌, inl, inr, nat_eq, eqb-true, arith}
use Rattle.std.specs.Prelude.{sum}
use Rattle.std.specs.Int.{bit_at}
use Rattle.std.specs.List.{find, list_any, range_with_len, sum_by, AllByRecursion}
use Rattle.std.proofs.Math.Nat.{div-div-eq-div-mul, div-one, mod-lt, pow-succ', zero-div}
use Rattle.std.proofs.Math.Numerals.{add-one}
use Rattle.std.proofs.Math.Pow.{mod-mod-pow}
use Rattle.std.proofs.lemmas.Bool.{cases_Bool}
use Rattle.std.proofs.lemmas.List.{append-nil}
use Rattle.std.proofs.lemmas.List.Sums.{sum-map, sum_by-cons}
use Rattle.std.proofs.lemmas.Map.Keys.{IsDistinct-head}
use Rattle.std.proofs.lemmas.Nat.{div-mul-add, mod-pow-add, pow-add, pow_pos}
use Rattle.std.proofs.lemmas.Simd.{map-map}
use Rattle.byteorder.specs.Endian.{little_bytes, little_number}
use Rattle.byteorder.specs.Numbers.{little_from-bytes}
use Rattle.uac_entities.specs.declared.stream.Setting.{Setting}
use Rattle.uac_entities.specs.declared.stream.StreamInterface.{StreamInterface}
use Rattle.uac_topology.specs.Function.{FunctionFields, interface_in}
use Rattle.uac_topology.specs.Topology.{IsSoundFunction}
use Rattle.uac_topology.proofs.FunctionKeptNumberLemmas.{are_numbered}
use Rattle.uac_alt.proofs.AltStreamsLemmas.{all_found}
use Rattle.uac_store.specs.declared.keys.Key.{Key}
use Rattle.uac_request.specs.Requests.{has_setting, is_valid, map_bytes, valid_bytes, valid_sum}

-- ---- the bits of numbers from 0 on that pass a test

abbrev weight : (ℕ → Bool) → ℕ → ℕ
weight test k = if test k then 2 ^ k else 0

abbrev weights : (ℕ → Bool) → List ℕ → ℕ
weights test [] = 0
weights test (k ∷ ks) = weight test k + weights test ks

all_weights : (test : ℕ → Bool) (ks : List ℕ) → sum (map (weight test) ks) ≡ weights test ks
all_weights test ks = sum-map (weight test) ks ∙ by ks where
  by : (ks : List ℕ) → sum_by (weight test) ks ≡ weights test ks
  by [] = refl
  by (k ∷ ks) = sum_by-cons (weight test) k ks ∙ ap (λ (n : ℕ). weight test k + n) (by ks)

abbrev is_among : ℕ → List ℕ → Bool
is_among n ks = list_any (λ k. k == n) ks

-- the weight of the next number is twice that of a number
next_weight : (b : Bool) (k : ℕ) → (if b then 2 ^ (k + 1) else 0) ≡ 2 * (if b then 2 ^ k else 0)
next_weight true k = (let power : 2 ^ (k + 1) ≡ 2 ^ k * 2 = pow-add 2 k 1 in omega (arith, power))
next_weight false k = refl

-- so is the sum of their weights twice that of the numbers before them
both_twice : (a b c d : ℕ) → a ≡ 2 * c → b ≡ 2 * d → a + b ≡ 2 * (c + d)
both_twice a b c d first second = omega (arith, first, second)

next_weights : (test : ℕ → Bool) (k n : ℕ) → weights test (range_with_len (k + 1) n) ≡ 2 * weights (λ m. test (m + 1)) (range_with_len k n)
next_weights test k zero = refl
next_weights test k (suc n) = both_twice _ _ _ _ (next_weight (test (k + 1)) k) (next_weights test (k + 1) n)

-- a number is among the next ones where the one before it is among them
next_among : (k n i : ℕ) → is_among (suc i) (range_with_len (k + 1) n) ≡ is_among i (range_with_len k n)
next_among k zero i = refl
next_among k (suc n) i =
    let here : (k + 1 == suc i) ≡ (k == i) = grind arith in
    ap (λ (b : Bool). b || is_among (suc i) (range_with_len (k + 1 + 1) n)) here ∙ ap (λ (b : Bool). (k == i) || b) (next_among (k + 1) n i)

-- the lowest bit is that of the first number, and half of the sum is that of the rest
lowest : (b : Bool) (rest half : ℕ) → rest ≡ 2 * half → ((if b then 1 else 0) + rest) / 1 % 2 ≡ (if b then 1 else 0)
lowest true rest half twice = omega (arith, twice)
lowest false rest half twice = omega (arith, twice)

halved : (b : Bool) (rest half : ℕ) → rest ≡ 2 * half → ((if b then 1 else 0) + rest) / 2 ≡ half
halved true rest half twice = omega (arith, twice)
halved false rest half twice = omega (arith, twice)

-- a bit past the lowest is one of the half
half_bit : (all half i : ℕ) → all / 2 ≡ half → bit_at all (suc i) ≡ bit_at half i
half_bit all half i is =
    ap (λ (p : ℕ). all / p % 2) (pow-succ' 2 i) ∙ ap (λ (m : ℕ). m % 2) (sym (div-div-eq-div-mul all 2 (2 ^ i))) ∙ ap (λ (m : ℕ). m / 2 ^ i % 2) is

later_among : (n i : ℕ) → is_among i (range_with_len 0 n) ≡ is_among (suc i) (range_with_len 0 (suc n))
later_among n i =
    let other : (0 == suc i) ≡ false = grind arith in
    sym (ap (λ (b : Bool). b || is_among (suc i) (range_with_len 1 n)) other ∙ next_among 0 n i)

-- a bit is set exactly where its number is one of these and passes the test
bit_of : (test : ℕ → Bool) (n i : ℕ) → bit_at (weights test (range_with_len 0 n)) i ≡ (if is_among i (range_with_len 0 n) && test i then 1 else 0)
bit_of test zero i = ap (λ (m : ℕ). m % 2) (zero-div (2 ^ i))
bit_of test (suc n) zero = lowest (test 0) (weights test (range_with_len 1 n)) _ (next_weights test 0 n)
bit_of test (suc n) (suc i) =
    half_bit (weights test (range_with_len 0 (suc n))) _ i (halved (test 0) (weights test (range_with_len 1 n)) _ (next_weights test 0 n))
    ∙ bit_of (λ m. test (m + 1)) n i
    ∙ ap (λ (m : ℕ). if is_among i (range_with_len 0 n) && test m then 1 else 0) (add-one i)
    ∙ ap (λ (b : Bool). if b && test (suc i) then 1 else 0) (later_among n i)

-- ---- the settings of an interface

-- one that was found isn't the control interface
other_found : (control n : ℕ) (streams : List StreamInterface) (s : StreamInterface) → AllByRecursion (λ m. nat_eq control m ≡ false) (map (λ t. t.number) streams)
    → find (λ t. t.number == n) streams ≡ Some s → (n == control) ≡ false
other_found control n [] s each found = cc
other_found control n (t ∷ streams) s (here, each) found = elim (cases_Bool (t.number == n)) [
  | inl same ↦ (let is : t.number ≡ n = eqb-true t.number n same in turned control n (subst (λ (m : ℕ). nat_eq control m ≡ false) is here))
  | inr other ↦ other_found control n streams s each (rw other at found)
] where
  turned : (a b : ℕ) → nat_eq a b ≡ false → (b == a) ≡ false
  turned a b apart = grind arith

any_numbered : (i : ℕ) (ts : List Setting) → list_any (λ t. t.number == i) ts ≡ is_among i (map (λ t. t.number) ts)
any_numbered i [] = refl
any_numbered i (t ∷ ts) = ap (λ (b : Bool). (t.number == i) || b) (any_numbered i ts)

has_found : (function : FunctionFields) (interface : ℕ) (s : StreamInterface) (i : ℕ) → (interface == function.control_interface) ≡ false → interface_in function interface ≡ Some s
    → has_setting function interface i ≡ list_any (λ t. t.number == i) s.settings
unfolding has_setting
has_found function interface s i other found = rw (other, found) refl

pub bit_by_bit : (function : FunctionFields) (controls : List (Key × ℤ)) (interface : ℕ) (s : StreamInterface) (i : ℕ) → IsSoundFunction function → interface_in function interface ≡ Some s
    → bit_at (valid_sum function controls s s.settings) i ≡ (if has_setting function interface i && is_valid function controls s i then 1 else 0)
bit_by_bit function controls interface s i sound found =
    let numbered = are_numbered function sound in
    let test : ℕ → Bool = is_valid function controls s in
    let own : map (λ t. t.number) s.settings ≡ range_with_len 0 (length s.settings) =
    all_found (λ u. map (λ t. t.number) u.settings ≡ range_with_len 0 (length u.settings)) (λ u. u.number == interface) function.streams s numbered.settings found in
    let other = other_found function.control_interface interface function.streams s (IsDistinct-head nat_eq function.control_interface (map (λ (t : StreamInterface). t.number) function.streams) numbered.different) found in
    let all : valid_sum function controls s s.settings ≡ weights test (range_with_len 0 (length s.settings)) =
    ap sum (sym (map-map (weight test) (λ (t : Setting). t.number) s.settings) ∙ ap (map (weight test)) own) ∙ all_weights test (range_with_len 0 (length s.settings)) in
    let there : has_setting function interface i ≡ is_among i (range_with_len 0 (length s.settings)) =
    has_found function interface s i other found ∙ any_numbered i s.settings ∙ ap (is_among i) own in
    ap (λ (n : ℕ). bit_at n i) all ∙ bit_of test (length s.settings) i ∙ ap (λ (b : Bool). if b && test i then 1 else 0) (sym there)

-- ---- the bytes of the map

-- what is left of higher bits has the same bit
low_bit : (n m i : ℕ) → i < m → bit_at (n % 2 ^ m) i ≡ bit_at n i
low_bit n m i below =
    let above : ℕ = m - i - 1 in
    let split : m ≡ above + 1 + i = omega (arith, below) in
    let whole : n % 2 ^ m ≡ (n / 2 ^ i % 2 ^ (above + 1)) * 2 ^ i + n % 2 ^ i = ap (λ (k : ℕ). n % 2 ^ k) split ∙ mod-pow-add n (above + 1) i in
    ap (λ (k : ℕ). k / 2 ^ i % 2) whole
    ∙ ap (λ (k : ℕ). k % 2) (div-mul-add (n / 2 ^ i % 2 ^ (above + 1)) (2 ^ i) (n % 2 ^ i) (mod-lt n (pow_pos i)))
    ∙ mod-mod-pow (n / 2 ^ i) above 1

-- bytes are a number's remainder
number_in : (width n : ℕ) → little_number width (little_bytes width n) ≡ n % 256 ^ width
number_in width n =
    ap (little_number width) (sym (append-nil (little_bytes width n)))
    ∙ little_from-bytes width 0 n []
    ∙ ap (λ (k : ℕ). k % 256 ^ width) (div-one n)

eight_bits : (few : Bool) → 256 ^ (if few then 1 else 2) ≡ 2 ^ (8 * (if few then 1 else 2))
eight_bits true = refl
eight_bits false = refl

pub bytes_bit_by_bit : (function : FunctionFields) (controls : List (Key × ℤ)) (interface : ℕ) (s : StreamInterface) (i : ℕ) → IsSoundFunction function → interface_in function interface ≡ Some s
    → i < 8 * map_bytes s
    → bit_at (little_number (map_bytes s) (drop 1 (valid_bytes function controls s))) i ≡ (if has_setting function interface i && is_valid function controls s i then 1 else 0)
unfolding valid_bytes
bytes_bit_by_bit function controls interface s i sound found below =
    let all : ℕ = valid_sum function controls s s.settings in
    ap (λ (n : ℕ). bit_at n i) (number_in (map_bytes s) all ∙ ap (λ (p : ℕ). all % p) (eight_bits (nat_le (length s.settings) 8)))
    ∙ low_bit all (8 * map_bytes s) i below
    ∙ bit_by_bit function controls interface s i sound found
