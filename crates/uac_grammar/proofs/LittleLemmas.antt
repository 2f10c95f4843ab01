-- Fields of more than one byte, and rows of control words.
use Rattle.std.proofs.Common.{◌≡◌, ◌+◌, ◌*◌, ◌-◌, ℕ, zero, suc, List, [], ◌∷◌, ◌++◌, take, drop, length, refl, sym, ap, ◌∙◌, arith, get_or}
use Rattle.std.proofs.lemmas.List.{take_rest, get_or-drop}
use Rattle.byteorder.specs.Endian.{little_number}
use Rattle.uac_descriptor.specs.Little.{two_at, four_at}
use Rattle.uac_descriptor.specs.BlockParsing.{words_in}

-- a byte after the first n, found from the front
byte_following : (n : ℕ) (bytes : List ℕ) (i j k : ℕ) → k ≡ n + i + j → get_or (drop n bytes) (i + j) 0 ≡ get_or bytes k 0
byte_following n bytes i j k e = get_or-drop n bytes (i + j) 0 ∙ ap (λ (m : ℕ). get_or bytes m 0) (omega (arith, e))

two_following : (n : ℕ) (bytes : List ℕ) (i k : ℕ) → k ≡ n + i → two_at (drop n bytes) i ≡ two_at bytes k
two_following n bytes i k e =
    let first : get_or (drop n bytes) i 0 ≡ get_or bytes k 0 = get_or-drop n bytes i 0 ∙ ap (λ (m : ℕ). get_or bytes m 0) (sym e) in
    let second = byte_following n bytes i 1 (k + 1) (omega (arith, e)) in
    omega (arith, first, second)

four_following : (n : ℕ) (bytes : List ℕ) (i k : ℕ) → k ≡ n + i → four_at (drop n bytes) i ≡ four_at bytes k
four_following n bytes i k e =
    let first : get_or (drop n bytes) i 0 ≡ get_or bytes k 0 = get_or-drop n bytes i 0 ∙ ap (λ (m : ℕ). get_or bytes m 0) (sym e) in
    let second = byte_following n bytes i 1 (k + 1) (omega (arith, e)) in
    let third = byte_following n bytes i 2 (k + 2) (omega (arith, e)) in
    let fourth = byte_following n bytes i 3 (k + 3) (omega (arith, e)) in
    omega (arith, first, second, third, fourth)

number_of_two : (bytes : List ℕ) → little_number 2 bytes ≡ two_at bytes 0
number_of_two bytes = omega arith

number_of_four : (bytes : List ℕ) → little_number 4 bytes ≡ four_at bytes 0
number_of_four bytes = omega arith

pub little_two : (bytes : List ℕ) (i : ℕ) → little_number 2 (take (length bytes - i) (drop i bytes)) ≡ two_at bytes i
little_two bytes i =
    ap (little_number 2) (take_rest bytes i) ∙ (number_of_two (drop i bytes) ∙ two_following i bytes 0 i (omega arith))

pub little_four : (bytes : List ℕ) (i : ℕ) → little_number 4 (take (length bytes - i) (drop i bytes)) ≡ four_at bytes i
little_four bytes i =
    ap (little_number 4) (take_rest bytes i) ∙ (number_of_four (drop i bytes) ∙ four_following i bytes 0 i (omega arith))

-- one control word more
pub words_push : (k : ℕ) (bytes : List ℕ) → words_in (k + 1) bytes ≡ words_in k bytes ++ four_at bytes (4 * k) ∷ []
words_push zero bytes = refl
words_push (suc k) bytes =
    let last : four_at (drop 4 bytes) (4 * k) ≡ four_at bytes (4 * suc k) = four_following 4 bytes (4 * k) (4 * suc k) (omega arith) in
    ap (λ (n : ℕ). words_in n bytes) (let e : suc k + 1 ≡ suc (k + 1) = omega arith in e)
    ∙ ap (λ (ws : List ℕ). four_at bytes 0 ∷ ws) (words_push k (drop 4 bytes) ∙ ap (λ (w : ℕ). words_in k (drop 4 bytes) ++ w ∷ []) last)
