-- Bytes in hexadecimal digits, piece by piece.
use Rattle.std.proofs.Common.{◌≡◌, ◌∙◌, sym, refl, ap, ℕ, List, [], ◌∷◌, ◌++◌, ◌-◌, ◌/◌, ◌%◌, slice_index, length, take, drop, append_assoc}
use Rattle.std.proofs.lemmas.List.{take_rest, take-append-drop}
use Rattle.hex.specs.Hex.{encode_lower, encode_with, lower_digits}

encode_both : (t xs ys : List ℕ) → encode_with t (xs ++ ys) ≡ encode_with t xs ++ encode_with t ys
unfolding encode_with
encode_both t [] ys = refl
encode_both t (x ∷ xs) ys = ap (λ text. slice_index t (x / 16) ∷ slice_index t (x % 16) ∷ text) (encode_both t xs ys)

pub encode_pieces : (xs ys : List ℕ) → encode_lower (xs ++ ys) ≡ encode_lower xs ++ encode_lower ys
encode_pieces xs ys = encode_both lower_digits xs ys

-- a piece more
pub parts_more : (bytes before rest : List ℕ) (n : ℕ) → bytes ≡ before ++ rest → bytes ≡ (before ++ take n rest) ++ take (length rest - n) (drop n rest)
parts_more bytes before rest n parts =
    parts ∙ ap (λ back. before ++ back) (sym (take-append-drop n rest)) ∙ sym (append_assoc before (take n rest) (drop n rest))
    ∙ ap (λ back. (before ++ take n rest) ++ back) (sym (take_rest rest n))
