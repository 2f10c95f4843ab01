-- How bytes are cut: in one way only.
use Rattle.std.proofs.Common.{◌≡◌, ℕ, zero, suc, ◌≤◌, Bool, true, false, List, [], ◌∷◌, ◌++◌, length, take, drop, get_or, leb, flat_map, refl, sym, ap, ◌∙◌, append_assoc, take-append-drop, take_at, drop_at, length-drop, length-take-le, length-append, arith, leb-true, le-leb}
use Rattle.std.proofs.lemmas.Bool.{and_parts, and_from}
use Rattle.uac_grammar_rules.specs.Cutting.{Cut, IsCut, IsPiece, begins_whole, with_piece, cut_front, chop_within, chop}

-- two ways to go on that agree after the first block
cut_front_same : (b : Bool) (bytes : List ℕ) (go go' : List ℕ → Cut)
    → (b ≡ true → go (drop (get_or bytes 0 0) bytes) ≡ go' (drop (get_or bytes 0 0) bytes)) → cut_front b bytes go ≡ cut_front b bytes go'
cut_front_same false bytes go go' same = refl
cut_front_same true bytes go go' same = ap (with_piece (take (get_or bytes 0 0) bytes)) (same refl)

-- what a whole block in front says of the lengths
whole_length : (bytes : List ℕ) → begins_whole bytes ≡ true → (2 ≤ get_or bytes 0 0) × (get_or bytes 0 0 ≤ length bytes)
whole_length bytes h =
    let (p, q) = and_parts (leb 2 (get_or bytes 0 0)) (leb (get_or bytes 0 0) (length bytes)) h in
    (leb-true 2 (get_or bytes 0 0) p, leb-true (get_or bytes 0 0) (length bytes) q)

-- more blocks than the bytes have room for change nothing
pub chop_within_same : (m n : ℕ) (bytes : List ℕ) → length bytes ≤ m → length bytes ≤ n → chop_within m bytes ≡ chop_within n bytes
unfolding chop_within
chop_within_same zero zero bytes p q = refl
chop_within_same zero (suc n) [] p q = refl
chop_within_same zero (suc n) (x ∷ xs) p q = absurd (omega arith)
chop_within_same (suc m) zero [] p q = refl
chop_within_same (suc m) zero (x ∷ xs) p q = absurd (omega arith)
chop_within_same (suc m) (suc n) bytes p q =
    cut_front_same (begins_whole bytes) bytes (chop_within m) (chop_within n)
    (λ h. let (two, fits) = whole_length bytes h in
    chop_within_same m n (drop (get_or bytes 0 0) bytes)
    (simp length-drop (omega arith)) (simp length-drop (omega arith)))

-- a block in front is cut off
pub chop_piece : (piece rest : List ℕ) → IsPiece piece → chop (piece ++ rest) ≡ with_piece piece (chop rest)
unfolding chop chop_within
chop_piece [] rest (two, fits) = absurd (omega arith)
chop_piece (x ∷ xs) rest (two, fits) =
    let h : begins_whole ((x ∷ xs) ++ rest) ≡ true =
    and_from (leb 2 x) (leb x (length ((x ∷ xs) ++ rest))) (le-leb 2 x two) (le-leb x (length ((x ∷ xs) ++ rest)) (simp length-append (omega arith))) in
    ap (λ b. cut_front b ((x ∷ xs) ++ rest) (chop_within (length (xs ++ rest)))) h
    ∙ ap (λ y. with_piece y (chop_within (length (xs ++ rest)) (drop x ((x ∷ xs) ++ rest)))) (take_at (x ∷ xs) rest x fits)
    ∙ ap (λ y. with_piece (x ∷ xs) (chop_within (length (xs ++ rest)) y)) (drop_at (x ∷ xs) rest x fits)
    ∙ ap (with_piece (x ∷ xs)) (chop_within_same (length (xs ++ rest)) (length rest) rest (simp length-append (omega arith)) (omega arith))

-- bytes that begin with no whole block are left
pub chop_rest : (bytes : List ℕ) → begins_whole bytes ≡ false → chop bytes ≡ record { pieces = []; rest = bytes }
unfolding chop chop_within
chop_rest [] h = refl
chop_rest (x ∷ xs) h = ap (λ b. cut_front b (x ∷ xs) (chop_within (length xs))) h

first_piece : (bytes : List ℕ) → 2 ≤ get_or bytes 0 0 → get_or bytes 0 0 ≤ length bytes → IsPiece (take (get_or bytes 0 0) bytes)
first_piece [] two fits = absurd (omega arith)
first_piece (zero ∷ xs) two fits = absurd (omega arith)
first_piece (suc x ∷ xs) two fits = (two, length-take-le (suc x) (suc x ∷ xs) fits)

front_is_cut : (b : Bool) (bytes : List ℕ) (go : List ℕ → Cut) → begins_whole bytes ≡ b
    → (b ≡ true → IsCut (drop (get_or bytes 0 0) bytes) (go (drop (get_or bytes 0 0) bytes))) → IsCut bytes (cut_front b bytes go)
front_is_cut false bytes go h ok = record { joined = refl; pieces_are = tt; rest_is = h }
front_is_cut true bytes go h ok =
    let (two, fits) = whole_length bytes h in
    let k : ℕ = get_or bytes 0 0 in
    let r = ok refl in
    record {
      joined = sym (take-append-drop k bytes) ∙ ap (λ y. take k bytes ++ y) r.joined ∙ sym (append_assoc (take k bytes) (flat_map (λ piece. piece) (go (drop k bytes)).pieces) (go (drop k bytes)).rest);
      pieces_are = (first_piece bytes two fits, r.pieces_are);
      rest_is = r.rest_is;
    }

within_is_cut : (n : ℕ) (bytes : List ℕ) → length bytes ≤ n → IsCut bytes (chop_within n bytes)
unfolding chop_within
within_is_cut zero [] p = record { joined = refl; pieces_are = tt; rest_is = refl }
within_is_cut zero (x ∷ xs) p = absurd (omega arith)
within_is_cut (suc n) bytes p =
    front_is_cut (begins_whole bytes) bytes (chop_within n) refl
    (λ h. let (two, fits) = whole_length bytes h in within_is_cut n (drop (get_or bytes 0 0) bytes) (simp length-drop (omega arith)))

pub chop_is_cut : (bytes : List ℕ) → IsCut bytes (chop bytes)
unfolding chop
chop_is_cut bytes = within_is_cut (length bytes) bytes (omega arith)
