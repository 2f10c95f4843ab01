-- Frames in a row.
use Rattle.std.proofs.Common.{◌≡◌, ◌∙◌, sym, ap, refl, arith, ℕ, ◌+◌, ◌<◌, ◌≤◌, ℤ, List, [], ◌∷◌, ◌++◌, length, get_or, map, take, drop, append_assoc, sum, Option, Some, None, length-append}
use Rattle.std.specs.List.{sum_by}
use Rattle.std.proofs.lemmas.List.{map_more, map-append}
use Rattle.std.proofs.lemmas.List.{take-append-drop, append-nil}
use Rattle.std.proofs.lemmas.List.Sums.{sum_by-cons, sum-map}
use Rattle.std.specs.Option.{option_map}
use Rattle.std.proofs.lemmas.Option.{same_Some}
use Rattle.uac_units.specs.Rendering.{in_a_row}

pub in_a_row-append : (frames others : List (List ℤ)) → in_a_row (frames ++ others) ≡ in_a_row frames ++ in_a_row others
in_a_row-append [] others = refl
in_a_row-append (frame ∷ frames) others =
    ap (λ rest. frame ++ rest) (in_a_row-append frames others) ∙ sym (append_assoc frame (in_a_row frames) (in_a_row others))

pub in_a_row-one : (frame : List ℤ) → in_a_row (frame ∷ []) ≡ frame
in_a_row-one frame = append-nil frame

-- one more frame
pub in_a_row_more : (f : ℕ → List ℤ) (xs : List ℕ) (i d : ℕ) → i < length xs
    → in_a_row (map f (take (i + 1) xs)) ≡ in_a_row (map f (take i xs)) ++ f (get_or xs i d)
in_a_row_more f xs i d below =
    ap in_a_row (map_more f xs i d below) ∙ in_a_row-append (map f (take i xs)) (f (get_or xs i d) ∷ [])
    ∙ ap (λ last. in_a_row (map f (take i xs)) ++ last) (in_a_row-one (f (get_or xs i d)))

-- as many channels as all frames have together
pub length-in_a_row : (frames : List (List ℤ)) → length (in_a_row frames) ≡ sum (map length frames)
length-in_a_row frames = by_each frames ∙ sym (sum-map length frames)
  where
    by_each : (frames : List (List ℤ)) → length (in_a_row frames) ≡ sum_by length frames
    by_each [] = refl
    by_each (frame ∷ frames) = length-append frame (in_a_row frames) ∙ ap (λ n. length frame + n) (by_each frames) ∙ sym (sum_by-cons length frame frames)

-- the first frames have no more channels than all
pub in_a_row_front : (f : ℕ → List ℤ) (xs : List ℕ) (n : ℕ) → length (in_a_row (map f (take n xs))) ≤ length (in_a_row (map f xs))
in_a_row_front f xs n =
    let front = in_a_row (map f (take n xs)) in
    let back = in_a_row (map f (drop n xs)) in
    let all : in_a_row (map f xs) ≡ front ++ back =
    ap (λ ys. in_a_row (map f ys)) (sym (take-append-drop n xs)) ∙ ap in_a_row (map-append f (take n xs) (drop n xs)) ∙ in_a_row-append (map f (take n xs)) (map f (drop n xs)) in
    omega (arith, ap length all, length-append front back)

-- one more frame has room
pub row_fits : (f : ℕ → List ℤ) (xs : List ℕ) (i : ℕ) (row frame : List ℤ) → i < length xs → f (get_or xs i 0) ≡ frame
    → length (in_a_row (map f xs)) ≤ 256 → row ≡ in_a_row (map f (take i xs)) → length row + length frame ≤ 256
row_fits f xs i row frame below here small so_far =
    let longer = in_a_row_more f xs i 0 below in
    omega (arith, in_a_row_front f xs (i + 1), ap length longer, length-append (in_a_row (map f (take i xs))) (f (get_or xs i 0)), ap length so_far, ap length here)

-- one more frame: what extends the row by it is the longer row
pub row_more : (f : ℕ → List ℤ) (xs : List ℕ) (i : ℕ) (row more frame : List ℤ) → i < length xs → f (get_or xs i 0) ≡ frame
    → row ≡ in_a_row (map f (take i xs)) → more ≡ row ++ frame → more ≡ in_a_row (map f (take (i + 1) xs))
row_more f xs i row more frame below here so_far extends =
    let longer = in_a_row_more f xs i 0 below in extends ∙ cc (so_far, here, longer)

-- a frame of no samples
pub no_samples : (o : Option (List ℤ)) (n : ℕ) → option_map length o ≡ Some n → n ≡ 0 → o ≡ Some []
no_samples None n e none = absurd (cc)
no_samples (Some []) n e none = refl
no_samples (Some (z ∷ zs)) n e none = absurd (omega (arith, same_Some (length (z ∷ zs)) n e))
