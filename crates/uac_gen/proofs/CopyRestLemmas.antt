-- What one call moves of the line with its newline.
use Rattle.std.proofs.Common.{◌≡◌, ℕ, ◌+◌, ◌<◌, ◌≤◌, List, [], ◌∷◌, ◌++◌, length, take, drop, slice_set, refl, ap, sym, ◌∙◌, arith, append_assoc}
use Rattle.std.proofs.lemmas.Grind.{common_steps}
use Rattle.std.proofs.lemmas.List.{drop-append-le, drop-drop, take-append-drop}
use Rattle.std.proofs.Math.Seq.{take-append_seam}

-- one byte, written to the front of the buffer
pub byte_written : (into : List ℕ) (byte : ℕ) → 0 < length into → take 1 (slice_set into 0 byte) ≡ byte ∷ []
byte_written [] byte some = absurd (omega arith)
byte_written (x ∷ xs) byte some = refl

-- the newline, from the end of the line on
pub newline_moved : (line new : List ℕ) (at : ℕ) → at ≡ length line → take 1 new ≡ 10 ∷ [] → drop at (line ++ 10 ∷ []) ≡ take 1 new ++ drop (at + 1) (line ++ 10 ∷ [])
newline_moved line new at here first = grind (arith, common_steps)

-- the front of a list, and what is after it
two_parts : (xs : List ℕ) (at n : ℕ) → drop at xs ≡ take n (drop at xs) ++ drop (at + n) xs
two_parts xs at n = sym (take-append-drop n (drop at xs)) ∙ ap (λ bytes. take n (drop at xs) ++ bytes) (drop-drop n at xs)

-- bytes of the line itself
pub bytes_moved : (line piece rest : List ℕ) (at n : ℕ) → at + n ≤ length line → piece ≡ take n (drop at line) → length piece ≡ n
    → drop at (line ++ 10 ∷ []) ≡ take n (piece ++ rest) ++ drop (at + n) (line ++ 10 ∷ [])
bytes_moved line piece rest at n fits piece-is size =
    let following = drop (at + n) line in
    drop-append-le at line (10 ∷ []) (omega arith)
    ∙ ap (λ bytes. bytes ++ 10 ∷ []) (two_parts line at n)
    ∙ append_assoc (take n (drop at line)) following (10 ∷ [])
    ∙ ap (λ bytes. bytes ++ (following ++ 10 ∷ [])) (sym (ap (λ k. take k (piece ++ rest)) (sym size) ∙ take-append_seam piece rest ∙ piece-is))
    ∙ ap (λ bytes. take n (piece ++ rest) ++ bytes) (sym (drop-append-le (at + n) line (10 ∷ []) fits))
