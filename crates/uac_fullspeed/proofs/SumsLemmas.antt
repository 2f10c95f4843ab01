-- Whole frames of sums, by the remainder of what came before.
use Rattle.std.proofs.Common.{arith, ◌≡◌, ◌∙◌, refl, sym, ap, ℕ, ◌+◌, ◌-◌, ◌/◌, ◌%◌, List, [], ◌∷◌, ◌++◌, length, take, sum, length-append}
use Rattle.std.proofs.lemmas.List.Sums.{sum_by-append}
use Rattle.std.proofs.Math.Seq.{take-append_seam}
use Rattle.uac_fullspeed.specs.FullSpeedWorld.{frames_of_last}

pub last_by_remainder : (values : List ℕ) (v : ℕ)
    → (frames_of_last (values ++ v ∷ []) ≡ (sum values % 16384 + v) / 16384) × (sum (values ++ v ∷ []) % 16384 ≡ (sum values % 16384 + v) % 16384)
last_by_remainder values v =
    let grown : length (values ++ v ∷ []) ≡ length values + 1 = length-append values (v ∷ []) in
    let all : sum (values ++ v ∷ []) ≡ sum values + (0 + v) = sum_by-append (λ (x : ℕ). x) values (v ∷ []) in
    let before : take (length (values ++ v ∷ []) - 1) (values ++ v ∷ []) ≡ values =
    ap (λ (n : ℕ). take n (values ++ v ∷ [])) (without (length (values ++ v ∷ [])) (length values) grown) ∙ take-append_seam values (v ∷ []) in
    let same = ap sum before in
    (whole (sum values) v (sum (values ++ v ∷ [])) _ all same, left (sum values) v (sum (values ++ v ∷ [])) all) where
      without : (grown n : ℕ) → grown ≡ n + 1 → grown - 1 ≡ n
      without grown n h = omega arith

      whole : (old more new before : ℕ) → new ≡ old + (0 + more) → before ≡ old → new / 16384 - before / 16384 ≡ (old % 16384 + more) / 16384
      whole old more new before h same = omega arith

      left : (old more new : ℕ) → new ≡ old + (0 + more) → new % 16384 ≡ (old % 16384 + more) % 16384
      left old more new h = omega arith
