-- The bytes of a frame, and the samples of its bytes.
use Rattle.std.proofs.Common.{get_or, pos, add-one, ◌≡◌, ℕ, zero, suc, ◌+◌, ◌*◌, ◌<◌, ◌≤◌, ℤ, FitsSigned, w32, List, [], ◌∷◌, ◌++◌, length, take, drop, set, map, arith, ap, ◌∙◌, sym, refl, Result, Ok, Err, true, is_ok, OnOk, append_assoc, length-append}
use Rattle.std.proofs.Math.Nat.{suc-mul, zero-mul}
use Rattle.std.proofs.Math.Seq.{take-append_seam, drop-append_seam}
use Rattle.std.specs.List.{All}
use Rattle.std.proofs.lemmas.List.{append-nil, drop-drop, length-drop, take_all, take_more_set}
use Rattle.byteorder.specs.Numbers.{length-bytes_low_first}
use Rattle.uac_pcm.specs.Subslots.{cut_to, subslot_of, sample_of_subslot}
use Rattle.uac_pcm.proofs.SubslotsLemmas.{sample_of_subslot-subslot_of}
use Rattle.uac_pcm.specs.Frames.{bytes_of_frame, frame_of_bytes}

-- a subslot has so many bytes
pub length-subslot_of : (size resolution : ℕ) (sample : ℤ) → length (subslot_of size resolution sample) ≡ size
unfolding subslot_of
length-subslot_of size resolution sample = length-bytes_low_first 0 size _

-- a frame has a subslot for each sample
pub length-bytes_of_frame : (size resolution : ℕ) (samples : List ℤ) → length (bytes_of_frame size resolution samples) ≡ length samples * size
length-bytes_of_frame size resolution [] = omega arith
length-bytes_of_frame size resolution (x ∷ xs) =
    let rest = length-bytes_of_frame size resolution xs in
    let first = length-subslot_of size resolution x in
    length-append (subslot_of size resolution x) (bytes_of_frame size resolution xs) ∙ omega (arith, suc-mul (length xs) size)

-- what a call ensures where it answers Ok, where it does
pub where_ok : {T E P : Type 0} (r : Result T E) → is_ok r ≡ true → OnOk r P → P
where_ok (Ok x) h p = p
where_ok (Err e) h p = cc

-- one more sample of the bytes
pub frame_of_bytes_more : (count size resolution : ℕ) (bytes : List ℕ)
    → frame_of_bytes (count + 1) size resolution bytes
    ≡ frame_of_bytes count size resolution bytes ++ sample_of_subslot size resolution (take size (drop (count * size) bytes)) ∷ []
frame_of_bytes_more count size resolution bytes = rw add-one (along count bytes) where
  along : (k : ℕ) (bs : List ℕ) → frame_of_bytes (suc k) size resolution bs
      ≡ frame_of_bytes k size resolution bs ++ sample_of_subslot size resolution (take size (drop (k * size) bs)) ∷ []
  along zero bs = ap (λ (n : ℕ). sample_of_subslot size resolution (take size (drop n bs)) ∷ []) (sym (zero-mul size))
  along (suc k) bs =
      let step : k * size + size ≡ suc k * size = sym (suc-mul k size) in
      let further : drop (k * size) (drop size bs) ≡ drop (suc k * size) bs =
      drop-drop (k * size) size bs ∙ ap (λ (n : ℕ). drop n bs) (omega arith) in
      ap (λ (xs : List ℤ). sample_of_subslot size resolution (take size bs) ∷ xs) (along k (drop size bs))
      ∙ ap (λ (ws : List ℕ). frame_of_bytes (suc k) size resolution bs ++ sample_of_subslot size resolution (take size ws) ∷ []) further

-- a sample that is read into its place
pub sample_read : (size resolution place : ℕ) (subslots subslot : List ℕ) (samples : List ℤ) (sample : ℤ) → place < length samples
    → take place samples ≡ frame_of_bytes place size resolution subslots → subslot ≡ take size (drop (place * size) subslots)
    → sample ≡ sample_of_subslot size resolution subslot
    → take (place + 1) (set samples place sample) ≡ frame_of_bytes (place + 1) size resolution subslots
sample_read size resolution place subslots subslot samples sample inside so_far cutting read =
    take_more_set samples place sample inside
    ∙ ap (λ (xs : List ℤ). xs ++ sample ∷ []) so_far
    ∙ ap (λ (z : ℤ). frame_of_bytes place size resolution subslots ++ z ∷ []) (read ∙ ap (sample_of_subslot size resolution) cutting)
    ∙ sym (frame_of_bytes_more place size resolution subslots)

-- the bytes of a frame, whatever stands after them, hold its samples, cut
pub frame_of_bytes-bytes_of_frame : (size resolution : ℕ) (samples : List ℤ) (rest : List ℕ) → size ≤ 4 → 1 ≤ resolution → resolution ≤ 8 * size
    → All (FitsSigned w32) samples
    → frame_of_bytes (length samples) size resolution (bytes_of_frame size resolution samples ++ rest) ≡ map (cut_to resolution) samples
frame_of_bytes-bytes_of_frame size resolution [] rest room low high fits = refl
frame_of_bytes-bytes_of_frame size resolution (x ∷ xs) rest room low high fits =
    let subslot : List ℕ = subslot_of size resolution x in
    let others : List ℕ = bytes_of_frame size resolution xs ++ rest in
    let regrouped : bytes_of_frame size resolution (x ∷ xs) ++ rest ≡ subslot ++ others = append_assoc subslot (bytes_of_frame size resolution xs) rest in
    let long : length subslot ≡ size = length-subslot_of size resolution x in
    let front : take size (subslot ++ others) ≡ subslot = ap (λ (n : ℕ). take n (subslot ++ others)) (sym long) ∙ take-append_seam subslot others in
    let back : drop size (subslot ++ others) ≡ others = ap (λ (n : ℕ). drop n (subslot ++ others)) (sym long) ∙ drop-append_seam subslot others in
    let first : FitsSigned w32 x = fits 0 x (omega arith) in
    let further : All (FitsSigned w32) xs = λ k d below. fits (suc k) d (omega arith) in
    ap (frame_of_bytes (suc (length xs)) size resolution) regrouped
    ∙ ap (λ (bs : List ℕ). sample_of_subslot size resolution bs ∷ frame_of_bytes (length xs) size resolution (drop size (subslot ++ others))) front
    ∙ ap (λ (z : ℤ). z ∷ frame_of_bytes (length xs) size resolution (drop size (subslot ++ others))) (sample_of_subslot-subslot_of size resolution x room low high first)
    ∙ ap (λ (bs : List ℕ). cut_to resolution x ∷ frame_of_bytes (length xs) size resolution bs) back
    ∙ ap (λ (zs : List ℤ). cut_to resolution x ∷ zs) (frame_of_bytes-bytes_of_frame size resolution xs rest room low high further)

-- one sample is its subslot
pub only_written : (size resolution : ℕ) (xs : List ℤ) → length xs ≡ 1 → subslot_of size resolution (get_or xs 0 (pos 0)) ≡ bytes_of_frame size resolution xs
only_written size resolution (x ∷ []) one = sym (append-nil (subslot_of size resolution x))
only_written size resolution [] one = absurd (omega (arith, one))
only_written size resolution (x ∷ y ∷ xs) one = absurd (omega (arith, one))

-- two samples are the subslot of one and then that of the other
pub pair_written : (size resolution : ℕ) (xs : List ℤ) → length xs ≡ 2
    → subslot_of size resolution (get_or xs 0 (pos 0)) ++ subslot_of size resolution (get_or xs 1 (pos 0)) ≡ bytes_of_frame size resolution xs
pair_written size resolution (x ∷ y ∷ []) two = ap (λ (bs : List ℕ). subslot_of size resolution x ++ bs) (sym (append-nil (subslot_of size resolution y)))
pair_written size resolution [] two = absurd (omega (arith, two))
pair_written size resolution (x ∷ []) two = absurd (omega (arith, two))
pair_written size resolution (x ∷ y ∷ z ∷ xs) two = absurd (omega (arith, two))

-- one subslot is one sample
pub only_read : (size resolution : ℕ) (bytes : List ℕ) (xs : List ℤ) → length xs ≡ 1 → length bytes ≡ size
    → set xs 0 (sample_of_subslot size resolution bytes) ≡ frame_of_bytes (length xs) size resolution bytes
only_read size resolution bytes (x ∷ []) one whole = ap (λ (bs : List ℕ). sample_of_subslot size resolution bs ∷ []) (sym (take_all size bytes (omega (arith, whole))))
only_read size resolution bytes [] one whole = absurd (omega (arith, one))
only_read size resolution bytes (x ∷ y ∷ xs) one whole = absurd (omega (arith, one))

-- two subslots are two samples
pub pair_read : (size resolution : ℕ) (bytes : List ℕ) (xs : List ℤ) → length xs ≡ 2 → length bytes ≡ 2 * size
    → set (set xs 0 (sample_of_subslot size resolution (take size bytes))) 1 (sample_of_subslot size resolution (drop size bytes))
    ≡ frame_of_bytes (length xs) size resolution bytes
pair_read size resolution bytes (x ∷ y ∷ []) two whole =
    let back : length (drop size bytes) ≡ size = length-drop size bytes ∙ omega (arith, whole) in
    ap (λ (bs : List ℕ). sample_of_subslot size resolution (take size bytes) ∷ sample_of_subslot size resolution bs ∷ [])
    (sym (take_all size (drop size bytes) (omega (arith, back))))
pair_read size resolution bytes [] two whole = absurd (omega (arith, two))
pair_read size resolution bytes (x ∷ []) two whole = absurd (omega (arith, two))
pair_read size resolution bytes (x ∷ y ∷ z ∷ xs) two whole = absurd (omega (arith, two))
