-- Silence: the bytes of frames of zeros, and the frames of bytes that are zeros.
use Rattle.std.proofs.Common.{◌≡◌, ◌↔◌, ℕ, zero, suc, ◌+◌, ◌-◌, ◌*◌, ◌/◌, ◌%◌, ◌^◌, ◌≤◌, ℤ, pos, List, [], ◌∷◌, ◌++◌, length, take, drop, map, replicate, slice_index, arith, ap, ◌∙◌, sym, refl}
use Rattle.std.proofs.Math.Nat.{zero-div, zero-mul, zero-mod, suc-mul}
use Rattle.std.proofs.Math.Seq.{take-add}
use Rattle.std.specs.Int.{byte_at, bytes_low_first}
use Rattle.std.specs.List.{flat_map, range_with_len}
use Rattle.std.specs.Simd.{first_chunks}
use Rattle.std.proofs.lemmas.List.{drop-replicate, length-drop, length-take-le, take-append-drop, length-replicate, replicate-append-replicate}
use Rattle.std.proofs.lemmas.List.FromFn.{length-range_with_len}
use Rattle.byteorder.specs.Endian.{little_from, little_number}
use Rattle.byteorder.specs.Numbers.{little_from-cons}
use Rattle.uac_pcm.proofs.TonesWrapLemmas.{int_wrap-pos}
use Rattle.uac_pcm.specs.Subslots.{floor_of, modulo, wrap, cut_to, subslot_of, sample_of_subslot}
use Rattle.uac_pcm.specs.Frames.{bytes_of_frame, frame_of_bytes}
use Rattle.uac_pcm.specs.Packets.{bytes_of_frames, frames_of_bytes}

-- ---- lists of the same thing again and again

-- the front of such a list is one
front_same : {X : Type 0} (w n : ℕ) (x : X) → (j : ℕ) × (take w (replicate n x) ≡ replicate j x)
front_same zero n x = (0, refl)
front_same (suc w) zero x = (0, refl)
front_same (suc w) (suc n) x =
    let rest = front_same w n x in
    (suc rest.0, ap (λ xs. x ∷ xs) rest.1)

-- the same of each part of such a list
parts_same : {X Y : Type 0} (f : List X → Y) (w k n : ℕ) (x : X) (y : Y) → ((m : ℕ) → f (replicate m x) ≡ y)
    → map f (first_chunks w k (replicate n x)) ≡ replicate k y
parts_same f w zero n x y same = refl
parts_same {X = X} {Y = Y} f w (suc k) n x y same =
    let front = front_same w n x in
    ap (λ (z : Y). z ∷ map f (first_chunks w k (drop w (replicate n x)))) (ap f front.1 ∙ same front.0)
    ∙ ap (λ (xs : List X). y ∷ map f (first_chunks w k xs)) (drop-replicate w n x)
    ∙ ap (λ (ys : List Y). y ∷ ys) (parts_same f w k (n - w) x y same)

-- so much the same for each element of such a list
each_same : {X Y : Type 0} (f : X → List Y) (n m : ℕ) (x : X) (y : Y) → f x ≡ replicate m y → flat_map f (replicate n x) ≡ replicate (n * m) y
each_same f zero m x y same = ap (λ (k : ℕ). replicate k y) (sym (zero-mul m))
each_same {Y = Y} f (suc n) m x y same =
    let step : m + n * m ≡ suc n * m = omega (arith, suc-mul n m) in
    ap (λ (ys : List Y). ys ++ flat_map f (replicate n x)) same
    ∙ ap (λ (ys : List Y). replicate m y ++ ys) (each_same f n m x y same)
    ∙ replicate-append-replicate m (n * m) y
    ∙ ap (λ (k : ℕ). replicate k y) step

-- the same at each number of a row of them
pub map_same : {Y : Type 0} (f : ℕ → Y) (y : Y) (from count : ℕ) → ((n : ℕ) → f n ≡ y) → map f (range_with_len from count) ≡ replicate count y
map_same {Y = Y} f y from count same =
    along (range_with_len from count) ∙ ap (λ (n : ℕ). replicate n y) (length-range_with_len from count) where
      along : (ns : List ℕ) → map f ns ≡ replicate (length ns) y
      along [] = refl
      along (n ∷ ns) = ap (λ (z : Y). z ∷ map f ns) (same n) ∙ ap (λ (ys : List Y). y ∷ ys) (along ns)

-- ---- one sample

-- zero is cut to zero
cut_to-zero : (resolution : ℕ) → cut_to resolution (pos 0) ≡ pos 0
unfolding cut_to
cut_to-zero resolution =
    let unit : ℕ = 2 ^ (32 - resolution) in
    ap (λ (n : ℕ). pos (n * unit)) (zero-div unit) ∙ ap pos (zero-mul unit)

-- the bytes of zero
bytes_of-zero : (i size : ℕ) → bytes_low_first i size 0 ≡ replicate size 0
bytes_of-zero i zero = refl
bytes_of-zero i (suc size) =
    ap (λ (n : ℕ). n ∷ bytes_low_first (suc i) size 0) (byte i) ∙ ap (λ (ns : List ℕ). 0 ∷ ns) (bytes_of-zero (suc i) size) where
      byte : (k : ℕ) → byte_at k 0 ≡ 0
      byte zero = refl
      byte (suc k) = ap (λ (n : ℕ). n % 256) (zero-div (256 ^ suc k))

-- the number in bytes that are zeros
pub number_of-zeros : (i size n : ℕ) → little_from i size (replicate n 0) ≡ 0
number_of-zeros i zero n = refl
number_of-zeros i (suc size) n = rw (byte n i, number_of-zeros (suc i) size n) refl where
  byte : (n k : ℕ) → slice_index (replicate n 0) k ≡ 0
  byte zero k = refl
  byte (suc n) zero = refl
  byte (suc n) (suc k) = byte n k

-- bytes whose number is zero
pub zeros_of_number : (size : ℕ) (bytes : List ℕ) → length bytes ≡ size → little_number size bytes ≡ 0 → bytes ≡ replicate size 0
zeros_of_number zero [] whole none = refl
zeros_of_number zero (b ∷ bs) whole none = absurd (omega arith)
zeros_of_number (suc size) [] whole none = absurd (omega arith)
zeros_of_number (suc size) (b ∷ bs) whole none =
    let moved : little_from 1 size (b ∷ bs) ≡ little_from 0 size bs = little_from-cons 0 size b bs in
    let first : b ≡ 0 = omega (arith, none) in
    let others : little_from 0 size bs ≡ 0 = omega (arith, none, moved) in
    ap (λ (n : ℕ). n ∷ bs) first ∙ ap (λ (ns : List ℕ). 0 ∷ ns) (zeros_of_number size bs (omega (arith, whole)) others)

-- eight more bytes that are zeros, by their number
pub eight_more : (n number : ℕ) (bytes part : List ℕ) → n * 8 + 8 ≤ length bytes → take (n * 8) bytes ≡ replicate (n * 8) 0
    → part ≡ take 8 (drop (n * 8) bytes) → number ≡ little_number 8 part → number ≡ 0 → take ((n + 1) * 8) bytes ≡ replicate ((n + 1) * 8) 0
eight_more n number bytes part there so_far cutting read none =
    let more : (n + 1) * 8 ≡ n * 8 + 8 = omega arith in
    let left : 8 ≤ length (drop (n * 8) bytes) = omega (arith, length-drop (n * 8) bytes) in
    let whole : length part ≡ 8 = ap length cutting ∙ length-take-le 8 (drop (n * 8) bytes) left in
    let zeros : part ≡ replicate 8 0 = zeros_of_number 8 part whole (sym read ∙ none) in
    ap (λ (k : ℕ). take k bytes) more
    ∙ take-add (n * 8) 8 bytes
    ∙ ap (λ (ns : List ℕ). ns ++ take 8 (drop (n * 8) bytes)) so_far
    ∙ ap (λ (ns : List ℕ). replicate (n * 8) 0 ++ ns) (sym cutting ∙ zeros)
    ∙ replicate-append-replicate (n * 8) 8 0
    ∙ ap (λ (k : ℕ). replicate k 0) (sym more)

-- bytes are zeros where their front is, exactly where those after it are
pub zeros_by_rest : (k : ℕ) (bytes rest : List ℕ) → k ≤ length bytes → take k bytes ≡ replicate k 0 → rest ≡ drop k bytes
    → (rest ≡ replicate (length rest) 0) ↔ (bytes ≡ replicate (length bytes) 0)
zeros_by_rest k bytes rest there so_far cutting =
    let left : length rest ≡ length bytes - k = ap length cutting ∙ length-drop k bytes in
    let all : k + length rest ≡ length bytes = omega (arith, left) in (
      λ zeros.
          sym (take-append-drop k bytes)
          ∙ ap (λ (ns : List ℕ). ns ++ drop k bytes) so_far
          ∙ ap (λ (ns : List ℕ). replicate k 0 ++ ns) (sym cutting ∙ zeros)
          ∙ replicate-append-replicate k (length rest) 0
          ∙ ap (λ (n : ℕ). replicate n 0) all,
      λ zeros. cutting ∙ ap (drop k) zeros ∙ drop-replicate k (length bytes) 0 ∙ ap (λ (n : ℕ). replicate n 0) (sym left),
    )

pub subslot_of-zero : (size resolution : ℕ) → subslot_of size resolution (pos 0) ≡ replicate size 0
unfolding subslot_of
subslot_of-zero size resolution =
    let unit : ℕ = 2 ^ (32 - 8 * size) in
    let parts : ℕ = 2 ^ (8 * size) in
    ap (λ (z : ℤ). bytes_low_first 0 size (modulo (floor_of z unit) parts)) (cut_to-zero resolution)
    ∙ ap (λ (n : ℕ). bytes_low_first 0 size (n % parts)) (zero-div unit)
    ∙ ap (bytes_low_first 0 size) (zero-mod parts)
    ∙ bytes_of-zero 0 size

pub sample_of_subslot-zeros : (size resolution n : ℕ) → sample_of_subslot size resolution (replicate n 0) ≡ pos 0
unfolding sample_of_subslot
sample_of_subslot-zeros size resolution n =
    let unit : ℕ = 2 ^ (32 - 8 * size) in
    ap (λ (k : ℕ). cut_to resolution (wrap (pos (k * unit)))) (number_of-zeros 0 size n)
    ∙ ap (λ (k : ℕ). cut_to resolution (wrap (pos k))) (zero-mul unit)
    ∙ ap (cut_to resolution) (int_wrap-pos 0)
    ∙ cut_to-zero resolution

-- ---- frames

-- silent frames have zeros for their bytes
pub bytes_of_frames-silent : (channels size resolution n : ℕ)
    → bytes_of_frames size resolution (replicate n (replicate channels (pos 0))) ≡ replicate (n * (channels * size)) 0
bytes_of_frames-silent channels size resolution n =
    each_same (bytes_of_frame size resolution) n (channels * size) (replicate channels (pos 0)) 0
    (each_same (subslot_of size resolution) channels size (pos 0) 0 (subslot_of-zero size resolution))

-- bytes that are zeros have silent frames
pub frames_of_bytes-zeros : (channels size resolution n : ℕ)
    → frames_of_bytes channels size resolution (replicate n 0) ≡ replicate (n / (channels * size)) (replicate channels (pos 0))
frames_of_bytes-zeros channels size resolution n =
    ap (λ (k : ℕ). map (frame_of_bytes channels size resolution) (first_chunks (channels * size) (k / (channels * size)) (replicate n 0))) (length-replicate n 0)
    ∙ parts_same (frame_of_bytes channels size resolution) (channels * size) (n / (channels * size)) n 0 (replicate channels (pos 0))
    (λ m. parts_same (sample_of_subslot size resolution) size channels m 0 (pos 0) (λ k. sample_of_subslot-zeros size resolution k))
