-- Frames that are put one after the other.
use Rattle.std.proofs.Common.{arith, ◌≡◌, ◌∙◌, refl, ap, sym, ℕ, zero, suc, ◌+◌, ◌%◌, ◌^◌, ◌<◌, ◌≤◌, ℤ, pos, List, [], ◌∷◌, ◌++◌, map, length, replicate, Result, Ok, Err, IsErr, OnOk, ◌↔◌, length-append, append_assoc, to_z, w32}
use Rattle.std.specs.List.{range_with_len}
use Rattle.std.proofs.lemmas.List.{length-replicate, replicate-append-replicate, map-append, length-map}
use Rattle.std.proofs.lemmas.List.FromFn.{length-range_with_len}
use Rattle.uac_pcm.specs.Subslots.{wrap}
use Rattle.uac_pcm.proofs.TonesWrapLemmas.{int_wrap-pos}
use Rattle.uac_ring.specs.Rings.{ring_frames}
use Rattle.uac_bench.specs.BenchStreams.{numbered_frame, numbered, silent_frame}

-- a frame that is put into a ring that isn't full is there
put_there : {T E : Type 0} (r : Result T E) (P : Type 0) (level : ℕ) → IsErr r ↔ (level ≡ ring_frames) → level < ring_frames → OnOk r P → P
put_there (Ok u) P level full room put = put
put_there (Err e) P level full room put = absurd (let same : level ≡ ring_frames = full.0 refl in omega arith)

-- one number more
range_more : (a n : ℕ) → range_with_len a (suc n) ≡ range_with_len a n ++ (a + n) ∷ []
range_more a zero = (let e : a ≡ a + 0 = omega arith in ap (λ (i : ℕ). i ∷ []) e)
range_more a (suc n) =
    let e : a + 1 + n ≡ a + suc n = omega arith in
    ap (λ (xs : List ℕ). a ∷ xs) (range_more (a + 1) n ∙ ap (λ (i : ℕ). range_with_len (a + 1) n ++ i ∷ []) e)

pub length-numbered : (formed count : ℕ) → length (numbered formed count) ≡ count
length-numbered formed count = length-map (range_with_len (formed + 1) count) numbered_frame ∙ length-range_with_len (formed + 1) count

-- a number that wrapped at 32 bits on its way wraps to the same sample
pub wrapped_number : (n formed first at : ℕ) (sample : ℤ) → formed ≡ n % 2 ^ 32 → first ≡ (formed + 1) % 2 ^ 32
    → sample ≡ to_z w32 ((first + at) % 2 ^ 32) → sample ≡ wrap (pos (n + 1 + at))
wrapped_number n formed first at sample kept next is =
    let same : (first + at) % 2 ^ 32 ≡ (n + 1 + at) % 2 ^ 32 = omega arith in
    is ∙ ap (to_z w32) same ∙ sym (int_wrap-pos (n + 1 + at))

pub numbered_further : {T E : Type 0} (r : Result T E) (at count n : ℕ) (before ring after : List (List ℤ)) (frame : List ℤ)
    → ring ≡ before ++ numbered n at → length before + count ≤ ring_frames → at < count → frame ≡ numbered_frame (n + 1 + at)
    → IsErr r ↔ (length ring ≡ ring_frames) → OnOk r (after ≡ ring ++ frame ∷ []) → after ≡ before ++ numbered n (at + 1)
numbered_further r at count n before ring after frame so_far room inside is full put =
    let level : length ring ≡ length before + length (numbered n at) = ap length so_far ∙ length-append before (numbered n at) in
    let long = length-numbered n at in
    let below : length ring < ring_frames = omega arith in
    let one : at + 1 ≡ suc at = omega arith in
    put_there r (after ≡ ring ++ frame ∷ []) (length ring) full below put
    ∙ ap (λ (xs : List (List ℤ)). xs ++ frame ∷ []) so_far
    ∙ append_assoc before (numbered n at) (frame ∷ [])
    ∙ ap (λ (f : List ℤ). before ++ (numbered n at ++ f ∷ [])) is
    ∙ ap (λ (xs : List (List ℤ)). before ++ xs)
    (sym (ap (map numbered_frame) (ap (range_with_len (n + 1)) one ∙ range_more (n + 1) at) ∙ map-append numbered_frame (range_with_len (n + 1) at) ((n + 1 + at) ∷ [])))

pub zeros_further : {T E : Type 0} (r : Result T E) (at count : ℕ) (before ring after : List (List ℤ)) (frame : List ℤ)
    → (length before + count ≤ ring_frames → ring ≡ before ++ replicate at silent_frame) → at < count → frame ≡ silent_frame
    → IsErr r ↔ (length ring ≡ ring_frames) → OnOk r (after ≡ ring ++ frame ∷ []) → length before + count ≤ ring_frames
    → after ≡ before ++ replicate (at + 1) silent_frame
zeros_further r at count before ring after frame so_far inside is full put fits =
    let now : ring ≡ before ++ replicate at silent_frame = so_far fits in
    let level : length ring ≡ length before + length (replicate at silent_frame) = ap length now ∙ length-append before (replicate at silent_frame) in
    let long = length-replicate at silent_frame in
    let below : length ring < ring_frames = omega arith in
    put_there r (after ≡ ring ++ frame ∷ []) (length ring) full below put
    ∙ ap (λ (xs : List (List ℤ)). xs ++ frame ∷ []) now
    ∙ append_assoc before (replicate at silent_frame) (frame ∷ [])
    ∙ ap (λ (f : List ℤ). before ++ (replicate at silent_frame ++ f ∷ [])) is
    ∙ ap (λ (xs : List (List ℤ)). before ++ xs) (replicate-append-replicate at 1 silent_frame)
