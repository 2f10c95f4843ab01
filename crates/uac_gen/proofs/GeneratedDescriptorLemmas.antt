-- The descriptor's bytes: the units in a row, their size, and the totals.
use Rattle.std.proofs.Common.{◌≡◌, ℕ, zero, suc, ◌+◌, ◌*◌, ◌%◌, ◌==◌, List, [], ◌∷◌, ◌++◌, map, length, flat_map, refl, ap, sym, ◌∙◌, inl, inr, arith, length-append, add-one, zero-add, append_assoc}
use Rattle.std.specs.List.{range_with_len}
use Rattle.std.proofs.lemmas.Bool.{cond-true, cond-false, ne_eqb, cases_lt}
use Rattle.std.proofs.lemmas.Grind.{flat_map-append, common_steps}
use Rattle.uac_descriptor.specs.Spelling.{spelling}
use Rattle.uac_gen.specs.GeneratedDescriptor.{unit_at, units_of, speaker, stream_blocks, front_blocks, blocks_with, control_total, whole_total, descriptor_of}

-- ---- one unit

pub feature_bytes : (d : ℕ) → d % 2 ≡ 0 → spelling (unit_at d) ≡ 18 ∷ 36 ∷ 6 ∷ (d + 3) ∷ (d + 2) ∷ 3 ∷ 0 ∷ 0 ∷ 0 ∷ 12 ∷ 0 ∷ 0 ∷ 0 ∷ 12 ∷ 0 ∷ 0 ∷ 0 ∷ 0 ∷ []
unfolding spelling
feature_bytes d even = ap spelling (cond-true (d % 2 == 0) _ _ (ap (λ n. n == 0) even))

pub mixer_bytes : (d : ℕ) → (d % 2 ≡ 0 → ⊥) → spelling (unit_at d) ≡ 16 ∷ 36 ∷ 4 ∷ (d + 3) ∷ 2 ∷ (d + 2) ∷ (d + 2) ∷ 2 ∷ 3 ∷ 0 ∷ 0 ∷ 0 ∷ 0 ∷ 255 ∷ 0 ∷ 0 ∷ []
unfolding spelling
mixer_bytes d odd = ap spelling (cond-false (d % 2 == 0) _ _ (ne_eqb (d % 2) 0 odd))

unit_size : (d : ℕ) → length (spelling (unit_at d)) + d % 2 ≡ 17 + (d + 1) % 2
unit_size d = elim (cases_lt 0 (d % 2)) [
  | inl odd ↦ let size : length (spelling (unit_at d)) ≡ 16 = ap length (mixer_bytes d (λ e. omega arith)) in omega arith
  | inr even ↦ let size : length (spelling (unit_at d)) ≡ 18 = ap length (feature_bytes d (omega arith)) in omega arith
]

-- ---- the units in a row

units_size : (first count : ℕ) → length (flat_map spelling (map unit_at (range_with_len first count))) + first % 2 ≡ 17 * count + (first + count) % 2
units_size first zero = omega arith
units_size first (suc count) =
    let one = unit_size first in
    let more = units_size (first + 1) count in
    let both = length-append (spelling (unit_at first)) (flat_map spelling (map unit_at (range_with_len (first + 1) count))) in
    omega (arith, one, more, both)

range_more : (first count : ℕ) → range_with_len first (suc count) ≡ range_with_len first count ++ (first + count) ∷ []
range_more first zero = ap (λ n. n ∷ []) (omega arith)
range_more first (suc count) =
    let same : first + 1 + count ≡ first + suc count = omega arith in
    ap (λ ns. first ∷ ns) (range_more (first + 1) count ∙ ap (λ n. range_with_len (first + 1) count ++ n ∷ []) same)

map_more : {A B : Type 0} (f : A → B) (xs : List A) (x : A) → map f (xs ++ x ∷ []) ≡ map f xs ++ f x ∷ []
map_more f [] x = refl
map_more f (y ∷ xs) x = ap (λ ys. f y ∷ ys) (map_more f xs x)

-- one unit more
pub units_more : (d : ℕ) → flat_map spelling (units_of (d + 1)) ≡ flat_map spelling (units_of d) ++ spelling (unit_at d)
units_more d =
    let next : units_of (d + 1) ≡ units_of d ++ unit_at d ∷ [] =
    ap (λ n. units_of n) (add-one d) ∙ ap (map unit_at) (range_more 0 d ∙ ap (λ n. range_with_len 0 d ++ n ∷ []) (zero-add d)) ∙ map_more unit_at (range_with_len 0 d) d in
    let last : flat_map spelling (unit_at d ∷ []) ≡ spelling (unit_at d) = grind (arith, common_steps) in
    ap (flat_map spelling) next ∙ flat_map-append spelling (units_of d) (unit_at d ∷ []) ∙ ap (λ bytes. flat_map spelling (units_of d) ++ bytes) last

-- ---- the whole

abbrev pub output_bytes : ℕ → List ℕ
output_bytes count = 12 ∷ 36 ∷ 3 ∷ (count + 3) ∷ 1 ∷ 3 ∷ 0 ∷ (count + 2) ∷ 1 ∷ 0 ∷ 0 ∷ 0 ∷ []

abbrev pub stream_bytes : List ℕ
stream_bytes =
    9 ∷ 4 ∷ 1 ∷ 0 ∷ 0 ∷ 1 ∷ 2 ∷ 32 ∷ 0
    ∷ 9 ∷ 4 ∷ 1 ∷ 1 ∷ 2 ∷ 1 ∷ 2 ∷ 32 ∷ 0
    ∷ 16 ∷ 36 ∷ 1 ∷ 2 ∷ 5 ∷ 1 ∷ 1 ∷ 0 ∷ 0 ∷ 0 ∷ 2 ∷ 3 ∷ 0 ∷ 0 ∷ 0 ∷ 0
    ∷ 6 ∷ 36 ∷ 2 ∷ 1 ∷ 3 ∷ 24
    ∷ 7 ∷ 5 ∷ 1 ∷ 5 ∷ 150 ∷ 0 ∷ 1
    ∷ 8 ∷ 37 ∷ 1 ∷ 0 ∷ 0 ∷ 0 ∷ 0 ∷ 0
    ∷ 7 ∷ 5 ∷ 129 ∷ 17 ∷ 4 ∷ 0 ∷ 4 ∷ []

after_units : (count : ℕ) → flat_map spelling (speaker count ∷ stream_blocks) ≡ output_bytes count ++ stream_bytes
unfolding spelling
after_units count = refl

front_size : (total control : ℕ) → length (flat_map spelling (front_blocks total control)) ≡ 60
unfolding spelling
front_size total control = refl

-- the bytes of all blocks, with any totals
all_bytes : (total control count : ℕ)
    → flat_map spelling (blocks_with total control count) ≡ ((flat_map spelling (front_blocks total control) ++ flat_map spelling (units_of count)) ++ output_bytes count) ++ stream_bytes
all_bytes total control count =
    let front = flat_map spelling (front_blocks total control) in
    let units = flat_map spelling (units_of count) in
    let rest = output_bytes count ++ stream_bytes in
    flat_map-append spelling (front_blocks total control) (units_of count ++ speaker count ∷ stream_blocks)
    ∙ ap (λ bytes. front ++ bytes) (flat_map-append spelling (units_of count) (speaker count ∷ stream_blocks) ∙ ap (λ bytes. units ++ bytes) (after_units count))
    ∙ sym (append_assoc front units rest)
    ∙ sym (append_assoc (front ++ units) (output_bytes count) stream_bytes)

-- the totals
control_size : (count : ℕ) → control_total count ≡ 46 + 17 * count + count % 2
unfolding spelling
control_size count =
    let units = units_size 0 count in
    let last : length (flat_map spelling (speaker count ∷ [])) ≡ 12 = refl in
    let both : length (flat_map spelling (units_of count ++ speaker count ∷ [])) ≡ length (flat_map spelling (units_of count)) + 12 =
    ap length (flat_map-append spelling (units_of count) (speaker count ∷ [])) ∙ length-append (flat_map spelling (units_of count)) (flat_map spelling (speaker count ∷ [])) in
    omega (arith, units, both)

whole_size : (count : ℕ) → whole_total count ≡ 134 + 17 * count + count % 2
whole_size count =
    let front = flat_map spelling (front_blocks 0 0) in
    let units = flat_map spelling (units_of count) in
    let all = ap length (all_bytes 0 0 count) in
    let stream : length stream_bytes ≡ 62 = refl in
    let last : length (output_bytes count) ≡ 12 = refl in
    omega (arith, units_size 0 count, all, front_size 0 0, length-append front units, length-append (front ++ units) (output_bytes count), length-append ((front ++ units) ++ output_bytes count) stream_bytes)

-- the descriptor, as it is put together
pub descriptor_is : (total control count : ℕ) → total ≡ 134 + 17 * count + count % 2 → control ≡ 46 + 17 * count + count % 2
    → ((flat_map spelling (front_blocks total control) ++ flat_map spelling (units_of count)) ++ output_bytes count) ++ stream_bytes ≡ descriptor_of count
unfolding descriptor_of
descriptor_is total control count total-is control-is =
    sym (all_bytes total control count)
    ∙ ap (λ t. flat_map spelling (blocks_with t control count)) (total-is ∙ sym (whole_size count))
    ∙ ap (λ t. flat_map spelling (blocks_with (whole_total count) t count)) (control-is ∙ sym (control_size count))
