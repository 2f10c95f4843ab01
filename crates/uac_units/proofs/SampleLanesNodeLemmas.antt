-- The nodes of a mixer in lanes: what the bits of all gains together tell of each, and what each makes of a sample.
use Rattle.std.proofs.Common.{◌≡◌, ◌∙◌, refl, ap, arith, ℕ, zero, suc, ◌^◌, ◌*◌, ◌%◌, ◌/◌, ◌≤◌, ◌<◌, ℤ, pos, negsuc, neg_ℤ, ◌+ℤ◌, to_z, of_z, w64, w32, List, [], ◌∷◌, length, map, replicate, Bool, true, false, cond, eqb, eqb-true, Fits, FitsSigned, sym, subst, bit_or, ◌+◌}
use lib.Signed.{mag}
use Rattle.std.proofs.lemmas.Bool.{eqb-false}
use Rattle.std.proofs.lemmas.Int.{ints, to_z-of_z}
use Rattle.std.proofs.lemmas.Nat.{le_or_l, le_or_r, or_mod}
use Rattle.std.proofs.Math.Nat.{mul-le-mul_left}
use Rattle.std.specs.Simd.Lanes.{Each1, zip2, fold_l, sel_l}
use Rattle.uac_gain.specs.Gain.{floor_div, product_floor, nearest_in_32_bits, scaled_sample}
use Rattle.uac_units.specs.SampleLanes.{IsGain, floored_by, scaled_by, together}
use Rattle.uac_units.proofs.SampleLanesLemmas.{gain-lane, lane-is, lane-of, nearest_in_32_bits-mag}

-- ---- the bits of all gains together

fold-below : (n bits : ℕ) (gains : List ℕ) → fold_l bit_or bits gains ≤ n → (bits ≤ n) × Each1 (λ gain. gain ≤ n) gains
fold-below n bits [] h = (h, tt)
fold-below n bits (g ∷ gs) h =
    let rest = fold-below n (bit_or bits g) gs h in
    (omega (arith, rest.0, le_or_l bits g), (omega (arith, rest.0, le_or_r bits g), rest.1))

-- no gain is above the bits of all together
pub each-below : (n : ℕ) (gains : List ℕ) → together gains ≤ n → Each1 (λ gain. gain ≤ n) gains
each-below n gains h = (fold-below n 0 gains h).1

-- a gain of 0 decibels, or silence
abbrev pub IsWhole : ℕ → Type 0
IsWhole gain = (gain ≤ 1073741824) × (gain % 1073741824 ≡ 0)

parts-of-or : (a b : ℕ) → IsWhole (bit_or a b) → IsWhole a × IsWhole b
parts-of-or a b h =
    let none : bit_or (a % 2 ^ 30) (b % 2 ^ 30) ≡ 0 = sym (or_mod a b 30) ∙ h.1 in
    let first : a % 2 ^ 30 ≤ 0 = omega (arith, none, le_or_l (a % 2 ^ 30) (b % 2 ^ 30)) in
    let second : b % 2 ^ 30 ≤ 0 = omega (arith, none, le_or_r (a % 2 ^ 30) (b % 2 ^ 30)) in
    ((omega (arith, h.0, le_or_l a b), omega (arith, first)), (omega (arith, h.0, le_or_r a b), omega (arith, second)))

fold-whole : (bits : ℕ) (gains : List ℕ) → IsWhole (fold_l bit_or bits gains) → IsWhole bits × Each1 IsWhole gains
fold-whole bits [] h = (h, tt)
fold-whole bits (g ∷ gs) h =
    let rest = fold-whole (bit_or bits g) gs h in
    let parts = parts-of-or bits g rest.0 in
    (parts.0, (parts.1, rest.1))

pub each-whole : (gains : List ℕ) → together gains ≡ 1073741824 → Each1 IsWhole gains
each-whole gains e = (fold-whole 0 gains (subst IsWhole (sym e) (omega arith, omega arith))).1

-- ---- what a gain makes of a sample

pub silent : (s : ℤ) (gain : ℕ) → gain ≡ 0 → scaled_sample s gain ≡ pos 0
silent (pos a) gain e =
    let none : a * 0 ≡ 0 = omega arith in
    ap (scaled_sample (pos a)) e ∙ ap (λ p. nearest_in_32_bits (floor_div (pos p) (2 ^ 30))) none
silent (negsuc a) gain e =
    let none : suc a * 0 ≡ 0 = omega arith in
    ap (scaled_sample (negsuc a)) e ∙ ap (λ p. nearest_in_32_bits (floor_div (neg_ℤ (pos p)) (2 ^ 30))) none

kept : (z : ℤ) → mag z < 2 ^ 31 → nearest_in_32_bits z ≡ z
kept z h = grind (arith, ints)

product_floor-below : (a p : ℕ) → p ≤ suc a * 1073741824 → suc a ≤ 2147483648 → mag (floor_div (neg_ℤ (pos p)) (2 ^ 30)) < 2 ^ 31
product_floor-below a zero h k = omega arith
product_floor-below a (suc p) h k = omega arith

product_floor-fits : (s : ℤ) (gain : ℕ) → FitsSigned w32 s → gain ≤ 1073741824 → mag (product_floor s gain) < 2 ^ 31
product_floor-fits (pos a) gain fits low =
    let k : a * gain ≤ a * 1073741824 = mul-le-mul_left a low in
    let small : a < 2147483648 = omega (arith, ints, fits.sfits) in
    omega arith
product_floor-fits (negsuc a) gain fits low =
    let k : suc a * gain ≤ suc a * 1073741824 = mul-le-mul_left (suc a) low in
    let small : suc a ≤ 2147483648 = omega (arith, ints, fits.sfits) in
    product_floor-below a (suc a * gain) k small

-- a gain of at most 0 decibels leaves no sample to be held to 32 bits
pub low-scaled_sample : (s : ℤ) (gain : ℕ) → FitsSigned w32 s → gain ≤ 1073741824 → product_floor s gain ≡ scaled_sample s gain
low-scaled_sample s gain fits low = sym (kept (product_floor s gain) (product_floor-fits s gain fits low))

unchanged : (s : ℤ) → FitsSigned w32 s → scaled_sample s 1073741824 ≡ s
unchanged (pos a) fits =
    let same : a * 1073741824 / 1073741824 ≡ a = omega arith in
    sym (low-scaled_sample (pos a) 1073741824 fits (omega arith)) ∙ ap pos same
unchanged (negsuc a) fits =
    let whole : suc a * 1073741824 ≡ suc (a * 1073741824 + 1073741823) = omega arith in
    let same : (a * 1073741824 + 1073741823) / 1073741824 ≡ a = omega arith in
    sym (low-scaled_sample (negsuc a) 1073741824 fits (omega arith)) ∙ ap (λ p. floor_div (neg_ℤ (pos p)) (2 ^ 30)) whole ∙ ap negsuc same

-- ---- samples that are kept or left out

widened : (x : ℤ) → FitsSigned w32 x → to_z w64 (of_z w64 x) ≡ x
widened x fits = to_z-of_z w64 x (record { sfits = omega (arith, fits.sfits) })

-- the code's choice in one lane: the sample where the gain is 0 decibels, and else silence
abbrev pub choice : Bool → ℤ → ℤ
choice same s = to_z w64 (of_z w64 (to_z w32 (cond (lib.Lanes.top 31 (cond same 4294967295 0)) (of_z w32 s) 0)))

one-choice : (s : ℤ) (gain : ℕ) → FitsSigned w32 s → IsWhole gain → choice (eqb gain 1073741824) s ≡ scaled_sample s gain
one-choice s gain fits whole = by (eqb gain 1073741824) refl
  where
    by : (same : Bool) → eqb gain 1073741824 ≡ same → choice same s ≡ scaled_sample s gain
    by true e =
        let is : 1073741824 ≡ gain = sym (eqb-true _ _ e) in
        ap (λ z. to_z w64 (of_z w64 z)) (to_z-of_z w32 s fits) ∙ widened s fits ∙ sym (unchanged s fits) ∙ ap (scaled_sample s) is
    by false e =
        let other = eqb-false _ _ e in
        let none : gain ≡ 0 = grind (arith, other, whole.0, whole.1) in
        sym (silent s gain none)

abbrev pub choices : List ℕ → List ℕ → List ℕ → List ℕ → List ℤ
choices gains units samples silences =
    map (to_z w64) (map (borrow.Rule.Simd.Lanes.act1 (mir.Syntax.cast mir.Syntax.signed mir.Syntax.signed w64) (borrow.Table.Row.s_int w32) (borrow.Table.Row.s_int w64))
    (sel_l (map (lib.Lanes.top (mir.Val.hbits w32)) (zip2 (borrow.Rule.Simd.Lanes.act2 (mir.Syntax.mask mir.Syntax.eq) (borrow.Table.Row.s_int w32) (borrow.Table.Row.s_int w32) (borrow.Table.Row.s_int w32)) gains units)) samples silences))

abbrev pub choices-of : List ℕ → ℤ → ℕ → List ℤ
choices-of gains s n = choices gains (replicate n 1073741824) (replicate n (of_z w32 s)) (replicate n 0)

pub chosen : (gains : List ℕ) (s : ℤ) → FitsSigned w32 s → Each1 IsWhole gains → choices-of gains s (length gains) ≡ map (scaled_sample s) gains
chosen [] s fits whole = refl
chosen (g ∷ gs) s fits whole =
    ap (λ z. z ∷ choices-of gs s (length gs)) (one-choice s g fits whole.0) ∙ ap (λ zs. scaled_sample s g ∷ zs) (chosen gs s fits whole.1)

pub scaled_sample-fits : (s : ℤ) (gains : List ℕ) → Each1 (FitsSigned w32) (map (scaled_sample s) gains)
scaled_sample-fits s [] = tt
scaled_sample-fits s (g ∷ gs) = (record { sfits = nearest_in_32_bits-mag (product_floor s g) }, scaled_sample-fits s gs)

-- ---- gains as lanes of 64 bits

abbrev pub wide : List ℕ → List ℤ
wide gains = map (to_z w64) (map (borrow.Rule.Simd.Lanes.act1 (mir.Syntax.cast mir.Syntax.unsigned mir.Syntax.signed w64) (borrow.Table.Row.s_int w32) (borrow.Table.Row.s_int w64)) gains)

pub wide-is : (gains : List ℕ) → Each1 (Fits w32) gains → wide gains ≡ map pos gains
wide-is [] fits = refl
wide-is (g ∷ gs) fits = ap (λ z. z ∷ wide gs) (gain-lane g fits.0.fits) ∙ ap (λ zs. pos g ∷ zs) (wide-is gs fits.1)

pub wide-asked : (gains : List ℕ) → Each1 (Fits w32) gains → Each1 (borrow.Rule.Simd.Lanes.Asks1 (mir.Syntax.cast mir.Syntax.unsigned mir.Syntax.signed w64) (borrow.Table.Row.s_int w32)) gains
wide-asked [] fits = tt
wide-asked (g ∷ gs) fits = (record { sfits = omega (arith, fits.0.fits) }, wide-asked gs fits.1)

-- the same by way of 32 bits
abbrev pub low : List ℕ → List ℤ
low gains = map (to_z w64) (map (borrow.Rule.Simd.Lanes.act1 (mir.Syntax.cast mir.Syntax.signed mir.Syntax.signed w64) (borrow.Table.Row.s_int w32) (borrow.Table.Row.s_int w64))
    (map (borrow.Rule.Simd.Lanes.act1 (mir.Syntax.cast mir.Syntax.unsigned mir.Syntax.signed w32) (borrow.Table.Row.s_int w32) (borrow.Table.Row.s_int w32)) gains))

low-bits : (gain : ℕ) → gain < 1073741824 → to_z w64 (of_z w64 (to_z w32 gain)) ≡ pos gain
low-bits gain small = ap (λ z. to_z w64 (of_z w64 z)) (to_z-of_z w32 (pos gain) (record { sfits = omega arith })) ∙ gain-lane gain (omega arith)

pub low-is : (gains : List ℕ) → Each1 (λ gain. gain < 1073741824) gains → low gains ≡ map pos gains
low-is [] small = refl
low-is (g ∷ gs) small = ap (λ z. z ∷ low gs) (low-bits g small.0) ∙ ap (λ zs. pos g ∷ zs) (low-is gs small.1)

pub are-gains : (gains : List ℕ) → Each1 (Fits w32) gains → Each1 IsGain (map pos gains)
are-gains [] fits = tt
are-gains (g ∷ gs) fits = ((omega (arith, ints), omega (arith, ints, fits.0.fits)), are-gains gs fits.1)

-- ---- products of one sample

pub scaled_sample-lanes : (s : ℤ) (gains : List ℕ) → zip2 scaled_by (replicate (length gains) s) (map pos gains) ≡ map (scaled_sample s) gains
scaled_sample-lanes s [] = refl
scaled_sample-lanes s (g ∷ gs) = ap (λ zs. scaled_sample s g ∷ zs) (scaled_sample-lanes s gs)

pub low-lanes : (s : ℤ) (gains : List ℕ) → FitsSigned w32 s → Each1 (λ gain. gain < 1073741824) gains → zip2 floored_by (replicate (length gains) s) (map pos gains) ≡ map (scaled_sample s) gains
low-lanes s [] fits small = refl
low-lanes s (g ∷ gs) fits small =
    ap (λ z. z ∷ zip2 floored_by (replicate (length gs) s) (map pos gs)) (low-scaled_sample s g fits (omega (arith, small.0)))
    ∙ ap (λ zs. scaled_sample s g ∷ zs) (low-lanes s gs fits small.1)

-- ---- sums

pub silent-sums : (sums : List ℤ) (s : ℤ) (gains : List ℕ) → length sums ≡ length gains → Each1 (λ gain. gain ≤ 0) gains
    → sums ≡ zip2 (λ sum gain. sum +ℤ scaled_sample s gain) sums gains
silent-sums [] s gains same none = refl
silent-sums (x ∷ xs) s [] same none = absurd (omega arith)
silent-sums (x ∷ xs) s (g ∷ gs) same none =
    let zero-gain : g ≡ 0 = omega (arith, none.0) in
    let unmoved : x ≡ x +ℤ pos 0 = omega (arith, ints) in
    ap (λ zs. x ∷ zs) (silent-sums xs s gs (omega arith) none.1)
    ∙ ap (λ z. z ∷ zip2 (λ sum gain. sum +ℤ scaled_sample s gain) xs gs) (unmoved ∙ ap (λ z. x +ℤ z) (sym (silent s g zero-gain)))

pub more-sums : (sums : List ℤ) (s : ℤ) (gains : List ℕ) → zip2 (λ sum sample. sum +ℤ sample) sums (map (scaled_sample s) gains) ≡ zip2 (λ sum gain. sum +ℤ scaled_sample s gain) sums gains
more-sums [] s gains = refl
more-sums (x ∷ xs) s [] = refl
more-sums (x ∷ xs) s (g ∷ gs) = ap (λ zs. (x +ℤ scaled_sample s g) ∷ zs) (more-sums xs s gs)

pub wide-products : (s : ℤ) (gains : List ℕ) → FitsSigned w32 s → length gains ≡ 8 → Each1 (Fits w32) gains → zip2 scaled_by (replicate 8 (lane-of s)) (wide gains) ≡ map (scaled_sample s) gains
wide-products s gains fits long small =
    ap (λ z. zip2 scaled_by (replicate 8 z) (wide gains)) (lane-is s fits)
    ∙ ap (λ n. zip2 scaled_by (replicate n s) (wide gains)) (sym long)
    ∙ ap (λ gs. zip2 scaled_by (replicate (length gains) s) gs) (wide-is gains small)
    ∙ scaled_sample-lanes s gains

pub low-products : (s : ℤ) (gains : List ℕ) → FitsSigned w32 s → length gains ≡ 8 → Each1 (λ gain. gain < 1073741824) gains
    → zip2 floored_by (replicate 8 (lane-of s)) (low gains) ≡ map (scaled_sample s) gains
low-products s gains fits long small =
    ap (λ z. zip2 floored_by (replicate 8 z) (low gains)) (lane-is s fits)
    ∙ ap (λ n. zip2 floored_by (replicate n s) (low gains)) (sym long)
    ∙ ap (λ gs. zip2 floored_by (replicate (length gains) s) gs) (low-is gains small)
    ∙ low-lanes s gains fits small
