-- Products, shifts and saturation, lane by lane.
use Rattle.std.proofs.Common.{◌≡◌, ◌∙◌, refl, ap, arith, ℕ, zero, suc, ◌^◌, ◌*◌, ◌≤◌, ◌<◌, ℤ, pos, negsuc, neg_ℤ, ◌*ℤ◌, ◌+ℤ◌, ◌+◌, ◌++◌, unsigned_abs, to_z, of_z, w64, w32, List, [], ◌∷◌, length, map, Bool, true, false, FitsSigned, sym, subst, slice_index, slice_index_or, ◌-◌}
use lib.Signed.{mag, shr_z, lt_z}
use mathlib.Core.Bool.{cond}
use Rattle.std.proofs.lemmas.Int.{ints, to_z-of_z}
use Rattle.std.proofs.Math.Nat.{mul-le-mul_left}
use Rattle.std.specs.Simd.Lanes.{Each1, Each2, chunk, zip2}
use Rattle.std.specs.Prelude.{replicate}
use Rattle.std.specs.List.{range_with_len}
use Rattle.std.proofs.lemmas.Simd.{Each1-weaker, Each2-of, get_or-chunk}
use Rattle.uac_gain.specs.Gain.{floor_div, nearest_in_32_bits, scaled_sample}
use Rattle.uac_units.specs.SampleLanes.{SumFits, IsGain, eight, floored_by, scaled_by}

-- a sample of 32 bits and a gain
abbrev pub Small : ℤ → ℤ → Type 0
Small s g = FitsSigned w32 s × IsGain g

back : (s : ℤ) → mag s < 2 ^ 63 → to_z w64 (of_z w64 s) ≡ s
back s h = to_z-of_z w64 s (record { sfits = h })

shifted : (z : ℤ) → shr_z z 1073741824 ≡ floor_div z (2 ^ 30)
shifted (pos n) = refl
shifted (negsuc n) = refl

floor-small : (z : ℤ) → mag z < 2 ^ 63 → mag (floor_div z (2 ^ 30)) < 2 ^ 63
floor-small (pos n) h = omega arith
floor-small (negsuc n) h = omega arith

neg-small : (p : ℕ) → p < 2 ^ 63 → mag (neg_ℤ (pos p)) < 2 ^ 63
neg-small zero h = omega arith
neg-small (suc p) h = omega arith

small-product : (s g : ℤ) → Small s g → mag (s *ℤ g) < 2 ^ 63
small-product (pos a) (pos b) h =
    let k : a * b ≤ a * 4294967295 = mul-le-mul_left a (omega (arith, ints, h.0.sfits, h.1)) in
    let small : a ≤ 2147483648 = omega (arith, ints, h.0.sfits, h.1) in
    omega arith
small-product (negsuc a) (pos b) h =
    let k : suc a * b ≤ suc a * 4294967295 = mul-le-mul_left (suc a) (omega (arith, ints, h.0.sfits, h.1)) in
    let small : suc a ≤ 2147483648 = omega (arith, ints, h.0.sfits, h.1) in
    neg-small (suc a * b) (omega arith)
small-product (pos a) (negsuc b) h = absurd (omega (arith, ints, h.0.sfits, h.1))
small-product (negsuc a) (negsuc b) h = absurd (omega (arith, ints, h.0.sfits, h.1))

small-mag : (s g : ℤ) → Small s g → (mag s < 2 ^ 63) × (mag g < 2 ^ 63)
small-mag (pos a) (pos b) h = (omega (arith, ints, h.0.sfits, h.1), omega (arith, ints, h.0.sfits, h.1))
small-mag (negsuc a) (pos b) h = (omega (arith, ints, h.0.sfits, h.1), omega (arith, ints, h.0.sfits, h.1))
small-mag (pos a) (negsuc b) h = absurd (omega (arith, ints, h.0.sfits, h.1))
small-mag (negsuc a) (negsuc b) h = absurd (omega (arith, ints, h.0.sfits, h.1))

one : (s g : ℤ) → Small s g → to_z w64 (borrow.Rule.Simd.Lanes.act2 (mir.Syntax.shr mir.Syntax.signed) (borrow.Table.Row.s_int w64) (borrow.Table.Row.s_int w64) (borrow.Table.Row.s_int w64) (borrow.Rule.Simd.Lanes.act2 (mir.Syntax.mul mir.Syntax.signed) (borrow.Table.Row.s_int w64) (borrow.Table.Row.s_int w64) (borrow.Table.Row.s_int w64) (of_z w64 s) (of_z w64 g)) 30) ≡ floored_by s g
one s g small =
    let mags = small-mag s g small in
    let fits = small-product s g small in
    ap (λ z. to_z w64 (of_z w64 (shr_z (to_z w64 (of_z w64 (z *ℤ to_z w64 (of_z w64 g)))) 1073741824))) (back s mags.0)
    ∙ ap (λ z. to_z w64 (of_z w64 (shr_z (to_z w64 (of_z w64 (s *ℤ z))) 1073741824))) (back g mags.1)
    ∙ ap (λ z. to_z w64 (of_z w64 (shr_z z 1073741824))) (back (s *ℤ g) fits)
    ∙ ap (λ z. to_z w64 (of_z w64 z)) (shifted (s *ℤ g))
    ∙ back (floor_div (s *ℤ g) (2 ^ 30)) (floor-small (s *ℤ g) fits)

-- the code's products, shifted by each lane's number
abbrev pub shifts : List ℤ → List ℤ → List ℕ → List ℤ
shifts samples gains by = map (to_z w64) (zip2 (borrow.Rule.Simd.Lanes.act2 (mir.Syntax.shr mir.Syntax.signed) (borrow.Table.Row.s_int w64) (borrow.Table.Row.s_int w64) (borrow.Table.Row.s_int w64)) (zip2 (borrow.Rule.Simd.Lanes.act2 (mir.Syntax.mul mir.Syntax.signed) (borrow.Table.Row.s_int w64) (borrow.Table.Row.s_int w64) (borrow.Table.Row.s_int w64)) (map (of_z w64) samples) (map (of_z w64) gains)) by)

pub products : (samples gains : List ℤ) → length samples ≡ length gains → Each2 Small samples gains → shifts samples gains (replicate (length samples) 30) ≡ zip2 floored_by samples gains
products [] gains same small = refl
products (s ∷ ss) [] same small = absurd (omega arith)
products (s ∷ ss) (g ∷ gs) same small =
    ap (λ z. z ∷ shifts ss gs (replicate (length ss) 30)) (one s g small.0) ∙ ap (λ zs. floored_by s g ∷ zs) (products ss gs (omega arith) small.1)

askable : (s g : ℤ) → Small s g → borrow.Rule.Simd.Lanes.Asks2 (mir.Syntax.mul mir.Syntax.signed) (borrow.Table.Row.s_int w64) (borrow.Table.Row.s_int w64) (of_z w64 s) (of_z w64 g)
askable s g small =
    let mags = small-mag s g small in
    subst (λ z. FitsSigned w64 (z *ℤ to_z w64 (of_z w64 g))) (sym (back s mags.0))
    (subst (λ z. FitsSigned w64 (s *ℤ z)) (sym (back g mags.1)) (record { sfits = small-product s g small }))

pub asked : (samples gains : List ℤ) → Each2 Small samples gains → Each2 (borrow.Rule.Simd.Lanes.Asks2 (mir.Syntax.mul mir.Syntax.signed) (borrow.Table.Row.s_int w64) (borrow.Table.Row.s_int w64)) (map (of_z w64) samples) (map (of_z w64) gains)
asked [] gains small = tt
asked (s ∷ ss) [] small = tt
asked (s ∷ ss) (g ∷ gs) small = (askable s g small.0, asked ss gs small.1)

-- ---- held to 32 bits

abbrev low-of : Bool → ℤ → ℕ
low-of b z = cond (lib.Lanes.top 63 (cond b 18446744073709551615 0)) 18446744071562067968 (of_z w64 z)

abbrev high-of : Bool → ℕ → ℕ
high-of b low = cond (lib.Lanes.top 63 (cond b 18446744073709551615 0)) low 2147483647

least-is : (z : ℤ) → lt_z z (negsuc 2147483647) ≡ true → negsuc 2147483647 ≡ nearest_in_32_bits z
least-is z e = grind (arith, ints)

most-is : (z : ℤ) → lt_z z (pos 2147483647) ≡ false → pos 2147483647 ≡ nearest_in_32_bits z
most-is z e = grind (arith, ints)

inside-is : (z : ℤ) → lt_z z (negsuc 2147483647) ≡ false → lt_z z (pos 2147483647) ≡ true → z ≡ nearest_in_32_bits z
inside-is z e f = grind (arith, ints)

clamped : (z : ℤ) → mag z < 2 ^ 63 → to_z w64 (high-of (lt_z (to_z w64 (low-of (lt_z (to_z w64 (of_z w64 z)) (negsuc 2147483647)) z)) (pos 2147483647)) (low-of (lt_z (to_z w64 (of_z w64 z)) (negsuc 2147483647)) z)) ≡ nearest_in_32_bits z
clamped z h =
    ap (λ x. to_z w64 (high-of (lt_z (to_z w64 (low-of (lt_z x (negsuc 2147483647)) z)) (pos 2147483647)) (low-of (lt_z x (negsuc 2147483647)) z))) (back z h)
    ∙ by (lt_z z (negsuc 2147483647)) refl
  where
    by_upper : (b : Bool) → lt_z z (negsuc 2147483647) ≡ false → lt_z z (pos 2147483647) ≡ b → to_z w64 (high-of b (of_z w64 z)) ≡ nearest_in_32_bits z
    by_upper true e f = back z h ∙ inside-is z e f
    by_upper false e f = most-is z f

    by : (b : Bool) → lt_z z (negsuc 2147483647) ≡ b → to_z w64 (high-of (lt_z (to_z w64 (low-of b z)) (pos 2147483647)) (low-of b z)) ≡ nearest_in_32_bits z
    by true e = least-is z e
    by false e = ap (λ x. to_z w64 (high-of (lt_z x (pos 2147483647)) (of_z w64 z))) (back z h) ∙ by_upper (lt_z z (pos 2147483647)) e refl

abbrev pub lows : List ℕ → List ℕ → List ℕ
lows bits ls = lib.Lanes.sel_l (map (lib.Lanes.top 63) (zip2 (borrow.Rule.Simd.Lanes.act2 (mir.Syntax.mask (mir.Syntax.lt mir.Syntax.signed)) (borrow.Table.Row.s_int w64) (borrow.Table.Row.s_int w64) (borrow.Table.Row.s_int w64)) bits ls)) ls bits

abbrev pub highs : List ℕ → List ℕ → List ℕ
highs bits hs = lib.Lanes.sel_l (map (lib.Lanes.top 63) (zip2 (borrow.Rule.Simd.Lanes.act2 (mir.Syntax.mask (mir.Syntax.lt mir.Syntax.signed)) (borrow.Table.Row.s_int w64) (borrow.Table.Row.s_int w64) (borrow.Table.Row.s_int w64)) bits hs)) bits hs

abbrev pub clamps : List ℤ → List ℕ → List ℕ → List ℤ
clamps xs ls hs = map (to_z w64) (highs (lows (map (of_z w64) xs) ls) hs)

pub clamped-lanes : (xs : List ℤ) → Each1 (FitsSigned w64) xs → clamps xs (replicate (length xs) 18446744071562067968) (replicate (length xs) 2147483647) ≡ map nearest_in_32_bits xs
clamped-lanes [] each = refl
clamped-lanes (x ∷ xs) each =
    ap (λ z. z ∷ clamps xs (replicate (length xs) 18446744071562067968) (replicate (length xs) 2147483647)) (clamped x each.0.sfits) ∙ ap (λ zs. nearest_in_32_bits x ∷ zs) (clamped-lanes xs each.1)

pub product_floor-fits : (samples gains : List ℤ) → Each2 Small samples gains → Each1 (FitsSigned w64) (zip2 floored_by samples gains)
product_floor-fits [] gains small = tt
product_floor-fits (s ∷ ss) [] small = tt
product_floor-fits (s ∷ ss) (g ∷ gs) small = (record { sfits = floor-small (s *ℤ g) (small-product s g small.0) }, product_floor-fits ss gs small.1)

pub small-lanes : (samples gains : List ℤ) → Each1 (FitsSigned w32) samples → Each1 IsGain gains → Each2 Small samples gains
small-lanes samples gains fits are = Each2-of (FitsSigned w32) IsGain Small (λ s g a b. (a, b)) samples gains fits are

pub nearest_in_32_bits-zip2 : (samples gains : List ℤ) → map nearest_in_32_bits (zip2 floored_by samples gains) ≡ zip2 scaled_by samples gains
nearest_in_32_bits-zip2 [] gains = refl
nearest_in_32_bits-zip2 (s ∷ ss) [] = refl
nearest_in_32_bits-zip2 (s ∷ ss) (g ∷ gs) = ap (λ zs. scaled_by s g ∷ zs) (nearest_in_32_bits-zip2 ss gs)

-- ---- vectors that are handed on

widened : (x : ℤ) → FitsSigned w32 x → FitsSigned w64 x
widened x fits = record { sfits = omega (arith, fits.sfits) }

gain-fits : (g : ℤ) → IsGain g → FitsSigned w64 g
gain-fits (pos b) h = record { sfits = omega (arith, ints, h) }
gain-fits (negsuc b) h = absurd (omega (arith, ints, h))

pub wide-lanes : (xs : List ℤ) → Each1 (FitsSigned w32) xs → Each1 (FitsSigned w64) xs
wide-lanes xs fits = Each1-weaker (FitsSigned w32) (FitsSigned w64) widened xs fits

pub handed : (xs : List ℤ) → Each1 (FitsSigned w64) xs → map (to_z w64) (map (of_z w64) xs) ≡ xs
handed [] fits = refl
handed (x ∷ xs) fits = ap (λ z. z ∷ map (to_z w64) (map (of_z w64) xs)) (back x fits.0.sfits) ∙ ap (λ zs. x ∷ zs) (handed xs fits.1)

pub handed-samples : (xs : List ℤ) → Each1 (FitsSigned w32) xs → map (to_z w64) (map (of_z w64) xs) ≡ xs
handed-samples xs fits = handed xs (wide-lanes xs fits)

pub handed-gains : (xs : List ℤ) → Each1 IsGain xs → map (to_z w64) (map (of_z w64) xs) ≡ xs
handed-gains xs are = handed xs (Each1-weaker IsGain (FitsSigned w64) gain-fits xs are)

pub nearest_in_32_bits-mag : (x : ℤ) → mag (nearest_in_32_bits x) < 2 ^ 31
nearest_in_32_bits-mag (pos n) = grind (arith, ints)
nearest_in_32_bits-mag (negsuc n) = grind (arith, ints)

pub nearest_in_32_bits-fits : (xs : List ℤ) → Each1 (FitsSigned w32) (map nearest_in_32_bits xs)
nearest_in_32_bits-fits [] = tt
nearest_in_32_bits-fits (x ∷ xs) = (record { sfits = nearest_in_32_bits-mag x }, nearest_in_32_bits-fits xs)

-- ---- samples in lanes of 32 bits

pub narrow-asked : (xs : List ℤ) → Each1 (FitsSigned w32) xs → Each1 (borrow.Rule.Simd.Lanes.Asks1 (mir.Syntax.cast mir.Syntax.signed mir.Syntax.signed w32) (borrow.Table.Row.s_int w64)) (map (of_z w64) xs)
narrow-asked [] fits = tt
narrow-asked (x ∷ xs) fits = (subst (FitsSigned w32) (sym (back x (widened x fits.0).sfits)) fits.0, narrow-asked xs fits.1)

pub narrowed : (xs : List ℤ) → Each1 (FitsSigned w32) xs
    → map (to_z w32) (map (borrow.Rule.Simd.Lanes.act1 (mir.Syntax.cast mir.Syntax.signed mir.Syntax.signed w32) (borrow.Table.Row.s_int w64) (borrow.Table.Row.s_int w32)) (map (of_z w64) xs)) ≡ xs
narrowed [] fits = refl
narrowed (x ∷ xs) fits =
    ap (λ z. to_z w32 (of_z w32 z) ∷ map (to_z w32) (map (borrow.Rule.Simd.Lanes.act1 (mir.Syntax.cast mir.Syntax.signed mir.Syntax.signed w32) (borrow.Table.Row.s_int w64) (borrow.Table.Row.s_int w32)) (map (of_z w64) xs)))
    (back x (widened x fits.0).sfits)
    ∙ ap (λ z. z ∷ map (to_z w32) (map (borrow.Rule.Simd.Lanes.act1 (mir.Syntax.cast mir.Syntax.signed mir.Syntax.signed w32) (borrow.Table.Row.s_int w64) (borrow.Table.Row.s_int w32)) (map (of_z w64) xs)))
    (to_z-of_z w32 x fits.0)
    ∙ ap (λ zs. x ∷ zs) (narrowed xs fits.1)

-- ---- sums

abs-sum : (s x : ℤ) → SumFits s → mag x < 2 ^ 31 → unsigned_abs (s +ℤ x) ≤ 2 ^ 41
abs-sum s x room fits = omega (arith, ints)

abs-mag : (s : ℤ) → unsigned_abs s ≤ 2 ^ 41 → mag s < 2 ^ 63
abs-mag (pos n) room = omega (arith, ints, room)
abs-mag (negsuc n) room = omega (arith, ints, room)

small-sum : (s x : ℤ) → SumFits s → FitsSigned w32 x → mag (s +ℤ x) < 2 ^ 63
small-sum s x room fits = abs-mag (s +ℤ x) (abs-sum s x room fits.sfits)

room-mag : (s : ℤ) → SumFits s → mag s < 2 ^ 63
room-mag s room = abs-mag s (omega (arith, room))

-- a sum with room, and a sample
abbrev pub Addable : ℤ → ℤ → Type 0
Addable s x = SumFits s × FitsSigned w32 x

pub addable-lanes : (sums samples : List ℤ) → Each1 SumFits sums → Each1 (FitsSigned w32) samples → Each2 Addable sums samples
addable-lanes sums samples room fits = Each2-of SumFits (FitsSigned w32) Addable (λ s x a b. (a, b)) sums samples room fits

add_askable : (s x : ℤ) → Addable s x → borrow.Rule.Simd.Lanes.Asks2 (mir.Syntax.add mir.Syntax.signed) (borrow.Table.Row.s_int w64) (borrow.Table.Row.s_int w64) (of_z w64 s) (of_z w64 x)
add_askable s x h =
    subst (λ z. FitsSigned w64 (z +ℤ to_z w64 (of_z w64 x))) (sym (back s (room-mag s h.0)))
    (subst (λ z. FitsSigned w64 (s +ℤ z)) (sym (back x (widened x h.1).sfits)) (record { sfits = small-sum s x h.0 h.1 }))

pub add_asked : (sums samples : List ℤ) → Each2 Addable sums samples → Each2 (borrow.Rule.Simd.Lanes.Asks2 (mir.Syntax.add mir.Syntax.signed) (borrow.Table.Row.s_int w64) (borrow.Table.Row.s_int w64)) (map (of_z w64) sums) (map (of_z w64) samples)
add_asked [] samples small = tt
add_asked (s ∷ ss) [] small = tt
add_asked (s ∷ ss) (x ∷ xs) small = (add_askable s x small.0, add_asked ss xs small.1)

-- the code's sums
abbrev pub adds : List ℤ → List ℤ → List ℤ
adds sums samples = map (to_z w64) (zip2 (borrow.Rule.Simd.Lanes.act2 (mir.Syntax.add mir.Syntax.signed) (borrow.Table.Row.s_int w64) (borrow.Table.Row.s_int w64) (borrow.Table.Row.s_int w64)) (map (of_z w64) sums) (map (of_z w64) samples))

one_sum : (s x : ℤ) → Addable s x → to_z w64 (borrow.Rule.Simd.Lanes.act2 (mir.Syntax.add mir.Syntax.signed) (borrow.Table.Row.s_int w64) (borrow.Table.Row.s_int w64) (borrow.Table.Row.s_int w64) (of_z w64 s) (of_z w64 x)) ≡ s +ℤ x
one_sum s x h =
    ap (λ z. to_z w64 (of_z w64 (z +ℤ to_z w64 (of_z w64 x)))) (back s (room-mag s h.0))
    ∙ ap (λ z. to_z w64 (of_z w64 (s +ℤ z))) (back x (widened x h.1).sfits)
    ∙ back (s +ℤ x) (small-sum s x h.0 h.1)

pub added : (sums samples : List ℤ) → Each2 Addable sums samples → adds sums samples ≡ zip2 (λ s x. s +ℤ x) sums samples
added [] samples small = refl
added (s ∷ ss) [] small = refl
added (s ∷ ss) (x ∷ xs) small = ap (λ z. z ∷ adds ss xs) (one_sum s x small.0) ∙ ap (λ zs. (s +ℤ x) ∷ zs) (added ss xs small.1)

pub added-fits : (sums samples : List ℤ) → Each2 Addable sums samples → Each1 (FitsSigned w64) (zip2 (λ s x. s +ℤ x) sums samples)
added-fits [] samples small = tt
added-fits (s ∷ ss) [] small = tt
added-fits (s ∷ ss) (x ∷ xs) small = (record { sfits = small-sum s x small.0.0 small.0.1 }, added-fits ss xs small.1)

pub room-lanes : (xs : List ℤ) → Each1 SumFits xs → Each1 (FitsSigned w64) xs
room-lanes xs room = Each1-weaker SumFits (FitsSigned w64) (λ x h. record { sfits = room-mag x h }) xs room

-- ---- lanes that are written out

-- a vector, handed on
abbrev pub given : List ℤ → List ℤ
given xs = map (to_z w64) (map (of_z w64) xs)

pub eight-same : (f g : ℕ → ℤ) → ((lane : ℕ) → f lane ≡ g lane) → eight f ≡ eight g
eight-same f g h = ap eight (λ i lane. h lane i)

pub eight-each : (P : ℤ → Type 0) (f : ℕ → ℤ) → ((lane : ℕ) → P (f lane)) → Each1 P (eight f)
eight-each P f h = (h 0, (h 1, (h 2, (h 3, (h 4, (h 5, (h 6, (h 7, tt))))))))

pub scaled_sample-eight : (xs gs : List ℤ) (f : ℕ → ℤ) (g : ℕ → ℕ) → xs ≡ eight f → gs ≡ eight (λ lane. pos (g lane)) → Each1 (FitsSigned w32) xs → Each1 IsGain gs
    → zip2 scaled_by (given xs) (given gs) ≡ eight (λ lane. scaled_sample (f lane) (g lane))
scaled_sample-eight xs gs f g e k fits are =
    ap (λ ys. zip2 scaled_by ys (given gs)) (handed-samples xs fits ∙ e) ∙ ap (λ ys. zip2 scaled_by (eight f) ys) (handed-gains gs are ∙ k)

-- ---- eights in a row

range-split : (f : ℕ → ℤ) (a n m : ℕ) → map f (range_with_len a (n + m)) ≡ map f (range_with_len a n) ++ map f (range_with_len (a + n) m)
range-split f a zero m =
    let whole : zero + m ≡ m = omega arith in
    let from : a ≡ a + zero = omega arith in
    ap (λ k. map f (range_with_len a k)) whole ∙ ap (λ k. map f (range_with_len k m)) from
range-split f a (suc n) m =
    let whole : suc n + m ≡ suc (n + m) = omega arith in
    let from : (a + 1) + n ≡ a + suc n = omega arith in
    ap (λ k. map f (range_with_len a k)) whole
    ∙ ap (λ xs. f a ∷ xs) (range-split f (a + 1) n m)
    ∙ ap (λ k. f a ∷ (map f (range_with_len (a + 1) n) ++ map f (range_with_len k m))) from

from-range : (f : ℕ → ℤ) (a b n : ℕ) → map f (range_with_len (a + b) n) ≡ map (λ lane. f (a + lane)) (range_with_len b n)
from-range f a b zero = refl
from-range f a b (suc n) =
    let next : (a + b) + 1 ≡ a + (b + 1) = omega arith in
    ap (λ k. f (a + b) ∷ map f (range_with_len k n)) next ∙ ap (λ xs. f (a + b) ∷ xs) (from-range f a (b + 1) n)

eight-range : (f : ℕ → ℤ) (a : ℕ) → map f (range_with_len a 8) ≡ eight (λ lane. f (a + lane))
eight-range f a =
    let from : a ≡ a + 0 = omega arith in
    ap (λ k. map f (range_with_len k 8)) from ∙ from-range f a 0 8

pub eight_more : (f : ℕ → ℤ) (n m : ℕ) → m ≡ n + 8 → map f (range_with_len 0 m) ≡ map f (range_with_len 0 n) ++ eight (λ lane. f (n + lane))
eight_more f n m e =
    let from : 0 + n ≡ n = omega arith in
    ap (λ k. map f (range_with_len 0 k)) e ∙ range-split f 0 n 8
    ∙ ap (λ k. map f (range_with_len 0 n) ++ map f (range_with_len k 8)) from
    ∙ ap (λ xs. map f (range_with_len 0 n) ++ xs) (eight-range f n)

pub handed-narrow : (xs : List ℤ) → Each1 (FitsSigned w32) xs → map (to_z w32) (map (of_z w32) xs) ≡ xs
handed-narrow [] fits = refl
handed-narrow (x ∷ xs) fits = ap (λ z. z ∷ map (to_z w32) (map (of_z w32) xs)) (to_z-of_z w32 x fits.0) ∙ ap (λ zs. x ∷ zs) (handed-narrow xs fits.1)

-- ---- lanes that are read from a part of a list

pub gain-lane : (gain : ℕ) → gain < 2 ^ 32 → to_z w64 gain ≡ pos gain
gain-lane gain small = to_z-of_z w64 (pos gain) (record { sfits = omega arith })

-- one gain, read from a part of the gains
pub gain-read : (part gains : List ℕ) (from apart : ℕ) → part ≡ gains → (lane place : ℕ) → place ≡ lane * apart
    → (place < from + 7 * apart + 1 - from) × (slice_index_or (chunk from (from + 7 * apart + 1 - from) part) place 0 < 2 ^ 32)
    → to_z w64 (slice_index_or (chunk from (from + 7 * apart + 1 - from) part) place 0) ≡ pos (slice_index gains (from + lane * apart))
gain-read part gains from apart e lane place at fits =
    gain-lane (slice_index_or (chunk from (from + 7 * apart + 1 - from) part) place 0) fits.1
    ∙ ap pos (get_or-chunk from (from + 7 * apart + 1 - from) part place 0 fits.0)
    ∙ ap (λ k. pos (slice_index_or part (from + k) 0)) at
    ∙ ap (λ xs. pos (slice_index xs (from + lane * apart))) e

-- the code's sample in a lane of 64 bits
abbrev pub lane-of : ℤ → ℤ
lane-of s = to_z w64 (of_z w64 (to_z w32 (of_z w32 s)))

pub lane-is : (s : ℤ) → FitsSigned w32 s → lane-of s ≡ s
lane-is s fits = ap (λ z. to_z w64 (of_z w64 z)) (to_z-of_z w32 s fits) ∙ back s (widened s fits).sfits

-- one input, read from a part of the inputs
pub input-read : (part inputs : List ℤ) (from : ℕ) → part ≡ inputs → (lane : ℕ)
    → (lane < from + 8 - from) × FitsSigned w32 (slice_index_or (chunk from (from + 8 - from) part) lane (pos 0))
    → lane-of (slice_index_or (chunk from (from + 8 - from) part) lane (pos 0)) ≡ slice_index_or inputs (from + lane) (pos 0)
input-read part inputs from e lane fits =
    lane-is (slice_index_or (chunk from (from + 8 - from) part) lane (pos 0)) fits.1
    ∙ get_or-chunk from (from + 8 - from) part lane (pos 0) fits.0
    ∙ ap (λ xs. slice_index_or xs (from + lane) (pos 0)) e
