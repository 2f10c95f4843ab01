-- What a meter's value is bounded by.
use Rattle.std.proofs.Common.{◌≡◌, ap, arith, ℕ, ◌+◌, ◌^◌, ◌<◌, ◌≤◌, if◌then◌else◌, max, ℤ, pos, List, [], ◌∷◌, count_by, get_or, length, unsigned_abs}
use Rattle.std.specs.List.{sum_by}
use Rattle.uac_units.specs.declared.meter.MeterKind.{MeterKind}
use Rattle.uac_units.specs.declared.meter.MeterKind.TheVariants.{Peak, Clipped, Sum}
use Rattle.uac_units.specs.Hearing.{Reading, after_hearing, value_after_hearing, is_clipped, peak_of}

pub value_after_hearing-rises : (kind : MeterKind) (value : ℕ) (frame : List ℤ) → value < 2 ^ 64 → value ≤ value_after_hearing kind value frame
value_after_hearing-rises Peak value frame h = omega arith
value_after_hearing-rises Clipped value frame h = omega arith
value_after_hearing-rises Sum value frame h = omega arith

pub value_after_hearing-fits : (kind : MeterKind) (value : ℕ) (frame : List ℤ) → value_after_hearing kind value frame < 2 ^ 64
value_after_hearing-fits Peak value frame = omega arith
value_after_hearing-fits Clipped value frame = omega arith
value_after_hearing-fits Sum value frame = omega arith

-- frames may be heard in any order
value-commutes : (kind : MeterKind) (value : ℕ) (frame other : List ℤ)
    → value_after_hearing kind (value_after_hearing kind value other) frame ≡ value_after_hearing kind (value_after_hearing kind value frame) other
value-commutes Peak value frame other = omega arith
value-commutes Clipped value frame other = omega arith
value-commutes Sum value frame other = omega arith

pub after_hearing-commutes : (frame other : List ℤ) (reading : Reading) → after_hearing frame (after_hearing other reading) ≡ after_hearing other (after_hearing frame reading)
unfolding after_hearing
after_hearing-commutes frame other reading =
    ap (λ (v : ℕ). record { kind = reading.kind; value = v }) (value-commutes reading.kind reading.value frame other)

-- ---- frames of two samples

pub two_peak : (xs : List ℤ) → length xs ≡ 2 → max (unsigned_abs (get_or xs 0 (pos 0))) (unsigned_abs (get_or xs 1 (pos 0))) ≡ peak_of xs
two_peak (x ∷ y ∷ []) two = omega arith
two_peak [] two = absurd (omega (arith, two))
two_peak (x ∷ []) two = absurd (omega (arith, two))
two_peak (x ∷ y ∷ z ∷ xs) two = absurd (omega (arith, two))

pub two_clipped : (xs : List ℤ) → length xs ≡ 2
    → (if is_clipped (get_or xs 0 (pos 0)) then 1 else 0) + (if is_clipped (get_or xs 1 (pos 0)) then 1 else 0) ≡ count_by is_clipped xs
two_clipped (x ∷ y ∷ []) two = omega arith
two_clipped [] two = absurd (omega (arith, two))
two_clipped (x ∷ []) two = absurd (omega (arith, two))
two_clipped (x ∷ y ∷ z ∷ xs) two = absurd (omega (arith, two))

pub two_added : (xs : List ℤ) → length xs ≡ 2 → unsigned_abs (get_or xs 0 (pos 0)) + unsigned_abs (get_or xs 1 (pos 0)) ≡ sum_by unsigned_abs xs
two_added (x ∷ y ∷ []) two = omega arith
two_added [] two = absurd (omega (arith, two))
two_added (x ∷ []) two = absurd (omega (arith, two))
two_added (x ∷ y ∷ z ∷ xs) two = absurd (omega (arith, two))

-- ---- frames of one

pub one_peak : (xs : List ℤ) → length xs ≡ 1 → unsigned_abs (get_or xs 0 (pos 0)) ≡ peak_of xs
one_peak (x ∷ []) one = omega arith
one_peak [] one = absurd (omega (arith, one))
one_peak (x ∷ y ∷ xs) one = absurd (omega (arith, one))

pub one_clipped : (xs : List ℤ) → length xs ≡ 1 → (if is_clipped (get_or xs 0 (pos 0)) then 1 else 0) ≡ count_by is_clipped xs
one_clipped (x ∷ []) one = omega arith
one_clipped [] one = absurd (omega (arith, one))
one_clipped (x ∷ y ∷ xs) one = absurd (omega (arith, one))

pub one_added : (xs : List ℤ) → length xs ≡ 1 → unsigned_abs (get_or xs 0 (pos 0)) ≡ sum_by unsigned_abs xs
one_added (x ∷ []) one = omega arith
one_added [] one = absurd (omega (arith, one))
one_added (x ∷ y ∷ xs) one = absurd (omega (arith, one))
