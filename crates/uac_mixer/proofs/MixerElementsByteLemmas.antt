-- Values come back from their bytes.
use Rattle.std.proofs.Common.{◌≡◌, refl, sym, ℕ, ◌-◌, ◌*◌, ◌^◌, ◌≤◌, ◌<◌, Bool, true, false, ℤ, pos, negsuc, inl, inr, length, arith}
use Rattle.std.proofs.lemmas.Bool.{and_parts}
use Rattle.uac_request.specs.Requests.{IsWithin, value_bytes, value_from}
use Rattle.uac_request.proofs.RequestsByteLemmas.{IsWidth, length_value, value_back}
use Rattle.uac_mixer.specs.declared.kinds.ElementKind.{ElementKind}
use Rattle.uac_mixer.specs.declared.kinds.ElementKind.TheVariants as shown
use Rattle.uac_mixer.specs.MixerElements.{fits_element, is_gain, lies_in, width_of}

-- ---- widths

-- an element's control has one, two or four bytes
width_is : (k : ElementKind) → IsWidth (width_of k)
width_is shown.Rate = inr (inr refl)
width_is shown.Clock = inl refl
width_is shown.Times = inr (inl refl)
width_is shown.Over = inr (inl refl)
width_is shown.Mix = inr (inl refl)
width_is shown.Select = inl refl
width_is shown.Mute = inl refl
width_is shown.Volume = inr (inl refl)
width_is shown.Enable = inl refl

at_least_one : (w : ℕ) → IsWidth w → 1 ≤ w
at_least_one w (inl one) = omega (arith, one)
at_least_one w (inr (inl two)) = omega (arith, two)
at_least_one w (inr (inr four)) = omega (arith, four)

at_most_four : (w : ℕ) → IsWidth w → w ≤ 4
at_most_four w (inl one) = omega (arith, one)
at_most_four w (inr (inl two)) = omega (arith, two)
at_most_four w (inr (inr four)) = omega (arith, four)

-- at least one, and at most four
pub some : (k : ElementKind) → 1 ≤ width_of k
some k = at_least_one (width_of k) (width_is k)

pub few : (k : ElementKind) → width_of k ≤ 4
few k = at_most_four (width_of k) (width_is k)

-- a value has as many bytes as its control
pub whole : (k : ElementKind) (v : ℤ) → length (value_bytes (width_of k) v) ≡ width_of k
whole k v = length_value (width_of k) v

-- ---- values

-- the numbers that so many bits have are those that the bytes have, and half of them are negative where there is a sign
in_bits : (w : ℕ) → IsWidth w → 2 ^ (8 * w) ≡ 256 ^ w
in_bits w (inl one) = rw one refl
in_bits w (inr (inl two)) = rw two refl
in_bits w (inr (inr four)) = rw four refl

half_in_bits : (w : ℕ) → IsWidth w → 2 * 2 ^ (8 * w - 1) ≡ 256 ^ w
half_in_bits w (inl one) = rw one refl
half_in_bits w (inr (inl two)) = rw two refl
half_in_bits w (inr (inr four)) = rw four refl

doubled : (n half all : ℕ) → 2 * half ≡ all → n < half → 2 * n < all
doubled n half all is few = omega arith

-- a value that lies in so many bytes has a place in them
has_place : (signed : Bool) (w : ℕ) (v : ℤ) → IsWidth w → lies_in signed w v ≡ true → IsWithin signed w v
has_place true w (pos n) wide lies = doubled n (2 ^ (8 * w - 1)) (256 ^ w) (half_in_bits w wide) (grind arith)
has_place true w (negsuc n) wide lies = doubled n (2 ^ (8 * w - 1)) (256 ^ w) (half_in_bits w wide) (grind arith)
has_place false w (pos n) wide lies = (let few : n < 2 ^ (8 * w) = grind arith in rw (sym (in_bits w wide)) few)
has_place false w (negsuc n) wide lies = cc

-- a value that fits its element's control comes back
pub comes_back : (k : ElementKind) (v : ℤ) → fits_element k v ≡ true → value_from (is_gain k) (value_bytes (width_of k) v) ≡ v
comes_back k v fits =
    value_back (width_of k) (width_is k) (is_gain k) v (has_place (is_gain k) (width_of k) v (width_is k) (and_parts (lies_in (is_gain k) (width_of k) v) _ fits).0)
