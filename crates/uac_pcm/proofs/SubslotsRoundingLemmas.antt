-- Signed numbers rounded down to a multiple of a unit.
use Rattle.std.proofs.Common.{◌≡◌, ℕ, zero, suc, ◌+◌, ◌-◌, ◌*◌, ◌/◌, ◌%◌, ◌<◌, ◌≤◌, ℤ, pos, negsuc, ◌*ℤ◌, neg_ℤ, FitsSigned, to_z, of_z, w32, arith, ap, ◌∙◌, sym}
use Rattle.std.proofs.Math.Nat.{add-mul, div-mul-le_self, div-add-mod', mod-eq_of_lt, mod-lt, mul-le-mul_right, mul_assoc, mul-div_cancel, mul-pos, suc-mul, le-mul_of_pos_right}
use Rattle.std.proofs.lemmas.Int.{to_z_pos, to_z-of_z}
use Rattle.std.proofs.lemmas.Nat.{div_below, div-mul-add}
use lib.Signed.{shr_z}
use Rattle.uac_pcm.specs.Subslots.{floor_of, modulo}

-- the multiple above a number is at most a bound that is a multiple too
multiple_above-le : (a unit parts bound : ℕ) → 0 < unit → parts * unit ≡ bound → a < bound → suc (a / unit) * unit ≤ bound
multiple_above-le a unit parts bound some e small =
    let below : a < parts * unit = omega arith in
    let quotient : a / unit < parts = div_below a unit parts some below in
    let scaled : suc (a / unit) * unit ≤ parts * unit = mul-le-mul_right unit quotient in
    omega arith

-- a number from 1 to 2^31 taken from 2^32 is its negative
to_z-complement : (n : ℕ) → 0 < n → n ≤ 2147483648 → to_z w32 (4294967296 - n) ≡ neg_ℤ (pos n)
to_z-complement zero some small = absurd (omega arith)
to_z-complement (suc m) some small = to_z-of_z w32 (negsuc m) (record { sfits = omega arith })

-- what is left of a product with a number taken from 2^32
complement-mul : (q unit : ℕ) → 0 < unit → suc q * unit ≤ 2147483648 → (4294967296 - suc q) * unit % 4294967296 ≡ 4294967296 - suc q * unit
complement-mul q zero some small = absurd (omega arith)
complement-mul q (suc u) some small =
    let one : suc q ≤ suc q * suc u = le-mul_of_pos_right (suc q) (omega arith) in
    let whole : (4294967296 - suc q + suc q) * suc u ≡ (4294967296 - suc q) * suc u + suc q * suc u = add-mul (4294967296 - suc q) (suc q) (suc u) in
    let all : 4294967296 - suc q + suc q ≡ 4294967296 = omega arith in
    let total : (4294967296 - suc q) * suc u + suc q * suc u ≡ 4294967296 * suc u = sym whole ∙ ap (λ (n : ℕ). n * suc u) all in
    omega arith

-- a shift down and up again, in 32 bits, rounds down to a multiple of the unit
shifts : (s : ℤ) (unit parts : ℕ) → 0 < unit → parts * unit ≡ 2147483648 → FitsSigned w32 s
    → to_z w32 (of_z w32 (shr_z s unit) * unit % 4294967296) ≡ floor_of s unit *ℤ pos unit
shifts (pos a) unit parts some e fits =
    let below : a / unit * unit ≤ a = div-mul-le_self a unit in
    let small : a < 2147483648 = fits.sfits in
    let kept : a / unit * unit % 4294967296 ≡ a / unit * unit = mod-eq_of_lt (omega arith) in
    ap (to_z w32) kept ∙ to_z_pos w32 (a / unit * unit) (omega arith)
shifts (negsuc a) unit parts some e fits =
    let above : suc (a / unit) * unit ≤ 2147483648 = multiple_above-le a unit parts 2147483648 some e fits.sfits in
    let positive : 0 < suc (a / unit) * unit = mul-pos (omega arith) some in
    ap (to_z w32) (complement-mul (a / unit) unit some above) ∙ to_z-complement (suc (a / unit) * unit) positive above

pub shifts_round : (s : ℤ) (unit parts : ℕ) → 0 < unit → parts * unit ≡ 2147483648 → FitsSigned w32 s
    → to_z w32 (of_z w32 (shr_z (to_z w32 (of_z w32 s)) unit) * unit % 4294967296) ≡ floor_of s unit *ℤ pos unit
shifts_round s unit parts some e fits =
    ap (λ (z : ℤ). to_z w32 (of_z w32 (shr_z z unit) * unit % 4294967296)) (to_z-of_z w32 s fits) ∙ shifts s unit parts some e fits

-- rounded down, a number of 32 bits is one
pub fits-rounded : (s : ℤ) (unit parts : ℕ) → 0 < unit → parts * unit ≡ 2147483648 → FitsSigned w32 s → FitsSigned w32 (floor_of s unit *ℤ pos unit)
fits-rounded (pos a) unit parts some e fits =
    let below : a / unit * unit ≤ a = div-mul-le_self a unit in
    let small : a < 2147483648 = fits.sfits in
    record { sfits = omega arith }
fits-rounded (negsuc a) unit parts some e fits =
    let above : suc (a / unit) * unit ≤ 2147483648 = multiple_above-le a unit parts 2147483648 some e fits.sfits in
    let positive : 0 < suc (a / unit) * unit = mul-pos (omega arith) some in
    fits_negative (suc (a / unit) * unit) positive above where
      fits_negative : (n : ℕ) → 0 < n → n ≤ 2147483648 → FitsSigned w32 (neg_ℤ (pos n))
      fits_negative zero p h = absurd (omega arith)
      fits_negative (suc m) p h = record { sfits = omega arith }

-- a multiple of a unit is a multiple of a finer one
pub finer_multiple : (s : ℤ) (unit times finer : ℕ) → 0 < unit → 0 < finer → unit ≡ times * finer
    → floor_of (floor_of s unit *ℤ pos unit) finer *ℤ pos finer ≡ floor_of s unit *ℤ pos unit
finer_multiple (pos a) unit times finer some fine e =
    let regrouped : a / unit * unit ≡ a / unit * times * finer = ap (λ (n : ℕ). a / unit * n) e ∙ sym (mul_assoc (a / unit) times finer) in
    let quotient : a / unit * unit / finer ≡ a / unit * times =
    ap (λ (n : ℕ). n / finer) regrouped ∙ mul-div_cancel (a / unit * times) fine in
    ap (λ (n : ℕ). pos (n * finer)) quotient ∙ ap pos (sym regrouped)
finer_multiple (negsuc a) unit times finer some fine e =
    let regrouped : suc (a / unit) * unit ≡ suc (a / unit) * times * finer = ap (λ (n : ℕ). suc (a / unit) * n) e ∙ sym (mul_assoc (suc (a / unit)) times finer) in
    let positive : 0 < suc (a / unit) * unit = mul-pos (omega arith) some in
    of_multiple (suc (a / unit) * unit) (suc (a / unit) * times) positive regrouped where
      of_multiple : (n m : ℕ) → 0 < n → n ≡ m * finer → floor_of (neg_ℤ (pos n)) finer *ℤ pos finer ≡ neg_ℤ (pos n)
      of_multiple zero m p h = absurd (omega arith)
      of_multiple (suc y) zero p h = absurd (omega arith)
      of_multiple (suc y) (suc k) p h =
          let split : y ≡ k * finer + (finer - 1) = omega (arith, h, add-mul k 1 finer) in
          let quotient : y / finer ≡ k = ap (λ (n : ℕ). n / finer) split ∙ div-mul-add k finer (finer - 1) (omega arith) in
          ap (λ (n : ℕ). neg_ℤ (pos (suc n * finer))) quotient ∙ ap (λ (n : ℕ). neg_ℤ (pos n)) (sym h)

-- a multiple of a unit comes back from its uppermost bits, where the unit and the number of its multiples make 2^32
pub multiple_comes_back : (t : ℤ) (unit parts : ℕ) → 0 < unit → 0 < parts → parts * unit ≡ 4294967296 → FitsSigned w32 t
    → floor_of t unit *ℤ pos unit ≡ t → to_z w32 (modulo (floor_of t unit) parts * unit) ≡ t
multiple_comes_back (pos a) unit parts some many e fits multiple =
    let same : a / unit * unit ≡ a = cc in
    let small : a < 2147483648 = fits.sfits in
    let kept : a / unit % parts ≡ a / unit = mod-eq_of_lt (div_below a unit parts some (omega arith)) in
    ap (λ (n : ℕ). to_z w32 (n * unit)) kept ∙ ap (to_z w32) same ∙ to_z_pos w32 a small
multiple_comes_back (negsuc a) unit parts some many e fits multiple =
    let same : suc (a / unit) * unit ≡ suc a = number_of (suc (a / unit) * unit) multiple in
    let small : a < 2147483648 = fits.sfits in
    let quotient : a / unit < parts = div_below a unit parts some (omega arith) in
    let kept : a / unit % parts ≡ a / unit = mod-eq_of_lt quotient in
    let whole : (parts - suc (a / unit) + suc (a / unit)) * unit ≡ (parts - suc (a / unit)) * unit + suc (a / unit) * unit = add-mul (parts - suc (a / unit)) (suc (a / unit)) unit in
    let all : parts - suc (a / unit) + suc (a / unit) ≡ parts = omega arith in
    let total : (parts - suc (a / unit)) * unit + suc (a / unit) * unit ≡ 4294967296 = sym whole ∙ ap (λ (n : ℕ). n * unit) all ∙ e in
    let remainder : parts - 1 - a / unit % parts ≡ parts - suc (a / unit) = omega arith in
    let bits_are : (parts - suc (a / unit)) * unit ≡ 4294967296 - suc a = omega arith in
    ap (λ (n : ℕ). to_z w32 (n * unit)) remainder ∙ ap (to_z w32) bits_are ∙ to_z-of_z w32 (negsuc a) fits where
      number_of : (n : ℕ) → neg_ℤ (pos n) ≡ negsuc a → n ≡ suc a
      number_of zero h = cc
      number_of (suc m) h = cc

-- the uppermost bits of a number of 32 bits, where the unit and the number of its multiples make 2^32
pub top_bits : (t : ℤ) (unit parts : ℕ) → 0 < unit → 0 < parts → parts * unit ≡ 4294967296 → FitsSigned w32 t
    → of_z w32 t / unit ≡ modulo (floor_of t unit) parts
top_bits (pos a) unit parts some many e fits =
    let small : a < 2147483648 = fits.sfits in
    sym (mod-eq_of_lt (div_below a unit parts some (omega arith)))
top_bits (negsuc a) unit parts some many e fits =
    let small : a < 2147483648 = fits.sfits in
    let quotient : a / unit < parts = div_below a unit parts some (omega arith) in
    let kept : a / unit % parts ≡ a / unit = mod-eq_of_lt quotient in
    let rest : a % unit < unit = mod-lt a some in
    let whole : (parts - suc (a / unit) + suc (a / unit)) * unit ≡ (parts - suc (a / unit)) * unit + suc (a / unit) * unit = add-mul (parts - suc (a / unit)) (suc (a / unit)) unit in
    let all : parts - suc (a / unit) + suc (a / unit) ≡ parts = omega arith in
    let total : (parts - suc (a / unit)) * unit + suc (a / unit) * unit ≡ 4294967296 = sym whole ∙ ap (λ (n : ℕ). n * unit) all ∙ e in
    let next : suc (a / unit) * unit ≡ a / unit * unit + unit = suc-mul (a / unit) unit in
    let itself : a / unit * unit + a % unit ≡ a = div-add-mod' a unit in
    let split : 4294967296 - suc a ≡ (parts - suc (a / unit)) * unit + (unit - 1 - a % unit) = omega arith in
    let remainder : parts - 1 - a / unit % parts ≡ parts - suc (a / unit) = omega arith in
    ap (λ (n : ℕ). n / unit) split ∙ div-mul-add (parts - suc (a / unit)) unit (unit - 1 - a % unit) (omega arith) ∙ sym remainder
