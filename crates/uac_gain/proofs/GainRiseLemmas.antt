-- The gains rise with the volume.
use Rattle.std.proofs.Common.{Bool, true, false, if◌then◌else◌, ◌≡◌, refl, ap, arith, le_of_eq, ℕ, zero, suc, ◌+◌, ◌*◌, ◌-◌, ◌/◌, ◌%◌, ◌^◌, ◌<◌, ◌≤◌, ◌&&◌, ◌==◌, nat_le, ℤ, pos, negsuc, neg_ℤ, ◌≤ℤ◌, ◌<ℤ◌, unsigned_abs, Some, None, ◌⊎◌, inl, inr}
use Rattle.std.proofs.lemmas.Int.{ints}
use Rattle.std.proofs.lemmas.Bool.Decides.{nat_tests, Decides-int_eq}
use Rattle.std.specs.Ordering.{int_eq}
use Rattle.std.proofs.lemmas.Bool.{cases_lt}
use Rattle.uac_gain.specs.Gain.{decibel_gain, raised_gain, half_below, half_above, gain_below, gain_above, gain_of, scaled_sample}
use Rattle.uac_gain.proofs.GainScalingLemmas.{scaled_sample-lesser}

-- ---- gains down

decibel_gain-falls : (louder more softer : ℕ) → softer ≡ louder + more → decibel_gain softer ≤ decibel_gain louder
unfolding decibel_gain
decibel_gain-falls louder zero softer e = le_of_eq (ap decibel_gain (omega arith))
decibel_gain-falls louder (suc more) zero e = absurd (omega arith)
decibel_gain-falls louder (suc more) (suc softer) e = let below : decibel_gain softer ≤ decibel_gain louder = decibel_gain-falls louder more softer (omega arith) in omega arith

pub decibel_gain-no_rise : (louder softer : ℕ) → louder ≤ softer → decibel_gain softer ≤ decibel_gain louder
decibel_gain-no_rise louder softer h = decibel_gain-falls louder (softer - louder) softer (omega arith)

decibel_gain-96 : decibel_gain 96 ≡ 17013
unfolding decibel_gain
decibel_gain-96 = refl

decibel_gain-some : (decibels : ℕ) → decibels ≤ 96 → 17013 ≤ decibel_gain decibels
decibel_gain-some decibels h = let falls : decibel_gain 96 ≤ decibel_gain decibels = decibel_gain-no_rise decibels 96 h in omega (arith, decibel_gain-96)

decibel_gain-most : (decibels : ℕ) → decibel_gain decibels ≤ 2 ^ 30
unfolding decibel_gain
decibel_gain-most decibels = decibel_gain-no_rise 0 decibels (omega arith)

-- half a decibel and a whole one less, where there is something left
next-falls : (decibels : ℕ) → decibels ≤ 96 → (decibel_gain (suc decibels) < half_below (decibel_gain decibels)) × (half_below (decibel_gain decibels) < decibel_gain decibels)
unfolding decibel_gain
next-falls decibels h = let some : 17013 ≤ decibel_gain decibels = decibel_gain-some decibels h in (omega arith, omega arith)

-- ---- gains up

raised_gain-rises : (softer more louder : ℕ) → louder ≡ softer + more → raised_gain softer ≤ raised_gain louder
unfolding raised_gain
raised_gain-rises softer zero louder e = le_of_eq (ap raised_gain (omega arith))
raised_gain-rises softer (suc more) zero e = absurd (omega arith)
raised_gain-rises softer (suc more) (suc louder) e = let above : raised_gain softer ≤ raised_gain louder = raised_gain-rises softer more louder (omega arith) in omega arith

pub raised_gain-no_fall : (softer louder : ℕ) → softer ≤ louder → raised_gain softer ≤ raised_gain louder
raised_gain-no_fall softer louder h = raised_gain-rises softer (louder - softer) louder (omega arith)

raised_gain-12 : raised_gain 12 ≡ 4274643155
unfolding raised_gain
raised_gain-12 = refl

raised_gain-some : (decibels : ℕ) → 2 ^ 30 ≤ raised_gain decibels
unfolding raised_gain
raised_gain-some decibels = raised_gain-no_fall 0 decibels (omega arith)

raised_gain-most : (decibels : ℕ) → decibels ≤ 12 → raised_gain decibels ≤ 4274643155
raised_gain-most decibels h = let rises : raised_gain decibels ≤ raised_gain 12 = raised_gain-no_fall decibels 12 h in omega (arith, raised_gain-12)

next-rises : (decibels : ℕ) → (raised_gain decibels < half_above (raised_gain decibels)) × (half_above (raised_gain decibels) < raised_gain (suc decibels))
unfolding raised_gain
next-rises decibels = let some : 2 ^ 30 ≤ raised_gain decibels = raised_gain-some decibels in (omega arith, omega arith)

pub half_above-fits : (decibels : ℕ) → decibels ≤ 11 → half_above (raised_gain decibels) < 2 ^ 32
half_above-fits decibels h =
    let next = next-rises decibels in
    let most = raised_gain-most (suc decibels) (omega arith) in
    omega (arith, next.1)

-- ---- volumes that have a gain

data HasGainBelow (parts gain : ℕ) : Type 0 where
  whole_below : parts ≡ 256 * (parts / 256) → parts ≤ 24576 → gain ≡ decibel_gain (parts / 256) → HasGainBelow parts gain
  halved_below : parts ≡ 256 * (parts / 256) + 128 → parts ≤ 8064 → gain ≡ half_below (decibel_gain (parts / 256)) → HasGainBelow parts gain

data HasGainAbove (parts gain : ℕ) : Type 0 where
  whole_above : parts ≡ 256 * (parts / 256) → parts ≤ 3072 → gain ≡ raised_gain (parts / 256) → HasGainAbove parts gain
  halved_above : parts ≡ 256 * (parts / 256) + 128 → parts ≤ 2944 → gain ≡ half_above (raised_gain (parts / 256)) → HasGainAbove parts gain

below-some : (parts gain : ℕ) → gain_below parts ≡ Some gain → HasGainBelow parts gain
below-some parts gain h = by (parts % 256 == 0 && nat_le parts 24576) (parts % 256 == 128 && nat_le parts 8064) refl refl h
  where
    by : (w s : Bool) → (parts % 256 == 0 && nat_le parts 24576) ≡ w → (parts % 256 == 128 && nat_le parts 8064) ≡ s
        → (if w then Some (decibel_gain (parts / 256)) else if s then Some (half_below (decibel_gain (parts / 256))) else None) ≡ Some gain → HasGainBelow parts gain
    by true s e f h = whole_below (grind (arith, nat_tests)) (grind (arith, nat_tests)) cc
    by false true e f h = halved_below (grind (arith, nat_tests)) (grind (arith, nat_tests)) cc
    by false false e f h = cc

above-some : (parts gain : ℕ) → gain_above parts ≡ Some gain → HasGainAbove parts gain
above-some parts gain h = by (parts % 256 == 0 && nat_le parts 3072) (parts % 256 == 128 && nat_le parts 2944) refl refl h
  where
    by : (w s : Bool) → (parts % 256 == 0 && nat_le parts 3072) ≡ w → (parts % 256 == 128 && nat_le parts 2944) ≡ s
        → (if w then Some (raised_gain (parts / 256)) else if s then Some (half_above (raised_gain (parts / 256))) else None) ≡ Some gain → HasGainAbove parts gain
    by true s e f h = whole_above (grind (arith, nat_tests)) (grind (arith, nat_tests)) cc
    by false true e f h = halved_above (grind (arith, nat_tests)) (grind (arith, nat_tests)) cc
    by false false e f h = cc

-- a gain lies from its decibels' to above the next ones'
below-band : (parts gain : ℕ) → HasGainBelow parts gain → (decibel_gain (suc (parts / 256)) < gain) × (gain ≤ decibel_gain (parts / 256)) × (17013 ≤ gain)
below-band parts gain (whole_below a b c) =
    let next = next-falls (parts / 256) (omega arith) in
    let some = decibel_gain-some (parts / 256) (omega arith) in
    (omega (arith, next.0, next.1), omega arith, omega arith)
below-band parts gain (halved_below a b c) =
    let next = next-falls (parts / 256) (omega arith) in
    let some = decibel_gain-some (suc (parts / 256)) (omega arith) in
    (omega (arith, next.0), omega (arith, next.1), omega (arith, next.0))

above-band : (parts gain : ℕ) → HasGainAbove parts gain → (raised_gain (parts / 256) ≤ gain) × (gain < raised_gain (suc (parts / 256)))
above-band parts gain (whole_above a b c) = let next = next-rises (parts / 256) in (omega arith, omega (arith, next.0, next.1))
above-band parts gain (halved_above a b c) = let next = next-rises (parts / 256) in (omega (arith, next.0), omega (arith, next.1))

below-falls : (near far high low : ℕ) → near < far → HasGainBelow near high → HasGainBelow far low → low < high
below-falls near far high low h a b = by (cases_lt (near / 256) (far / 256)) a b
  where
    by : (near / 256 < far / 256) ⊎ (far / 256 ≤ near / 256) → HasGainBelow near high → HasGainBelow far low → low < high
    by (inl apart) a b =
        let falls : decibel_gain (far / 256) ≤ decibel_gain (suc (near / 256)) = decibel_gain-no_rise (suc (near / 256)) (far / 256) apart in
        let upper = below-band near high a in
        let lower = below-band far low b in
        omega (arith, upper.0, lower.1)
    by (inr same) (whole_below a b c) (whole_below d e f) = absurd (omega arith)
    by (inr same) (whole_below a b c) (halved_below d e f) =
        let next = next-falls (near / 256) (omega arith) in
        let one : decibel_gain (far / 256) ≡ decibel_gain (near / 256) = ap decibel_gain (omega arith) in
        omega (arith, next.1)
    by (inr same) (halved_below a b c) (whole_below d e f) = absurd (omega arith)
    by (inr same) (halved_below a b c) (halved_below d e f) = absurd (omega arith)

above-rises : (near far low high : ℕ) → near < far → HasGainAbove near low → HasGainAbove far high → low < high
above-rises near far low high h a b = by (cases_lt (near / 256) (far / 256)) a b
  where
    by : (near / 256 < far / 256) ⊎ (far / 256 ≤ near / 256) → HasGainAbove near low → HasGainAbove far high → low < high
    by (inl apart) a b =
        let rises : raised_gain (suc (near / 256)) ≤ raised_gain (far / 256) = raised_gain-no_fall (suc (near / 256)) (far / 256) apart in
        let lower = above-band near low a in
        let upper = above-band far high b in
        omega (arith, lower.1, upper.0)
    by (inr same) (whole_above a b c) (whole_above d e f) = absurd (omega arith)
    by (inr same) (whole_above a b c) (halved_above d e f) =
        let next = next-rises (near / 256) in
        let one : raised_gain (far / 256) ≡ raised_gain (near / 256) = ap raised_gain (omega arith) in
        omega (arith, next.0)
    by (inr same) (halved_above a b c) (whole_above d e f) = absurd (omega arith)
    by (inr same) (halved_above a b c) (halved_above d e f) = absurd (omega arith)

-- ---- over all volumes

data HasGain (volume : ℤ) (gain : ℕ) : Type 0 where
  silent : volume ≡ negsuc 32767 → gain ≡ 0 → HasGain volume gain
  below_0 : (n : ℕ) → volume ≡ negsuc n → HasGainBelow (suc n) gain → HasGain volume gain
  above_0 : (n : ℕ) → volume ≡ pos n → HasGainAbove n gain → HasGain volume gain

gain_of-some : (volume : ℤ) (gain : ℕ) → gain_of volume ≡ Some gain → HasGain volume gain
gain_of-some (pos n) gain h = above_0 n refl (above-some n gain h)
gain_of-some (negsuc n) gain h = by (n == 32767) refl h
  where
    by : (s : Bool) → (n == 32767) ≡ s → (if s then Some 0 else gain_below (suc n)) ≡ Some gain → HasGain (negsuc n) gain
    by true e h = silent (ap negsuc (grind (arith, nat_tests))) cc
    by false e h = below_0 n refl (below-some (suc n) gain h)

gains-rise : (less more : ℤ) (low high : ℕ) → less <ℤ more → HasGain less low → HasGain more high → low < high
gains-rise less more low high h (silent e f) (silent g i) = absurd (omega (arith, ints))
gains-rise less more low high h (silent e f) (below_0 n g i) = let band = below-band (suc n) high i in omega (arith, band.2)
gains-rise less more low high h (silent e f) (above_0 n g i) =
    let band = above-band n high i in
    let some = raised_gain-some (n / 256) in
    omega (arith, band.0)
gains-rise less more low high h (below_0 m e f) (silent g i) = absurd (lower f)
  where
    lower : HasGainBelow (suc m) low → ⊥
    lower (whole_below a b c) = omega (arith, ints)
    lower (halved_below a b c) = omega (arith, ints)
gains-rise less more low high h (below_0 m e f) (below_0 n g i) = below-falls (suc n) (suc m) high low (omega (arith, ints)) i f
gains-rise less more low high h (below_0 m e f) (above_0 n g i) = by f
  where
    by : HasGainBelow (suc m) low → low < high
    by (whole_below a b c) =
        let near = next-falls 0 (omega arith) in
        let far = decibel_gain-no_rise 1 (suc m / 256) (omega arith) in
        let most = decibel_gain-most 0 in
        let some = raised_gain-some (n / 256) in
        let band = above-band n high i in
        omega (arith, near.0, near.1, band.0)
    by (halved_below a b c) =
        let next = next-falls (suc m / 256) (omega arith) in
        let most = decibel_gain-most (suc m / 256) in
        let some = raised_gain-some (n / 256) in
        let band = above-band n high i in
        omega (arith, next.1, band.0)
gains-rise less more low high h (above_0 m e f) (silent g i) = absurd (omega (arith, ints))
gains-rise less more low high h (above_0 m e f) (below_0 n g i) = absurd (omega (arith, ints))
gains-rise less more low high h (above_0 m e f) (above_0 n g i) = above-rises m n low high (omega (arith, ints)) f i

gain-fits : (volume : ℤ) (gain : ℕ) → HasGain volume gain → gain < 2 ^ 32
gain-fits volume gain (silent e f) = omega arith
gain-fits volume gain (below_0 n e f) =
    let band = below-band (suc n) gain f in
    let most = decibel_gain-most (suc n / 256) in
    omega (arith, band.1)
gain-fits volume gain (above_0 n e (whole_above a b c)) = let most = raised_gain-most (n / 256) (omega arith) in omega arith
gain-fits volume gain (above_0 n e (halved_above a b c)) =
    let fits = half_above-fits (n / 256) (omega arith) in
    omega arith

gain-silent : (volume : ℤ) (gain : ℕ) → gain ≡ 0 → HasGain volume gain → volume ≡ negsuc 32767
gain-silent volume gain z (silent e f) = e
gain-silent volume gain z (below_0 n e f) = let band = below-band (suc n) gain f in absurd (omega (arith, band.2))
gain-silent volume gain z (above_0 n e f) =
    let band = above-band n gain f in
    let some = raised_gain-some (n / 256) in
    absurd (omega (arith, band.0))

pub gain_of-fits : (volume : ℤ) (gain : ℕ) → gain_of volume ≡ Some gain → gain < 2 ^ 32
gain_of-fits volume gain e = gain-fits volume gain (gain_of-some volume gain e)

pub gain_of-rises : (less more : ℤ) (low high : ℕ) → less <ℤ more → gain_of less ≡ Some low → gain_of more ≡ Some high → low < high
gain_of-rises less more low high h a b = gains-rise less more low high h (gain_of-some less low a) (gain_of-some more high b)

pub gain_of-audible : (volume : ℤ) → gain_of volume ≡ Some 0 → volume ≡ negsuc 32767
gain_of-audible volume e = gain-silent volume 0 refl (gain_of-some volume 0 e)

lesser_volume : (less more : ℤ) (low high : ℕ) → less ≤ℤ more → gain_of less ≡ Some low → gain_of more ≡ Some high → low ≤ high
lesser_volume less more low high h a b = by (int_eq less more) refl
  where
    by : (e : Bool) → int_eq less more ≡ e → low ≤ high
    by true e = let one : less ≡ more = (Decides-int_eq less more).0 e in le_of_eq cc
    by false e =
        let other : less ≡ more → ⊥ = λ one. absurd (let same : int_eq less more ≡ true = (Decides-int_eq less more).1 one in cc) in
        let rises = gain_of-rises less more low high (grind (arith, ints)) a b in
        omega arith

pub scaled_sample-lesser_volume : (sample less more : ℤ) (low high : ℕ) → less ≤ℤ more → gain_of less ≡ Some low → gain_of more ≡ Some high → unsigned_abs (scaled_sample sample low) ≤ unsigned_abs (scaled_sample sample high)
scaled_sample-lesser_volume sample less more low high h a b = scaled_sample-lesser sample low high (lesser_volume less more low high h a b)

-- ---- the decibels, whole and half

pub whole_down : (decibels : ℕ) → decibels ≤ 96 → gain_of (neg_ℤ (pos (256 * decibels))) ≡ Some (decibel_gain decibels)
unfolding decibel_gain raised_gain
whole_down zero h = refl
whole_down (suc d) h = by (256 * suc d) refl
  where
    by : (n : ℕ) → n ≡ 256 * suc d → gain_of (neg_ℤ (pos n)) ≡ Some (decibel_gain (suc d))
    by zero e = absurd (omega arith)
    by (suc n) e =
        let silence : (n == 32767) ≡ false = grind (arith, nat_tests) in
        let grid : (suc n % 256 == 0 && nat_le (suc n) 24576) ≡ true = grind (arith, nat_tests) in
        let whole : suc n / 256 ≡ suc d = omega arith in
        cc

pub half_down : (decibels : ℕ) → decibels ≤ 31 → gain_of (neg_ℤ (pos (256 * decibels + 128))) ≡ Some (half_below (decibel_gain decibels))
half_down d h = by (256 * d + 128) refl
  where
    by : (n : ℕ) → n ≡ 256 * d + 128 → gain_of (neg_ℤ (pos n)) ≡ Some (half_below (decibel_gain d))
    by zero e = absurd (omega arith)
    by (suc n) e =
        let silence : (n == 32767) ≡ false = grind (arith, nat_tests) in
        let off : (suc n % 256 == 0 && nat_le (suc n) 24576) ≡ false = grind (arith, nat_tests) in
        let grid : (suc n % 256 == 128 && nat_le (suc n) 8064) ≡ true = grind (arith, nat_tests) in
        let whole : suc n / 256 ≡ d = omega arith in
        cc

pub whole_up : (decibels : ℕ) → decibels ≤ 12 → gain_of (pos (256 * decibels)) ≡ Some (raised_gain decibels)
whole_up d h =
    let grid : (256 * d % 256 == 0 && nat_le (256 * d) 3072) ≡ true = grind (arith, nat_tests) in
    let whole : 256 * d / 256 ≡ d = omega arith in
    cc

pub half_up : (decibels : ℕ) → decibels ≤ 11 → gain_of (pos (256 * decibels + 128)) ≡ Some (half_above (raised_gain decibels))
half_up d h =
    let off : ((256 * d + 128) % 256 == 0 && nat_le (256 * d + 128) 3072) ≡ false = grind (arith, nat_tests) in
    let grid : ((256 * d + 128) % 256 == 128 && nat_le (256 * d + 128) 2944) ≡ true = grind (arith, nat_tests) in
    let whole : (256 * d + 128) / 256 ≡ d = omega arith in
    cc
