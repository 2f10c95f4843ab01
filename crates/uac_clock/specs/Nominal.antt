-- profile: the sampling rates, and what follows from one at high speed, which has 8,000 microframes a second.
-- A number of frames is given in 65,536ths, as a feedback endpoint gives it: USB 2.0, 5.12.4.2.
use Rattle.std.specs.Prelude.{◌≡◌, ℕ, suc, ◌+◌, ◌-◌, ◌*◌, ◌/◌, ◌<◌, ◌≤◌, ◌==◌, Bool, ℤ, pos, negsuc, if◌then◌else◌, List, [], ◌∷◌, Option}
use Rattle.std.specs.Prelude.{Some, None}
use Rattle.std.specs.List.{list_any}
use Rattle.uac_clock.specs.declared.values.Nominal.{Nominal}

-- the rates, in Hz
abbrev pub twelve_rates : List ℕ
twelve_rates =
    8000 ∷ 11025 ∷ 16000 ∷ 22050 ∷ 32000 ∷ 44100 ∷ 48000 ∷ 64000 ∷ 88200 ∷ 96000 ∷ 176400 ∷ 192000 ∷ []

abbrev pub is_listed : ℕ → Bool
is_listed hertz = list_any (λ listed. listed == hertz) twelve_rates

-- frames in a microframe; a thousandth of that; and the whole numbers of frames about them, the upper one past the sum
unfoldable pub values_of : ℕ → Nominal
values_of hertz =
    let frames = hertz * 65536 / 8000 in
    let thousandth = frames / 1000 in
    record { f = frames; e = thousandth; lo = (frames - thousandth) / 65536; hi = (frames + thousandth) / 65536 + 1 }

-- the nominal values of a rate, if it is one of the twelve
unfoldable pub nominal_of : ℕ → Option Nominal
nominal_of hertz = if is_listed hertz then Some (values_of hertz) else None

-- these are the nominal values of a rate
abbrev pub IsNominal : Nominal → Type 0
IsNominal values = (hertz : ℕ) × (nominal_of hertz ≡ Some values)

-- what a clock gives in a microframe where it is off by so many ppm: the deviation is rounded down in size
abbrev pub step_of : Nominal → ℤ → ℕ
step_of values (pos ppm) = values.f + values.f * ppm / 1000000
step_of values (negsuc ppm) = values.f - values.f * suc ppm / 1000000

-- a clock that is off by a thousandth stays between the whole numbers, which lie close
pub record StaysBetweenWholes (values : Nominal) : Type 0 where
  pub below : values.lo * 65536 + values.e < values.f
  pub above : values.f + values.e < values.hi * 65536
  pub apart : values.hi ≤ values.lo + 2
  pub slight : values.e ≤ 1572
  pub most : values.hi ≤ 25
