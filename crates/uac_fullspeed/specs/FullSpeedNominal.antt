-- Full speed (USB 2.0, 5.12.4.2): a bus has 1,000 frames a second, and feedback is told in 16,384ths of a frame of audio in each bus
-- frame, as 10.14 in three bytes, low byte first. The rates and the band of a report are the profile's.
use Rattle.std.specs.Prelude.{◌≡◌, ℕ, suc, ◌+◌, ◌-◌, ◌*◌, ◌/◌, ◌%◌, ◌==◌, Bool, ℤ, pos, negsuc, ◌+ℤ◌, ◌-ℤ◌, ◌*ℤ◌, if◌then◌else◌, List, [], ◌∷◌}
use Rattle.std.specs.Prelude.{Option, Some, None, min, max, get_or}
use Rattle.std.specs.Int.{int_min, int_max}
use Rattle.std.specs.List.{list_any}
use Rattle.uac_fullspeed.specs.declared.values.FsNominal.{FsNominal}

-- the rates, in Hz
abbrev pub ten_rates : List ℕ
ten_rates = 8000 ∷ 11025 ∷ 16000 ∷ 22050 ∷ 32000 ∷ 44100 ∷ 48000 ∷ 64000 ∷ 88200 ∷ 96000 ∷ []

abbrev pub is_fs_listed : ℕ → Bool
is_fs_listed hertz = list_any (λ listed. listed == hertz) ten_rates

-- frames in a bus frame; a thousandth of that; and the whole numbers of frames about them, the upper one past the sum
unfoldable pub fs_values_of : ℕ → FsNominal
fs_values_of hertz =
    let frames = hertz * 16384 / 1000 in
    let thousandth = frames / 1000 in
    record { f = frames; e = thousandth; lo = (frames - thousandth) / 16384; hi = (frames + thousandth) / 16384 + 1 }

-- the nominal values of a rate, if it is one of the ten
unfoldable pub fs_nominal_of : ℕ → Option FsNominal
fs_nominal_of hertz = if is_fs_listed hertz then Some (fs_values_of hertz) else None

-- these are the nominal values of a rate
abbrev pub IsFsNominal : FsNominal → Type 0
IsFsNominal values = (hertz : ℕ) × (fs_nominal_of hertz ≡ Some values)

-- what a clock gives in a bus frame where it is off by so many ppm: the deviation is rounded down in size
abbrev pub fs_step_of : FsNominal → ℤ → ℕ
fs_step_of values (pos ppm) = values.f + values.f * ppm / 1000000
fs_step_of values (negsuc ppm) = values.f - values.f * suc ppm / 1000000

-- the nominal value, and 256 more for each frame below the target or less for each above it, clamped between the least and the greatest
-- packet; where the difference would be below 0 it is clamped at the least anyway
abbrev pub fs_report_of : FsNominal → ℕ → ℕ → ℕ
fs_report_of values target level = max (values.lo * 16384) (min (values.f + 256 * target - 256 * level) (values.hi * 16384))

-- the report over the integers
abbrev pub FsReportsOverIntegers : Type 0
FsReportsOverIntegers =
    (values : FsNominal) (target level : ℕ)
    → pos (fs_report_of values target level)
    ≡ int_max (pos (values.lo * 16384)) (int_min (pos values.f +ℤ pos 256 *ℤ (pos target -ℤ pos level)) (pos (values.hi * 16384)))

-- the three bytes of a report, low byte first
abbrev pub report_bytes : ℕ → List ℕ
report_bytes value = value % 256 ∷ value / 256 % 256 ∷ value / 65536 ∷ []

-- the number that three bytes are, low byte first
abbrev pub report_number : List ℕ → ℕ
report_number bytes = get_or bytes 0 0 + 256 * get_or bytes 1 0 + 65536 * get_or bytes 2 0
