-- What meters make of the frames they hear (profile).
use Rattle.std.specs.Prelude.{ℕ, ◌+◌, max, Bool, ◌||◌, ℤ, pos, negsuc, List, unsigned_abs, count_by}
use Rattle.std.specs.List.{fold, sum_by}
use Rattle.std.specs.Ordering.{int_eq}
use Rattle.uac_units.specs.declared.meter.MeterKind.{MeterKind}
use Rattle.uac_units.specs.declared.meter.MeterKind.TheVariants.{Peak, Clipped, Sum}
pub use Rattle.uac_pcm.specs.Counts.{at_most_u64}

-- what a meter shows: its kind and its value
pub record Reading : Type 0 where
  pub kind : MeterKind
  pub value : ℕ

-- the greatest absolute sample of a frame
abbrev pub peak_of : List ℤ → ℕ
peak_of frame = fold (λ peak sample. max peak (unsigned_abs sample)) 0 frame

-- the sample is at full scale, above or below
abbrev pub is_clipped : ℤ → Bool
is_clipped sample = int_eq sample (pos 2147483647) || int_eq sample (negsuc 2147483647)

-- the value after a frame, by kind
abbrev pub value_after_hearing : MeterKind → ℕ → List ℤ → ℕ
value_after_hearing Peak value frame = at_most_u64 (max value (peak_of frame))
value_after_hearing Clipped value frame = at_most_u64 (value + count_by is_clipped frame)
value_after_hearing Sum value frame = at_most_u64 (value + sum_by unsigned_abs frame)

-- the reading after a frame
unfoldable pub after_hearing : List ℤ → Reading → Reading
after_hearing frame reading = record { kind = reading.kind; value = value_after_hearing reading.kind reading.value frame }
