-- Silence: what is made of samples that are 0.
use Rattle.std.proofs.Common.{◌≡◌, ◌∙◌, refl, sym, ap, arith, ℕ, zero, suc, ◌+◌, ◌*◌, ◌^◌, ◌<◌, ◌≤◌, ℤ, pos, ◌+ℤ◌, List, [], ◌∷◌, count_by, get_or, length, replicate, slice_index, take, unsigned_abs}
use Rattle.std.specs.List.{sum_by}
use Rattle.uac_gain.specs.Gain.{floor_div, nearest_in_32_bits, scaled_sample}
use Rattle.uac_units.specs.declared.jobs.Job.{Job}
use Rattle.uac_units.specs.declared.jobs.UnitKind.TheVariants.{Mixer}
use Rattle.uac_units.specs.declared.meter.MeterKind.{MeterKind}
use Rattle.uac_units.specs.declared.meter.MeterKind.TheVariants.{Peak, Clipped, Sum}
use Rattle.uac_units.specs.Hearing.{is_clipped, peak_of, value_after_hearing}
use Rattle.uac_units.specs.Rendering.{input, pins_sample}
use Rattle.uac_units.specs.SampleRows.{HasSamples, frame_at}
use Rattle.uac_units.proofs.RenderingMixLemmas.{mixed_front, mixed_front_more, node}
use Rattle.uac_units.proofs.SampleRowsLemmas.{input-frame_at, silent_at}

-- ---- what meters make of silence

-- a row's first samples, where they are known to be 0
silence : (ticks known : ℕ) (row : List ℤ) → ticks ≤ known → ticks ≤ length row → HasSamples known (λ tick. pos 0) row
    → take ticks row ≡ replicate ticks (pos 0)
silence zero known row few inside silent = refl
silence (suc ticks) known [] few inside silent = absurd (omega (arith, inside))
silence (suc ticks) zero (x ∷ xs) few inside silent = absurd (omega (arith, few))
silence (suc ticks) (suc known) (x ∷ xs) few inside silent =
    ap (λ (s : ℤ). s ∷ take ticks xs) (silent 0 (omega arith))
    ∙ ap (λ (rest : List ℤ). pos 0 ∷ rest)
    (silence ticks known xs (omega (arith, few)) (omega (arith, inside)) (λ tick early. silent (suc tick) (omega (arith, early))))

peak-of_zeros : (ticks : ℕ) → peak_of (replicate ticks (pos 0)) ≡ 0
peak-of_zeros zero = refl
peak-of_zeros (suc ticks) = peak-of_zeros ticks

clipped-of_zeros : (ticks : ℕ) → count_by is_clipped (replicate ticks (pos 0)) ≡ 0
clipped-of_zeros zero = refl
clipped-of_zeros (suc ticks) = clipped-of_zeros ticks

sum-of_zeros : (ticks : ℕ) → sum_by unsigned_abs (replicate ticks (pos 0)) ≡ 0
sum-of_zeros zero = refl
sum-of_zeros (suc ticks) = sum-of_zeros ticks

value-of_zeros : (kind : MeterKind) (value ticks : ℕ) → value < 2 ^ 64 → value ≡ value_after_hearing kind value (replicate ticks (pos 0))
value-of_zeros Peak value ticks fits = omega (arith, fits, peak-of_zeros ticks)
value-of_zeros Clipped value ticks fits = omega (arith, fits, clipped-of_zeros ticks)
value-of_zeros Sum value ticks fits = omega (arith, fits, sum-of_zeros ticks)

-- its peak
pub peak-of_silence : (ticks known : ℕ) (row : List ℤ) → ticks ≤ known → ticks ≤ length row → HasSamples known (λ tick. pos 0) row
    → 0 ≡ peak_of (take ticks row)
peak-of_silence ticks known row few inside silent = sym (ap peak_of (silence ticks known row few inside silent) ∙ peak-of_zeros ticks)

-- a value after it
pub value-of_silence : (kind : MeterKind) (value ticks known : ℕ) (row : List ℤ) → value < 2 ^ 64 → ticks ≤ known → ticks ≤ length row
    → HasSamples known (λ tick. pos 0) row → value ≡ value_after_hearing kind value (take ticks row)
value-of_silence kind value ticks known row fits few inside silent =
    value-of_zeros kind value ticks fits ∙ ap (value_after_hearing kind value) (sym (silence ticks known row few inside silent))

-- ---- what a mixer makes of silence

-- a silent sample stays silent at each gain
scaled-silence : (gain : ℕ) → scaled_sample (pos 0) gain ≡ pos 0
scaled-silence gain =
    let none : 0 * gain ≡ 0 = omega arith in
    ap (λ (p : ℕ). nearest_in_32_bits (floor_div (pos p) (2 ^ 30))) none

-- silent inputs together
mixed-silence : (job : Job) (pins : List ℤ) (channel n : ℕ) → ((at : ℕ) → input pins at ≡ pos 0) → mixed_front job pins channel n ≡ pos 0
mixed-silence job pins channel zero silent = refl
mixed-silence job pins channel (suc n) silent =
    let gain = slice_index job.gains.items (n * job.outputs + channel) in
    let on : suc n ≡ n + 1 = omega arith in
    ap (mixed_front job pins channel) on
    ∙ mixed_front_more job pins channel n
    ∙ ap (λ (z : ℤ). z +ℤ node job pins channel n) (mixed-silence job pins channel n silent)
    ∙ ap (λ (z : ℤ). pos 0 +ℤ z) (ap (λ (z : ℤ). scaled_sample z gain) (silent n) ∙ scaled-silence gain)

-- rows of silence are what it makes of rows of silence
pub mixer-of_silence : (job : Job) (ticks : ℕ) (inputs out old : List (List ℤ))
    → ((channel : ℕ) → HasSamples ticks (λ tick. pos 0) (get_or inputs channel []))
    → ((tick : ℕ) → tick < ticks → frame_at tick out ≡ replicate (length old) (pos 0))
    → (channel : ℕ) → HasSamples ticks (λ tick. pins_sample Mixer job (frame_at tick inputs) channel) (get_or out channel [])
mixer-of_silence job ticks inputs out old silent hushed channel tick early =
    let pins = frame_at tick inputs in
    let mixed : pins_sample Mixer job pins channel ≡ pos 0 =
    ap nearest_in_32_bits (mixed-silence job pins channel (length pins) (λ at. input-frame_at tick inputs at ∙ silent at tick early)) in
    sym (input-frame_at tick out channel)
    ∙ ap (λ (frame : List ℤ). input frame channel) (hushed tick early)
    ∙ silent_at (length old) channel
    ∙ sym mixed
