-- Rows and the frames in them.
use Rattle.std.proofs.Common.{◌≡◌, ◌≢◌, ◌∙◌, refl, sym, subst, ap, arith, ℕ, zero, suc, ◌+◌, ◌^◌, ◌<◌, ◌≤◌, ℤ, pos, ◌+ℤ◌, unsigned_abs, to_z, of_z, w32, w64, List, [], ◌∷◌, ◌++◌, length, map, set, take, get_or, inl, inr, replicate}
use lib.Signed.{mag}
use Rattle.std.specs.List.{range_with_len}
use Rattle.std.proofs.lemmas.Int.{ints}
use Rattle.std.proofs.lemmas.List.{ext_get_or, get_or_default, get_or-set_other, get_or-set_same, length-map, length-replicate, length-set, map-append, map-set, take_all, take_more, take_more_set}
use Rattle.std.proofs.lemmas.Bool.{cases_lt}
use Rattle.std.proofs.lemmas.List.FromFn.{get_or-map-range_with_len, length-map-range_with_len, map-range_with_len_more}
use Rattle.std.proofs.lemmas.List.Sums.{fold-append}
use Rattle.std.proofs.Math.ListN.{get_or-map}
use Rattle.std.proofs.Math.Seq.{map-set_same}
use Rattle.uac_units.specs.declared.jobs.Job.{Job}
use Rattle.uac_units.specs.declared.jobs.UnitKind.{UnitKind}
use Rattle.uac_units.specs.declared.meter.MeterKind.{MeterKind}
use Rattle.uac_units.specs.Hearing.{Reading, after_hearing}
use Rattle.uac_units.specs.Rendering.{FitsKind, FitsNumbers, input, job_samples, pins_sample}
use Rattle.uac_units.specs.SampleRows.{AreRenderedRows, HasSamples, HaveTicks, after_hearing_all, frame_at, frames_of, row_lengths, sample_at}

-- ---- one row

-- one more sample
pub samples_more : (sample : ℕ → ℤ) (tick : ℕ) (row : List ℤ) (z : ℤ) → tick < length row → HasSamples tick sample row → z ≡ sample tick
    → HasSamples (tick + 1) sample (set row tick z)
samples_more sample tick row z below has is other early =
    elim (cases_lt other tick) [
      | inl less ↦ get_or-set_other row tick other z (pos 0) (λ e. omega (arith, e, less)) ∙ has other less
      | inr past ↦
          let same : other ≡ tick = omega (arith, early, past) in
          ap (λ (n : ℕ). sample_at n (set row tick z)) same ∙ get_or-set_same row tick z (pos 0) below ∙ is ∙ ap sample (sym same)
    ]

-- what stands behind it stays
pub rest_kept : (tick : ℕ) (old row : List ℤ) (z : ℤ) → ((other : ℕ) → tick ≤ other → sample_at other row ≡ sample_at other old)
    → (other : ℕ) → tick + 1 ≤ other → sample_at other (set row tick z) ≡ sample_at other old
rest_kept tick old row z kept other late =
    get_or-set_other row tick other z (pos 0) (λ e. omega (arith, e, late)) ∙ kept other (omega (arith, late))

-- the code's sum of 64 bits is the sum
pub added : (sum sample : ℤ) → unsigned_abs sum ≤ 2 ^ 40 → mag sample < 2147483648
    → to_z w64 (of_z w64 (to_z w64 (of_z w64 sum) +ℤ to_z w64 (of_z w64 (to_z w32 (of_z w32 sample))))) ≡ sum +ℤ sample
added sum sample small fits = omega (arith, ints)

-- ---- frames

pub length-frame_at : (tick : ℕ) (rows : List (List ℤ)) → length (frame_at tick rows) ≡ length rows
length-frame_at tick rows = length-map rows (sample_at tick)

-- a channel of a frame
pub input-frame_at : (tick : ℕ) (rows : List (List ℤ)) (channel : ℕ) → input (frame_at tick rows) channel ≡ sample_at tick (get_or rows channel [])
input-frame_at tick rows channel = get_or-map (sample_at tick) rows channel []

-- one more channel
pub frame_at_more : (tick : ℕ) (rows : List (List ℤ)) (channel : ℕ) (row : List ℤ) → channel < length rows → row ≡ get_or rows channel row
    → frame_at tick (take (channel + 1) rows) ≡ frame_at tick (take channel rows) ++ sample_at tick row ∷ []
frame_at_more tick rows channel row below is =
    ap (frame_at tick) (take_more rows channel row below)
    ∙ map-append (sample_at tick) (take channel rows) (get_or rows channel row ∷ [])
    ∙ ap (λ (r : List ℤ). frame_at tick (take channel rows) ++ sample_at tick r ∷ []) (sym is)

-- a row has its ticks
pub has_ticks : (ticks : ℕ) (rows : List (List ℤ)) (channel : ℕ) (row : List ℤ) → HaveTicks ticks rows → channel < length rows → row ≡ get_or rows channel row
    → ticks ≤ length row
has_ticks ticks rows channel row have below is = subst (λ (r : List ℤ). ticks ≤ length r) (sym is) (have channel row below)

-- whatever stands in for what isn't there
pub stands : (rows : List (List ℤ)) (channel : ℕ) (row : List ℤ) → channel < length rows → row ≡ get_or rows channel row → row ≡ get_or rows channel []
stands rows channel row below is = is ∙ get_or_default rows channel row [] below

-- rows of the same lengths have the same ticks
pub ticks_kept : (ticks : ℕ) (old new : List (List ℤ)) → row_lengths new ≡ row_lengths old → HaveTicks ticks old → HaveTicks ticks new
ticks_kept ticks old new same have i d below =
    let few : length new ≡ length old = sym (length-map new length) ∙ ap length same ∙ length-map old length in
    let here : length (get_or new i d) ≡ length (get_or old i d) =
    sym (get_or-map length new i d) ∙ ap (λ (ls : List ℕ). get_or ls i (length d)) same ∙ get_or-map length old i d in
    let had = have i d (omega (arith, few, below)) in
    omega (arith, here, had)

-- fewer ticks
pub ticks_less : (fewer ticks : ℕ) (rows : List (List ℤ)) → fewer ≤ ticks → HaveTicks ticks rows → HaveTicks fewer rows
ticks_less fewer ticks rows less have i d below = let had = have i d below in omega (arith, less, had)

-- ---- one row written

-- the first channels have this frame, and at other ticks all is as it was
pub record FrameIsWritten (tick channel : ℕ) (frame : List ℤ) (old new : List (List ℤ)) : Type 0 where
  pub here : take channel (frame_at tick new) ≡ take channel frame
  pub others : (other : ℕ) → other ≢ tick → frame_at other new ≡ frame_at other old
  pub lengths : row_lengths new ≡ row_lengths old

pub frame_written_more : (tick channel : ℕ) (frame : List ℤ) (old new : List (List ℤ)) (d : List ℤ) (z : ℤ)
    → FrameIsWritten tick channel frame old new → channel < length new → tick < length (get_or new channel d)
    → channel < length frame → z ≡ get_or frame channel (pos 0)
    → FrameIsWritten tick (channel + 1) frame old (set new channel (set (get_or new channel d) tick z))
frame_written_more tick channel frame old new d z written below inside short e =
    let row = get_or new channel d in record {
      here =
          ap (take (channel + 1)) (map-set (sample_at tick) new channel (set row tick z))
          ∙ take_more_set (frame_at tick new) channel (sample_at tick (set row tick z)) (omega (arith, below, length-frame_at tick new))
          ∙ ap (λ (s : ℤ). take channel (frame_at tick new) ++ s ∷ []) (get_or-set_same row tick z (pos 0) inside ∙ e)
          ∙ ap (λ (front : List ℤ). front ++ get_or frame channel (pos 0) ∷ []) written.here
          ∙ sym (take_more frame channel (pos 0) short);
      others = λ other apart.
          map-set_same (sample_at other) new channel (set row tick z) d (get_or-set_other row tick other z (pos 0) apart)
          ∙ written.others other apart;
      lengths = map-set_same length new channel (set row tick z) d (length-set row tick z) ∙ written.lengths;
    }

-- the whole frame
pub frame_written : (tick channel : ℕ) (frame : List ℤ) (old new : List (List ℤ)) → FrameIsWritten tick channel frame old new → length new ≤ channel
    → length frame ≡ length new → frame_at tick new ≡ frame
frame_written tick channel frame old new written all sized =
    sym (take_all channel (frame_at tick new) (omega (arith, all, length-frame_at tick new)))
    ∙ written.here
    ∙ take_all channel frame (omega (arith, all, sized))

-- ---- rows written one after the other

-- the first rows have their samples, and all are as long as they were
pub record RowsAreWritten (ticks : ℕ) (sample : ℕ → ℕ → ℤ) (count : ℕ) (old new : List (List ℤ)) : Type 0 where
  pub front : (channel : ℕ) → channel < count → HasSamples ticks (sample channel) (get_or new channel [])
  pub lengths : row_lengths new ≡ row_lengths old

pub no_rows_written : (ticks : ℕ) (sample : ℕ → ℕ → ℤ) (rows : List (List ℤ)) → RowsAreWritten ticks sample 0 rows rows
no_rows_written ticks sample rows = record { front = λ channel below. absurd (omega (arith, below)); lengths = refl }

pub rows_written_more : (ticks : ℕ) (sample : ℕ → ℕ → ℤ) (count : ℕ) (old new : List (List ℤ)) (d written : List ℤ) → count < length new
    → HasSamples ticks (sample count) written → length written ≡ length (get_or new count d) → RowsAreWritten ticks sample count old new
    → RowsAreWritten ticks sample (count + 1) old (set new count written)
rows_written_more ticks sample count old new d written below has long before = record {
  front = λ channel inside tick early.
      elim (cases_lt channel count) [
        | inl less ↦
            ap (sample_at tick) (get_or-set_other new count channel written [] (λ e. omega (arith, e, less)))
            ∙ before.front channel less tick early
        | inr past ↦
            let same : channel ≡ count = omega (arith, inside, past) in
            ap (λ (n : ℕ). sample_at tick (get_or (set new count written) n [])) same
            ∙ ap (sample_at tick) (get_or-set_same new count written [] below)
            ∙ has tick early
            ∙ ap (λ (n : ℕ). sample n tick) (sym same)
      ];
  lengths = map-set_same length new count written d long ∙ before.lengths;
}

-- a row of those that are still to be written has its ticks
pub next_has_ticks : (ticks : ℕ) (sample : ℕ → ℕ → ℤ) (count : ℕ) (old new : List (List ℤ)) (d : List ℤ) → RowsAreWritten ticks sample count old new
    → HaveTicks ticks old → count < length new → ticks ≤ length (get_or new count d)
next_has_ticks ticks sample count old new d written have below = ticks_kept ticks old new written.lengths have count d below

-- all rows
pub all_rows_written : (ticks : ℕ) (sample : ℕ → ℕ → ℤ) (count : ℕ) (old new : List (List ℤ)) → RowsAreWritten ticks sample count old new → length new ≤ count
    → (channel : ℕ) → channel < length new → HasSamples ticks (sample channel) (get_or new channel [])
all_rows_written ticks sample count old new written all channel below = written.front channel (omega (arith, all, below))

-- rows of a unit's samples are what it renders
pub rows_rendered : (kind : UnitKind) (job : Job) (ticks : ℕ) (inputs rows : List (List ℤ)) → length rows ≡ job.outputs
    → ((channel : ℕ) → channel < length rows → HasSamples ticks (λ tick. pins_sample kind job (frame_at tick inputs) channel) (get_or rows channel []))
    → AreRenderedRows kind job ticks inputs rows
unfolding job_samples
rows_rendered kind job ticks inputs rows sized each tick early =
    let sample = pins_sample kind job (frame_at tick inputs) in
    ext_get_or (pos 0) (frame_at tick rows) (map sample (range_with_len 0 job.outputs))
    (length-frame_at tick rows ∙ sized ∙ sym (length-map-range_with_len sample 0 job.outputs))
    (λ channel below.
    let inside : channel < length rows = omega (arith, below, length-frame_at tick rows) in
    input-frame_at tick rows channel
    ∙ each channel inside tick early
    ∙ sym (get_or-map-range_with_len sample 0 job.outputs channel channel (pos 0) (omega (arith, inside, sized)) (omega arith)))

-- rows that are copied channel by channel have the frames
pub copied : (ticks : ℕ) (rows out old : List (List ℤ)) → length rows ≡ length old → length out ≡ length old
    → ((channel : ℕ) → channel < length out → HasSamples ticks (λ tick. sample_at tick (get_or rows (0 + channel) [])) (get_or out channel []))
    → (tick : ℕ) → tick < ticks → frame_at tick out ≡ frame_at tick rows
copied ticks rows out old sized kept each tick early =
    ext_get_or (pos 0) (frame_at tick out) (frame_at tick rows)
    (length-frame_at tick out ∙ kept ∙ sym sized ∙ sym (length-frame_at tick rows))
    (λ channel below.
    let first : 0 + channel ≡ channel = omega arith in
    input-frame_at tick out channel
    ∙ each channel (omega (arith, below, length-frame_at tick out)) tick early
    ∙ ap (λ (n : ℕ). sample_at tick (get_or rows n [])) first
    ∙ sym (input-frame_at tick rows channel))

-- one more tick is rendered
pub rendered_more : (kind : UnitKind) (job : Job) (tick : ℕ) (inputs rows new : List (List ℤ)) → AreRenderedRows kind job tick inputs rows
    → ((other : ℕ) → other ≢ tick → frame_at other new ≡ frame_at other rows) → frame_at tick new ≡ job_samples kind job (frame_at tick inputs)
    → AreRenderedRows kind job (tick + 1) inputs new
rendered_more kind job tick inputs rows new before others here other early =
    elim (cases_lt other tick) [
      | inl less ↦ others other (λ e. omega (arith, e, less)) ∙ before other less
      | inr past ↦
          let same : other ≡ tick = omega (arith, early, past) in
          ap (λ (n : ℕ). frame_at n new) same ∙ here ∙ ap (λ (n : ℕ). job_samples kind job (frame_at n inputs)) (sym same)
    ]

-- silence
pub silent_at : (ticks tick : ℕ) → sample_at tick (replicate ticks (pos 0)) ≡ pos 0
silent_at zero tick = refl
silent_at (suc ticks) zero = refl
silent_at (suc ticks) (suc tick) = silent_at ticks tick

-- rows that hold one sample each have the frame of them
pub held : (ticks : ℕ) (frame : List ℤ) (out old : List (List ℤ)) → length frame ≡ length old → length out ≡ length old
    → ((channel : ℕ) → channel < length out → HasSamples ticks (λ tick. get_or frame channel (pos 0)) (get_or out channel []))
    → (tick : ℕ) → tick < ticks → frame_at tick out ≡ frame
held ticks frame out old sized kept each tick early =
    ext_get_or (pos 0) (frame_at tick out) frame
    (length-frame_at tick out ∙ kept ∙ sym sized)
    (λ channel below. input-frame_at tick out channel ∙ each channel (omega (arith, below, length-frame_at tick out)) tick early)

-- rows that hold silence
pub hushed : (ticks : ℕ) (out old : List (List ℤ)) → length out ≡ length old
    → ((channel : ℕ) → channel < length out → HasSamples ticks (λ tick. pos 0) (get_or out channel []))
    → (tick : ℕ) → tick < ticks → frame_at tick out ≡ replicate (length old) (pos 0)
hushed ticks out old kept each =
    held ticks (replicate (length old) (pos 0)) out old (length-replicate (length old) (pos 0)) kept
    (λ channel below tick early. each channel below tick early ∙ sym (silent_at (length old) channel))

-- ---- jobs

-- a job that fits the inputs of one tick fits those of another
pub fits_at : (kind : UnitKind) (job : Job) (inputs : List (List ℤ)) (first tick : ℕ) → FitsKind kind job (frame_at first inputs) → FitsKind kind job (frame_at tick inputs)
fits_at kind job inputs first tick fits = record {
  some = fits.some;
  most = fits.most;
  numbers =
      subst (λ (n : ℕ). FitsNumbers kind job.outputs job.pin (length job.gains.items) n)
      (length-frame_at first inputs ∙ sym (length-frame_at tick inputs)) fits.numbers;
}

-- ---- meters

pub frames_of_more : (ticks : ℕ) (rows : List (List ℤ)) → frames_of (ticks + 1) rows ≡ frames_of ticks rows ++ frame_at ticks rows ∷ []
frames_of_more ticks rows = map-range_with_len_more (λ tick. frame_at tick rows) 0 ticks ticks (omega arith)

pub heard_more : (ticks : ℕ) (rows : List (List ℤ)) (reading : Reading)
    → after_hearing_all (frames_of (ticks + 1) rows) reading ≡ after_hearing (frame_at ticks rows) (after_hearing_all (frames_of ticks rows) reading)
heard_more ticks rows reading =
    ap (λ (frames : List (List ℤ)). after_hearing_all frames reading) (frames_of_more ticks rows)
    ∙ fold-append (λ heard frame. after_hearing frame heard) reading (frames_of ticks rows) (frame_at ticks rows ∷ [])

-- what a meter of a kind shows
abbrev pub shows : MeterKind → ℕ → Reading
shows kind value = record { kind = kind; value = value }
