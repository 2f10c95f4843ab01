-- Samples of several ticks by channel: a row for each channel, with its sample at each tick.
use Rattle.std.specs.Prelude.{◌≡◌, ℕ, ◌<◌, ◌≤◌, ℤ, pos, List, length, map, slice_index_or}
use Rattle.std.specs.List.{All, fold, range_with_len}
use Rattle.uac_units.specs.Hearing.{Reading, after_hearing}
use Rattle.uac_units.specs.Rendering.{job_samples}
use Rattle.uac_units.specs.declared.jobs.Job.{Job}
use Rattle.uac_units.specs.declared.jobs.UnitKind.{UnitKind}

-- a row's sample at a tick, counted from 0
abbrev pub sample_at : ℕ → List ℤ → ℤ
sample_at tick row = slice_index_or row tick (pos 0)

-- the frame of a tick: what stands there in each row
abbrev pub frame_at : ℕ → List (List ℤ) → List ℤ
frame_at tick rows = map (sample_at tick) rows

-- each row has a sample at each of so many ticks
abbrev pub HaveTicks : ℕ → List (List ℤ) → Type 0
HaveTicks ticks rows = All (λ row. ticks ≤ length row) rows

-- a row has these samples at so many ticks
abbrev pub HasSamples : ℕ → (ℕ → ℤ) → List ℤ → Type 0
HasSamples ticks sample row = (tick : ℕ) → tick < ticks → sample_at tick row ≡ sample tick

-- how long each row is
abbrev pub row_lengths : List (List ℤ) → List ℕ
row_lengths rows = map length rows

-- at each of so many ticks, the frame is what a unit of the kind makes of that tick's inputs
abbrev pub AreRenderedRows : UnitKind → Job → ℕ → List (List ℤ) → List (List ℤ) → Type 0
AreRenderedRows kind job ticks inputs rows =
    (tick : ℕ) → tick < ticks → frame_at tick rows ≡ job_samples kind job (frame_at tick inputs)

-- the frames of so many ticks, one after the other
abbrev pub frames_of : ℕ → List (List ℤ) → List (List ℤ)
frames_of ticks rows = map (λ tick. frame_at tick rows) (range_with_len 0 ticks)

-- the reading after these frames, one after the other
abbrev pub after_hearing_all : List (List ℤ) → Reading → Reading
after_hearing_all frames reading = fold (λ heard frame. after_hearing frame heard) reading frames
