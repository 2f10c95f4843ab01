-- profile: what the sources and the sink in memory hold, and what one call leaves of it.
use Rattle.std.specs.Prelude.{ℕ, ◌+◌, ◌-◌, ◌≤◌, ◌⊎◌, min, List, ◌++◌, length, drop, Contains}

-- A source in memory: the bytes left, how many one call moves at most, the numbers of the calls that fail, the calls and
-- the faults so far.
pub record SourceInMemory : Type 0 where
  pub left : List ℕ
  pub cut : ℕ
  pub failing : List ℕ
  pub calls : ℕ
  pub faults : ℕ

-- A sink in memory: the bytes written, how many one call appends at most, how many it holds at most, the numbers of the
-- calls that fail, the calls and the faults so far.
pub record SinkInMemory : Type 0 where
  pub written : List ℕ
  pub cut : ℕ
  pub room : ℕ
  pub failing : List ℕ
  pub calls : ℕ
  pub faults : ℕ

-- One more, up to the largest count of 64 bits. A call's number, from 1, is one more than the calls before it.
abbrev pub raised_count : ℕ → ℕ
raised_count count = min (count + 1) 18446744073709551615

-- How many bytes a call that doesn't fail moves into a buffer of this length.
abbrev pub moved_count : SourceInMemory → ℕ → ℕ
moved_count source space = min source.cut (min space (length source.left))

-- How many bytes a call that doesn't fail appends of a piece of this length.
abbrev pub appended_count : SinkInMemory → ℕ → ℕ
appended_count sink size = min sink.cut (min size (sink.room - length sink.written))

-- The next call of the source is one of those that fail.
abbrev pub IsFailing : SourceInMemory → Type 0
IsFailing source = Contains source.failing (raised_count source.calls)

-- The next call of the sink is one of those that fail, or its room is used up.
abbrev pub IsRefusing : SinkInMemory → Type 0
IsRefusing sink = Contains sink.failing (raised_count sink.calls) ⊎ (sink.room ≤ length sink.written)

-- The source after a call that moved so many bytes.
abbrev pub after_moving : SourceInMemory → ℕ → SourceInMemory
after_moving source count = record source { left = drop count source.left; calls = raised_count source.calls }

-- The source after a call that failed.
abbrev pub after_failing : SourceInMemory → SourceInMemory
after_failing source = record source { calls = raised_count source.calls; faults = raised_count source.faults }

-- The sink after a call that appended these bytes.
abbrev pub after_appending : SinkInMemory → List ℕ → SinkInMemory
after_appending sink bytes = record sink { written = sink.written ++ bytes; calls = raised_count sink.calls }

-- The sink after a call that failed.
abbrev pub after_refusing : SinkInMemory → SinkInMemory
after_refusing sink = record sink { calls = raised_count sink.calls; faults = raised_count sink.faults }
