-- What a call sees of its source and its sink (profile).
use Rattle.std.specs.Prelude.{◌≡◌, ℕ, List, Option}
use Rattle.std.specs.Io.KnownBytes.{Consumes}

-- the bytes that are left of the source, where it tells them, and its faults so far; and the bytes written to the sink, where it tells
-- them, and its faults so far
pub record Outside : Type 0 where
  pub left : Option (List ℕ)
  pub reads : ℕ
  pub written : Option (List ℕ)
  pub writes : ℕ

-- a source and a sink that show this
abbrev pub outside : Option (List ℕ) → ℕ → Option (List ℕ) → ℕ → Outside
outside left reads written writes = record { left = left; reads = reads; written = written; writes = writes }

-- these bytes were taken of the source
abbrev pub Takes : List ℕ → Outside → Outside → Type 0
Takes taken before after = Consumes before.left after.left taken

-- the source is as it was
pub record IsUntouched (before after : Outside) : Type 0 where
  pub left : after.left ≡ before.left
  pub reads : after.reads ≡ before.reads
