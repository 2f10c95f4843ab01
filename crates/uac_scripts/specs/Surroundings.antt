-- What a call sees of its outside, and what the meters show that hear it (profile).
use Rattle.std.specs.Prelude.{ℕ, List, Option}
use Rattle.uac_ends.specs.Outside.{Outside}
use Rattle.uac_units.specs.Hearing.{Reading}

pub record Surroundings : Type 0 where
  pub outer : Outside
  pub shown : List Reading

-- such a source and such a sink, and meters that show this
abbrev pub surroundings : Outside → List Reading → Surroundings
surroundings outer shown = record { outer = outer; shown = shown }

-- the same sink and meters with another source: what is left of it, and its faults so far
abbrev pub with_source : Option (List ℕ) → ℕ → Surroundings → Surroundings
with_source left reads around =
    surroundings (record { left = left; reads = reads; written = around.outer.written; writes = around.outer.writes }) around.shown
