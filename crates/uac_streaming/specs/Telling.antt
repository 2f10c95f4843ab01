-- What is told: lines, and the world after them (profile).
use Rattle.std.specs.Prelude.{ℕ, List, [], ◌∷◌, ◌++◌}
use Rattle.uac_transcript.specs.Transcript.{Said}

-- a world, and the lines that were said on the way to it
pub record Telling (W : Type 0) : Type 0 where
  pub lines : List Said
  pub world : W

-- some lines, and then what is told
abbrev pub telling_after : {W : Type 0} → List Said → Telling W → Telling W
telling_after lines told = record { lines = lines ++ told.lines; world = told.world }

-- nothing happens and nothing is said
abbrev pub without_event : {W : Type 0} → W → Telling W
without_event w = record { lines = []; world = w }

-- something of each of these, one after the other
unfoldable pub in_turn : {W : Type 0} → (ℕ → W → Telling W) → List ℕ → W → Telling W
in_turn event [] w = without_event w
in_turn event (n ∷ ns) w = telling_after (event n w).lines (in_turn event ns (event n w).world)
