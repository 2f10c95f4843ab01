-- What is promised of the lines that were done (profile).
use Rattle.std.specs.Prelude.{◌≡◌, ℕ, List, ◌++◌}
use Rattle.uac_runner.specs.Machine.{Machine, after}

-- Of every front of these lines that leaves a steady world this holds. A world is steady by its history, so while the lines are steady
-- it holds of all that were done so far.
abbrev pub EachSteadyFront : {W L : Type 0} → Machine W L → W → (W → Type 0) → (List (List ℕ) → Type 0) → List (List ℕ) → Type 0
EachSteadyFront m w IsSteady Holds texts =
    (front rest : List (List ℕ)) → texts ≡ front ++ rest → IsSteady (after m.step front w).world → Holds front
