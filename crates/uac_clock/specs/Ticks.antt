-- profile: a clock counts what its steps give, in 65,536ths of a frame, and ticks once for each whole frame.
use Rattle.std.specs.Prelude.{◌≡◌, ℕ, ◌-◌, ◌/◌, ◌%◌, List, length, take, sum}

-- the ticks of the last microframe: the whole frames of all its steps, without those of all but the last
abbrev pub ticks_in : List ℕ → ℕ
ticks_in steps = sum steps / 65536 - sum (take (length steps - 1) steps) / 65536

-- the phase of a clock after these steps
abbrev pub IsPhaseAfter : ℕ → List ℕ → Type 0
IsPhaseAfter phase steps = phase ≡ sum steps % 65536
