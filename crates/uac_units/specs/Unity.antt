-- Gains that leave a sample as it is (profile: the arithmetic of units, as in Rendering).
use Rattle.std.specs.Prelude.{◌≡◌, ℕ, ◌+◌, ◌*◌, slice_index}
use Rattle.uac_gain.specs.Gain.{unity}
use Rattle.uac_units.specs.declared.jobs.Job.{Job}

-- both gains of a feature's channel are 0 decibels
abbrev pub HasUnity : Job → ℕ → Type 0
HasUnity job channel =
    (slice_index job.gains.items (2 * channel) ≡ unity) × (slice_index job.gains.items (2 * channel + 1) ≡ unity)
