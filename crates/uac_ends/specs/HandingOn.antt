-- How a run ends once all that waits in the sink was to be handed on.
use Rattle.std.specs.Prelude.{◌≡◌, ◌≢◌, ℕ, ◌⊎◌}
use Rattle.uac_edges.specs.Faults.{Rose}
use Rattle.uac_ends.specs.declared.status.Status.{Status}
use Rattle.uac_ends.specs.declared.status.Status.TheVariants as statuses

-- how a run that was to end so ends, once all that waits was to be handed on: so, and that met no fault; or a write failed in that
abbrev pub HandsOn : Status → ℕ → ℕ → Status → Type 0
HandsOn status before after status' =
    ((status' ≡ status) × (after ≡ before)) ⊎ ((status ≢ statuses.WriteFault) × (status' ≡ statuses.WriteFault) × Rose before after)
