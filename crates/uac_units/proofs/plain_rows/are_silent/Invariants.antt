use Rattle.std.proofs.Common.{◌<◌, ℕ, [], get_or, pos}
use Rattle.uac_units.specs.SampleRows.{HasSamples}
use Rattle.uac_units.proofs.plain_rows.are_silent.Given as goal

abbrev pub invariant-loop-row : goal.invariant-loop-row
invariant-loop-row l = (channel : ℕ) → channel < l.row-index → HasSamples l.ticks (λ tick. pos 0) (get_or l.rows channel [])
