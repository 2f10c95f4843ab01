use Rattle.std.proofs.Common.{◌≡◌, ◌*◌, ◌<◌, ℕ, length}
use Rattle.uac_units.specs.declared.jobs.UnitKind.TheVariants.{Mixer}
use Rattle.uac_units.specs.Rendering.{pins_sample}
use Rattle.uac_units.specs.SampleRows.{frame_at, sample_at}
use Rattle.uac_units.proofs.plain_rows.mix_row.Given as goal

abbrev pub invariant-loop-piece : goal.invariant-loop-piece
invariant-loop-piece l = record {
  done : (tick : ℕ) → tick < 32 * l.piece → tick < l.ticks → sample_at tick l.row ≡ pins_sample Mixer l.job (frame_at tick l.inputs) l.channel;
  length : length l.row ≡ length l.initial.row;
}
