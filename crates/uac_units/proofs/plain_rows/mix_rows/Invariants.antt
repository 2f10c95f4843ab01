use Rattle.uac_units.specs.declared.jobs.UnitKind.TheVariants.{Mixer}
use Rattle.uac_units.specs.Rendering.{pins_sample}
use Rattle.uac_units.specs.SampleRows.{frame_at}
use Rattle.uac_units.proofs.SampleRowsLemmas.{RowsAreWritten}
use Rattle.uac_units.proofs.plain_rows.mix_rows.Given as goal

abbrev pub invariant-loop-channel : goal.invariant-loop-channel
invariant-loop-channel l = RowsAreWritten l.ticks (λ channel tick. pins_sample Mixer l.job (frame_at tick l.inputs) channel) l.channel l.initial.out l.out
