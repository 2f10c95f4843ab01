use Rattle.uac_units.specs.SampleRows.{HasSamples, sample_at}
use Rattle.uac_units.proofs.row_loops.copy_samples.Given as goal

abbrev pub invariant-loop-tick : goal.invariant-loop-tick
invariant-loop-tick l = HasSamples l.tick (λ tick. sample_at tick l.samples) l.out
