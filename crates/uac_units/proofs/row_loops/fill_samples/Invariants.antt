use Rattle.uac_units.specs.SampleRows.{HasSamples}
use Rattle.uac_units.proofs.row_loops.fill_samples.Given as goal

abbrev pub invariant-loop-tick : goal.invariant-loop-tick
invariant-loop-tick l = HasSamples l.tick (λ tick. l.sample) l.out
