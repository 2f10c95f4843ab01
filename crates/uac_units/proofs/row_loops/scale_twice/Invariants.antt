use Rattle.uac_gain.specs.Gain.{scaled_sample}
use Rattle.uac_units.specs.SampleRows.{HasSamples, sample_at}
use Rattle.uac_units.proofs.row_loops.scale_twice.Given as goal

abbrev pub invariant-loop-tick : goal.invariant-loop-tick
invariant-loop-tick l = HasSamples l.tick (λ tick. scaled_sample (scaled_sample (sample_at tick l.samples) l.own) l.master) l.out
