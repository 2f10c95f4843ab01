use Rattle.std.proofs.Common.{◌≡◌, ◌+◌, ◌+ℤ◌, ◌≤◌, ℕ}
use Rattle.uac_gain.specs.Gain.{scaled_sample}
use Rattle.uac_units.specs.SampleRows.{HasSamples, sample_at}
use Rattle.uac_units.proofs.row_loops.add_lowered.Given as goal

abbrev pub invariant-loop-tick : goal.invariant-loop-tick
invariant-loop-tick l = record {
  done : HasSamples l.tick (λ tick. sample_at tick l.initial.sums +ℤ scaled_sample (sample_at (l.from + tick) l.samples) l.gain) l.sums;
  rest : (tick : ℕ) → l.tick ≤ tick → sample_at tick l.sums ≡ sample_at tick l.initial.sums;
}
