use Rattle.std.proofs.Common.{◌≡◌, ◌+◌, ◌<◌, ℕ}
use Rattle.uac_gain.specs.Gain.{nearest_in_32_bits}
use Rattle.uac_units.specs.SampleRows.{HasSamples, sample_at}
use Rattle.uac_units.proofs.row_loops.saturate_sums.Given as goal

abbrev pub invariant-loop-tick : goal.invariant-loop-tick
invariant-loop-tick l = record {
  before : HasSamples l.from (λ tick. sample_at tick l.initial.out) l.out;
  done : (tick : ℕ) → tick < l.tick → sample_at (l.from + tick) l.out ≡ nearest_in_32_bits (sample_at tick l.sums);
}
