use Rattle.std.proofs.Common.{◌≡◌, ◌%◌, ◌^◌, ◌++◌, ℕ}
use Rattle.uac_bench.specs.BenchStreams.{numbered}
use Rattle.uac_bench.proofs.frames.put_numbered.Given as goal

abbrev pub invariant-loop-at : goal.invariant-loop-at
invariant-loop-at l = (n : ℕ) → l.formed ≡ n % 2 ^ 32 → l.ring ≡ l.initial.ring ++ numbered n l.at
