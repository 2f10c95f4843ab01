-- What is kept of a bench's stream and of its clock, and for which worlds it stands.
use Rattle.std.specs.Prelude.{◌≡◌, ℕ, ◌/◌, ◌%◌, ◌^◌, ℤ, List, sum, Option}
use Rattle.uac_clock.specs.Ticks.{IsPhaseAfter}
use Rattle.uac_ring.specs.Rings.{Holds}
use Rattle.uac_units.specs.Hearing.{at_most_u64}
use Rattle.uac_ring.specs.declared.counts.StreamCounts.{StreamCounts}
use Rattle.uac_bench.specs.BenchStreams.{StreamWorld}

-- what a bench's stream is seen as: of the frames formed it keeps the number, as far as 32 bits hold it
pub record BenchStreamFields : Type 0 where
  pub ring : List (List ℤ)
  pub target : Option ℕ
  pub formed : ℕ
  pub met : StreamCounts

pub record BenchStreamStands (kept : BenchStreamFields) (s : StreamWorld) : Type 0 where
  pub held : Holds s.arrived s.played kept.ring
  pub target : kept.target ≡ s.target
  pub formed : kept.formed ≡ s.formed % 2 ^ 32
  pub met : kept.met ≡ s.met

-- what a bench's clock is seen as
pub record BenchClockFields : Type 0 where
  pub phase : ℕ
  pub ticks : ℕ

-- the steps of a clock in 65,536ths of a frame, and the ticks that they are
pub record BenchClockStands (kept : BenchClockFields) (steps : List ℕ) : Type 0 where
  pub phase : IsPhaseAfter kept.phase steps
  pub ticks : kept.ticks ≡ at_most_u64 (sum steps / 65536)
