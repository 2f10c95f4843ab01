-- Where the sum over the integers is below 0, a report is clamped at the least packet, and so it is over the natural numbers.
use Rattle.std.proofs.Common.{arith, ◌≡◌, ℕ, ◌*◌, pos, ◌+ℤ◌, ◌-ℤ◌, ◌*ℤ◌}
use Rattle.std.proofs.lemmas.Int.{ints, clamps}
use Rattle.std.specs.Int.{int_min, int_max}
use Rattle.uac_clock.specs.declared.values.Nominal.{Nominal}
use Rattle.uac_rate.specs.Reports.{report_of}

pub over_integers : (values : Nominal) (target level : ℕ)
    → pos (report_of values target level)
    ≡ int_max (pos (values.lo * 65536)) (int_min (pos values.f +ℤ pos 1024 *ℤ (pos target -ℤ pos level)) (pos (values.hi * 65536)))
over_integers values target level = omega (arith, ints, clamps)
