-- Where the sum over the integers is below 0, a report is clamped at the least packet, and so it is over the natural numbers.
use Rattle.std.proofs.Common.{arith, ◌≡◌, ℕ, ◌*◌, pos, ◌+ℤ◌, ◌-ℤ◌, ◌*ℤ◌}
use Rattle.std.proofs.lemmas.Int.{ints, clamps}
use Rattle.std.specs.Int.{int_min, int_max}
use Rattle.uac_fullspeed.specs.declared.values.FsNominal.{FsNominal}
use Rattle.uac_fullspeed.specs.FullSpeedNominal.{fs_report_of}

pub over_integers : (values : FsNominal) (target level : ℕ)
    → pos (fs_report_of values target level)
    ≡ int_max (pos (values.lo * 16384)) (int_min (pos values.f +ℤ pos 256 *ℤ (pos target -ℤ pos level)) (pos (values.hi * 16384)))
over_integers values target level = omega (arith, ints, clamps)
