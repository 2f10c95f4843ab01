-- profile: the value that a feedback endpoint reports, in 65,536ths of a frame in a microframe: USB 2.0, 5.12.4.2.
use Rattle.std.specs.Prelude.{◌≡◌, ℕ, ◌+◌, ◌-◌, ◌*◌, min, max, pos, ◌+ℤ◌, ◌-ℤ◌, ◌*ℤ◌}
use Rattle.std.specs.Int.{int_min, int_max}
use Rattle.uac_clock.specs.declared.values.Nominal.{Nominal}

-- the nominal value, and 1,024 more for each frame below the target or less for each above it, clamped between the least and the
-- greatest packet; where the difference would be below 0 it is clamped at the least anyway
abbrev pub report_of : Nominal → ℕ → ℕ → ℕ
report_of values target level = max (values.lo * 65536) (min (values.f + 1024 * target - 1024 * level) (values.hi * 65536))

-- the report over the integers
abbrev pub ReportsOverIntegers : Type 0
ReportsOverIntegers =
    (values : Nominal) (target level : ℕ)
    → pos (report_of values target level)
    ≡ int_max (pos (values.lo * 65536)) (int_min (pos values.f +ℤ pos 1024 *ℤ (pos target -ℤ pos level)) (pos (values.hi * 65536)))
