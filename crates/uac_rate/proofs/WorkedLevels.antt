-- Worked examples of the bands: the twelve rates, an interval, a report, and points in and out of the bands.
use Rattle.std.proofs.Common.{arith, ◌≡◌, ℕ, ◌+◌, ◌-◌, ◌*◌, [], ◌∷◌, map, false, inl, inr, refl}
use Rattle.uac_clock.specs.declared.values.Nominal.{Nominal}
use Rattle.uac_clock.specs.Nominal.{twelve_rates, values_of}
use Rattle.uac_rate.specs.Levels.{Point, Interval, TakesReport, IsLow, IsTarget}

-- the nominal values of the twelve rates
table : map values_of twelve_rates ≡
    record { f = 65536; e = 65; lo = 0; hi = 2 } ∷
    record { f = 90316; e = 90; lo = 1; hi = 2 } ∷
    record { f = 131072; e = 131; lo = 1; hi = 3 } ∷
    record { f = 180633; e = 180; lo = 2; hi = 3 } ∷
    record { f = 262144; e = 262; lo = 3; hi = 5 } ∷
    record { f = 361267; e = 361; lo = 5; hi = 6 } ∷
    record { f = 393216; e = 393; lo = 5; hi = 7 } ∷
    record { f = 524288; e = 524; lo = 7; hi = 9 } ∷
    record { f = 722534; e = 722; lo = 11; hi = 12 } ∷
    record { f = 786432; e = 786; lo = 11; hi = 13 } ∷
    record { f = 1445068; e = 1445; lo = 22; hi = 23 } ∷
    record { f = 1572864; e = 1572; lo = 23; hi = 25 } ∷ []
unfolding values_of
table = refl

-- by how much a rate meets each fact of its band: what the least packet takes and the greatest brings beyond a slight deviation, how far
-- these two are apart, and what an error of 66 frames asks for beyond them
record Margins : Type 0 where
  below : ℕ
  above : ℕ
  apart : ℕ
  up : ℕ
  down : ℕ

abbrev margins : Nominal → Margins
margins v = record {
  below = v.f - v.e - v.lo * 65536;
  above = v.hi * 65536 - (v.f + v.e);
  apart = v.hi - v.lo;
  up = v.f + 1024 * 66 - v.hi * 65536;
  down = v.lo * 65536 + 1024 * 66 - v.f;
}

margins_of_the_twelve : map (λ hertz. margins (values_of hertz)) twelve_rates ≡
    (record { below = 65471; above = 65471; apart = 2; up = 2048; down = 2048 }) ∷
    (record { below = 24690; above = 40666; apart = 1; up = 26828; down = 42804 }) ∷
    (record { below = 65405; above = 65405; apart = 2; up = 2048; down = 2048 }) ∷
    (record { below = 49381; above = 15795; apart = 1; up = 51609; down = 18023 }) ∷
    (record { below = 65274; above = 65274; apart = 2; up = 2048; down = 2048 }) ∷
    (record { below = 33226; above = 31588; apart = 1; up = 35635; down = 33997 }) ∷
    (record { below = 65143; above = 65143; apart = 2; up = 2048; down = 2048 }) ∷
    (record { below = 65012; above = 65012; apart = 2; up = 2048; down = 2048 }) ∷
    (record { below = 916; above = 63176; apart = 1; up = 3686; down = 65946 }) ∷
    (record { below = 64750; above = 64750; apart = 2; up = 2048; down = 2048 }) ∷
    (record { below = 1831; above = 60815; apart = 1; up = 5324; down = 64308 }) ∷
    (record { below = 63964; above = 63964; apart = 2; up = 2048; down = 2048 }) ∷ []
unfolding values_of
margins_of_the_twelve = refl

-- 48,000 Hz, a packet in each microframe, a report every 8, primed with 258 frames; the clock is a thousandth fast
abbrev at_48000 : Nominal
at_48000 = record { f = 393216; e = 393; lo = 5; hi = 7 }

abbrev point : ℕ → ℕ → ℕ → ℕ → Point
point level value waited lost = record { level = level; target = 258; host = 0; clock = 65200; value = value; waited = waited; lost = lost }

-- six frames come and seven ticks go
seven_ticks : Interval at_48000 1 8 false (point 258 393216 7 0) (record { level = 257; target = 258; host = 0; clock = 57; value = 393216; waited = 8; lost = 0 })
seven_ticks = record {
  steps = 393609;
  slight = (omega arith, omega arith);
  sent = 6;
  sent_is = refl;
  host_is = refl;
  ticks = 7;
  ticks_is = refl;
  clock_is = refl;
  level_is = refl;
  target_is = refl;
  value_is = refl;
  waited_is = refl;
  in_time = omega arith;
  lost_is = refl;
}

-- the report that is due then asks for 1,024 more
asks_for_more : TakesReport at_48000 8 false (point 257 393216 8 3) (point 257 394240 0 0)
asks_for_more = record {
  due = refl;
  waited_is = refl;
  lost_is = refl;
  few = omega arith;
  value_is = refl;
  level_is = refl;
  target_is = refl;
  host_is = refl;
  clock_is = refl;
}

-- 129 frames too few are low still where the greatest packets come, and 65 where a report has just come; 130, or 66, are not
lowest : IsLow at_48000 65 8 (point 129 458752 0 0)
lowest = inr (omega arith, refl)

too_low : IsLow at_48000 65 8 (point 128 458752 0 0) → ⊥
too_low (inl far) = omega arith
too_low (inr held) = omega arith

low_at_a_report : IsLow at_48000 65 8 (point 193 393216 0 0)
low_at_a_report = inl (omega arith)

too_low_at_a_report : IsLow at_48000 65 8 (point 192 393216 0 0) → ⊥
too_low_at_a_report (inl far) = omega arith
too_low_at_a_report (inr held) = absurd (omega (arith, held.1))

-- after three lost reports and 8 microframes more it may be 129 again
lowest_of_all : IsLow at_48000 65 8 (point 129 393216 8 3)
lowest_of_all = inl (omega arith)

-- levels at which a stream is primed
highest_target : IsTarget 1 280 × IsTarget 2 711
highest_target = (record { single = λ h. (omega arith, omega arith); longer = λ h. absurd (omega arith) }, record { single = λ h. absurd (omega arith); longer = λ h. (omega arith, omega arith) })

too_high_a_target : IsTarget 1 281 → ⊥
too_high_a_target h = let t = h.single refl in omega arith
