-- Worked examples of the definitions.
use Rattle.std.proofs.Common.{◌≡◌, pos, negsuc, None, Some, [], ◌∷◌, refl}
use Rattle.uac_clock.specs.Nominal.{nominal_of, values_of, step_of}
use Rattle.uac_clock.specs.Ticks.{ticks_in}

-- 44,100 Hz are five and a half frames in a microframe
values_44100 : nominal_of 44100 ≡ Some (record { f = 361267; e = 361; lo = 5; hi = 6 })
unfolding nominal_of values_of
values_44100 = refl

-- no clock runs at 44,000 Hz
none_44000 : nominal_of 44000 ≡ None
unfolding nominal_of
none_44000 = refl

-- a thousandth more and less of 48,000 Hz
fast : step_of (values_of 48000) (pos 1000) ≡ 393609
unfolding values_of
fast = refl

slow : step_of (values_of 48000) (negsuc 999) ≡ 392823
unfolding values_of
slow = refl

-- at 44,100 Hz the second microframe has six ticks, since the first left half a frame
second_of_44100 : ticks_in (361267 ∷ 361267 ∷ []) ≡ 6
second_of_44100 = refl
