-- The definitions at the values that were worked out by hand.
use Rattle.std.proofs.Common.{◌≡◌, refl, ℕ, pos, negsuc, List, [], ◌∷◌}
use Rattle.uac_units.specs.declared.jobs.Job.{Job}
use Rattle.uac_units.specs.declared.jobs.UnitKind.TheVariants.{Mixer, Selector, Feature, Effect}
use Rattle.uac_units.specs.declared.meter.MeterKind.TheVariants.{Peak, Clipped, Sum}
use Rattle.uac_units.specs.Rendering.{job_samples}
use Rattle.uac_units.specs.Hearing.{value_after_hearing}

job_of : ℕ → ℕ → List ℕ → Job
job_of outputs pin gains = record { outputs = outputs; pin = pin; gains = record { items = gains } }

two_full_inputs : job_samples Mixer (job_of 1 0 (1073741824 ∷ 1073741824 ∷ [])) (pos 2147483647 ∷ pos 2147483647 ∷ []) ≡ pos 2147483647 ∷ []
unfolding job_samples job_of
two_full_inputs = refl

second_pin : job_samples Selector (job_of 2 1 []) (pos 1 ∷ pos 2 ∷ pos 3 ∷ pos 4 ∷ []) ≡ pos 3 ∷ pos 4 ∷ []
unfolding job_samples job_of
second_pin = refl

one_decibel_down : job_samples Feature (job_of 1 0 (956973408 ∷ 1073741824 ∷ [])) (negsuc 0 ∷ []) ≡ negsuc 0 ∷ []
unfolding job_samples job_of
one_decibel_down = refl

bypassed : job_samples Effect (job_of 2 0 []) (pos 5 ∷ negsuc 5 ∷ []) ≡ pos 5 ∷ negsuc 5 ∷ []
unfolding job_samples job_of
bypassed = refl

peak-most_negative : value_after_hearing Peak 0 (negsuc 2147483647 ∷ pos 2147483647 ∷ []) ≡ 2147483648
peak-most_negative = refl

clipped-both : value_after_hearing Clipped 0 (negsuc 2147483647 ∷ pos 2147483647 ∷ negsuc 2147483646 ∷ []) ≡ 2
clipped-both = refl

sum-stands_still : value_after_hearing Sum 18446744073709551615 (negsuc 0 ∷ []) ≡ 18446744073709551615
sum-stands_still = refl

-- a frame of 256 and -256, then silence
sum-two_channels : value_after_hearing Sum (value_after_hearing Sum 0 (pos 256 ∷ negsuc 255 ∷ [])) (pos 0 ∷ pos 0 ∷ []) ≡ 512
sum-two_channels = refl
