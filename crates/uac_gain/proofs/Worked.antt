-- The definitions at the values that were worked out by hand.
use Rattle.std.proofs.Common.{◌≡◌, refl, pos, negsuc, Some, None}
use Rattle.uac_gain.specs.Gain.{decibel_gain, raised_gain, gain_of, scaled_sample, nearest_in_32_bits}

gain-0 : decibel_gain 0 ≡ 1073741824
unfolding decibel_gain
gain-0 = refl

gain-1 : decibel_gain 1 ≡ 956973408
unfolding decibel_gain
gain-1 = refl

gain-2 : decibel_gain 2 ≡ 852903447
unfolding decibel_gain
gain-2 = refl

raised-0 : raised_gain 0 ≡ 1073741824
unfolding raised_gain
raised-0 = refl

raised-1 : raised_gain 1 ≡ 1204758141
unfolding raised_gain
raised-1 = refl

one_decibel_down : gain_of (negsuc 255) ≡ Some 956973408
unfolding decibel_gain
one_decibel_down = refl

half_a_decibel_down : gain_of (negsuc 127) ≡ Some 1013677647
unfolding decibel_gain
half_a_decibel_down = refl

silence : gain_of (negsuc 32767) ≡ Some 0
silence = refl

off_grid : gain_of (negsuc 254) ≡ None
off_grid = refl

no_half_at_32_down : gain_of (negsuc 8319) ≡ None
no_half_at_32_down = refl

above_the_grid : gain_of (pos 3200) ≡ None
above_the_grid = refl

below_the_grid : gain_of (negsuc 24831) ≡ None
below_the_grid = refl

scaled_sample-full : scaled_sample (pos 1073741824) 956973408 ≡ pos 956973408
scaled_sample-full = refl

scaled_sample-1 : scaled_sample (pos 1) 956973408 ≡ pos 0
scaled_sample-1 = refl

scaled_sample-minus-1 : scaled_sample (negsuc 0) 956973408 ≡ negsuc 0
scaled_sample-minus-1 = refl

-- half a decibel up, then twelve decibels up
half_up : gain_of (pos 128) ≡ Some 1137365026
unfolding raised_gain
half_up = refl

half_up-half_full : scaled_sample (pos 1073741824) 1137365026 ≡ pos 1137365026
half_up-half_full = refl

half_up-full : scaled_sample (pos 2147483647) 1137365026 ≡ pos 2147483647
half_up-full = refl

highest : gain_of (pos 3072) ≡ Some 4274643155
unfolding raised_gain
highest = refl

highest-1 : scaled_sample (pos 1) 4274643155 ≡ pos 3
highest-1 = refl

highest-minus-1 : scaled_sample (negsuc 0) 4274643155 ≡ negsuc 3
highest-minus-1 = refl

highest-least : scaled_sample (negsuc 2147483647) 4274643155 ≡ negsuc 2147483647
highest-least = refl

two_full_inputs : nearest_in_32_bits (pos 4294967294) ≡ pos 2147483647
two_full_inputs = refl

two_least_inputs : nearest_in_32_bits (negsuc 4294967295) ≡ negsuc 2147483647
two_least_inputs = refl
