-- Worked examples of the definitions.
use Rattle.std.proofs.Common.{◌≡◌, ℕ, pos, negsuc, true, false, [], ◌∷◌, refl}
use Rattle.uac_clock.specs.Nominal.{values_of}
use Rattle.uac_rate.specs.PacketSizes.{frames_in_packet}
use Rattle.uac_rate.specs.Reports.{report_of}
use Rattle.uac_rate.specs.Steadiness.{SteadyHistory, nothing_given, with_deviation_given, with_report_given, with_restart_given, is_steady}

-- at 44,100 Hz packets have five frames and six in turn, since the first leaves half a frame
first_of_44100 : frames_in_packet 1 (361267 ∷ []) ≡ 5
first_of_44100 = refl

second_of_44100 : frames_in_packet 1 (361267 ∷ 361267 ∷ []) ≡ 6
second_of_44100 = refl

third_of_44100 : frames_in_packet 1 (361267 ∷ 361267 ∷ 361267 ∷ []) ≡ 5
third_of_44100 = refl

-- with a packet every two microframes each has eleven
second_of_two : frames_in_packet 2 (361267 ∷ 361267 ∷ 361267 ∷ 361267 ∷ []) ≡ 11
second_of_two = refl

-- at 48,000 Hz: on the target, one frame below it and one above, and clamped at both ends
on_target : report_of (values_of 48000) 258 258 ≡ 393216
unfolding values_of
on_target = refl

one_below : report_of (values_of 48000) 258 257 ≡ 394240
unfolding values_of
one_below = refl

one_above : report_of (values_of 48000) 258 259 ≡ 392192
unfolding values_of
one_above = refl

held_above : report_of (values_of 48000) 258 193 ≡ 458752
unfolding values_of
held_above = refl

held_below : report_of (values_of 48000) 258 323 ≡ 327680
unfolding values_of
held_below = refl

far_above : report_of (values_of 48000) 0 4096 ≡ 327680
unfolding values_of
far_above = refl

-- deviations of a thousandth, and of more
a_thousandth : is_steady (with_deviation_given (negsuc 999) (with_deviation_given (pos 1000) nothing_given)) ≡ true
a_thousandth = refl

fast : is_steady (with_deviation_given (pos 0) (with_deviation_given (pos 1001) nothing_given)) ≡ false
fast = refl

slow : is_steady (with_deviation_given (pos 0) (with_deviation_given (negsuc 1000) nothing_given)) ≡ false
slow = refl

-- reports of a stream that were lost, in succession
abbrev lost_one : ℕ → SteadyHistory → SteadyHistory
lost_one stream given = with_report_given stream true given

abbrev lost_three : ℕ → SteadyHistory → SteadyHistory
lost_three stream given = lost_one stream (lost_one stream (lost_one stream given))

three_lost : is_steady (lost_three 1 (with_restart_given 1 nothing_given)) ≡ true
three_lost = refl

four_lost : is_steady (lost_one 1 (lost_three 1 (with_restart_given 1 nothing_given))) ≡ false
four_lost = refl

four_lost_once : is_steady (with_restart_given 1 (with_report_given 1 false (lost_one 1 (lost_three 1 nothing_given)))) ≡ false
four_lost_once = refl

-- one that came between, and a start between, of this stream or of another
one_came : is_steady (lost_three 1 (with_report_given 1 false (lost_three 1 nothing_given))) ≡ true
one_came = refl

restart_between : is_steady (lost_three 1 (with_restart_given 1 (lost_three 1 nothing_given))) ≡ true
restart_between = refl

other_restart_between : is_steady (lost_one 1 (with_restart_given 2 (lost_three 1 nothing_given))) ≡ false
other_restart_between = refl

-- four that were lost by two streams
two_each : is_steady (lost_one 1 (lost_one 2 (lost_one 1 (lost_one 2 nothing_given)))) ≡ true
two_each = refl
