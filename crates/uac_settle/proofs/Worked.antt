-- Worked examples: the twelve numbers, what gaps leave of errors, and intervals.
use Rattle.std.proofs.Common.{arith, ◌≡◌, [], ◌∷◌, map, true, false, None, Some, inl, inr, refl}
use Rattle.uac_clock.specs.declared.values.Nominal.{Nominal}
use Rattle.uac_clock.specs.Nominal.{twelve_rates, nominal_of, values_of}
use Rattle.uac_rate.specs.Levels.{Point}
use Rattle.uac_settle.specs.Settling.{pull_of, bound_of, left_of, Ends, Turn}

-- what a microframe takes home at least
pulls : map (λ hertz. pull_of (values_of hertz)) twelve_rates ≡
    4031 ∷ 4006 ∷ 3965 ∷ 3916 ∷ 3834 ∷ 3735 ∷ 3703 ∷ 3572 ∷ 916 ∷ 3310 ∷ 1831 ∷ 2524 ∷ []
unfolding values_of
pulls = refl

-- the microframes until a stream is at home; none takes longer than 88,200 Hz
bounds : map bound_of twelve_rates ≡
    Some 2129 ∷ Some 2142 ∷ Some 2164 ∷ Some 2190 ∷ Some 2235 ∷ Some 2293 ∷ Some 2312 ∷ Some 2395 ∷ Some 9151 ∷ Some 2579 ∷ Some 4610 ∷ Some 3362 ∷ []
unfolding nominal_of values_of
bounds = refl

-- no stream runs at 44,000 Hz
none_44000 : bound_of 44000 ≡ None
unfolding nominal_of
none_44000 = refl

-- 48,000 Hz, a packet every 2 microframes and a report every 4, primed with 602 frames; the clock is a thousandth fast
abbrev at_48000 : Nominal
at_48000 = record { f = 393216; e = 393; lo = 5; hi = 7 }

abbrev before : Point
before = record { level = 600; target = 602; host = 0; clock = 65200; value = 393216; waited = 2; lost = 3 }

abbrev following : Point
following = record { level = 599; target = 602; host = 0; clock = 450; value = 393216; waited = 4; lost = 3 }

-- twelve frames come and thirteen ticks go; the report that is due then asks for 3,072 more
thirteen_ticks : Turn at_48000 2 4 (record { steps = 393609 ∷ 393609 ∷ []; packet_lost = false; report_lost = false }) before
    (record { level = 599; target = 602; host = 0; clock = 450; value = 396288; waited = 0; lost = 0 })
thirteen_ticks = record {
  is_served = record { whole = refl; slight = ((omega arith, omega arith), ((omega arith, omega arith), tt)) };
  following = following;
  interval = record {
    steps = 787218;
    slight = (omega arith, omega arith);
    sent = 12;
    sent_is = refl;
    host_is = refl;
    ticks = 13;
    ticks_is = refl;
    clock_is = refl;
    level_is = refl;
    target_is = refl;
    value_is = refl;
    waited_is = refl;
    in_time = omega arith;
    lost_is = refl;
  };
  steps_are = refl;
  ends = inr (record {
    due = refl;
    waited_is = refl;
    lost_is = refl;
    few = omega arith;
    value_is = refl;
    level_is = refl;
    target_is = refl;
    host_is = refl;
    clock_is = refl;
  });
}

-- lost, it would be the fourth in succession: that is no interval of a stretch
no_fourth : (q : Point) → Turn at_48000 2 4 (record { steps = 393609 ∷ 393609 ∷ []; packet_lost = false; report_lost = true }) before q → ⊥
no_fourth q turn = from turn.ends where
  from : Ends at_48000 4 true turn.following q → ⊥
  from (inl none) = absurd (omega (arith, none, turn.interval.waited_is))
  from (inr r) = absurd (omega (arith, r.lost_is, r.few, turn.interval.lost_is))

-- what may be left at the end of a gap of 32 microframes, at 48,000 Hz
left_of_errors : map (left_of (pull_of at_48000) 32) (0 ∷ 262144 ∷ 262145 ∷ 380640 ∷ 380641 ∷ 8585215 ∷ []) ≡ 262144 ∷ 262144 ∷ 262144 ∷ 262144 ∷ 262145 ∷ 8466719 ∷ []
left_of_errors = refl
