-- How many frames come to a stream's ring and how many are played, by each part of a microframe.
use Rattle.std.proofs.Common.{arith, ◌≡◌, ℕ, zero, suc, ◌+◌, ◌-◌, ◌≤◌, Bool, true, false, nat_le, if◌then◌else◌, ℤ, List, [], ◌∷◌, ◌++◌, length, map, drop, replicate, Option, Some, None, refl, ap, sym, ◌∙◌, length-append, length-drop}
use Rattle.std.proofs.lemmas.Bool.{le-leb}
use Rattle.std.proofs.lemmas.List.{length-replicate}
use Rattle.std.proofs.lemmas.List.FromFn.{length-map-range_with_len}
use Rattle.uac_ring.specs.declared.arrival.Arrival.{Arrival}
use Rattle.uac_ring.specs.declared.arrival.Arrival.TheVariants as arrivals
use Rattle.uac_bench.specs.BenchStreams.{StreamWorld, level_of, numbered_frame, numbered, arrives_by, arrival_of, received_by, after_packet, silent_frame, ticked_by, after_tick, is_dry_by, is_dry, with_zeros, target_by, after_priming}

-- so many frames came and so many were played, and nothing else happened
pub record Moved (s t : StreamWorld) (came gone : ℕ) : Type 0 where
  pub arrived : length t.arrived ≡ length s.arrived + came
  pub played : t.played ≡ s.played + gone
  pub target : t.target ≡ s.target
  pub under : t.met.under ≡ s.met.under
  pub over : t.met.over ≡ s.met.over

-- frames of the packet at its place, and the zero frames at theirs
abbrev pub at_first : Bool → ℕ → ℕ
at_first false size = size
at_first true size = 0

abbrev pub at_last : Bool → ℕ → ℕ
at_last false ticks = 0
at_last true ticks = ticks

pub unmoved : (s : StreamWorld) → Moved s s 0 0
unmoved s = record { arrived = omega arith; played = omega arith; target = refl; under = refl; over = refl }

pub joined : (a b c : StreamWorld) (n m p q : ℕ) → Moved a b n p → Moved b c m q → Moved a c (n + m) (p + q)
joined a b c n m p q x y = record {
  arrived = omega (arith, x.arrived, y.arrived);
  played = omega (arith, x.played, y.played);
  target = y.target ∙ x.target;
  under = y.under ∙ x.under;
  over = y.over ∙ x.over;
}

received_moves : (lost fits : Bool) (size formed : ℕ) (s : StreamWorld) → fits ≡ true
    → Moved s (record (received_by (arrives_by lost fits) (numbered s.formed size) s) { formed = formed }) (at_first lost size) 0
received_moves true fits size formed s h = record { arrived = omega arith; played = omega arith; target = refl; under = refl; over = refl }
received_moves false true size formed s h =
    let long = length-map-range_with_len numbered_frame (s.formed + 1) size in
    record {
      arrived = length-append s.arrived (numbered s.formed size) ∙ ap (λ (n : ℕ). length s.arrived + n) long;
      played = omega arith;
      target = refl;
      under = refl;
      over = refl;
    }
received_moves false false size formed s h = absurd (cc)

-- a packet for which there is room
pub packet_moves : (most : ℕ) (lost : Bool) (size : ℕ) (s : StreamWorld) → level_of s + size ≤ most → Moved s (after_packet most lost size s) (at_first lost size) 0
unfolding after_packet
packet_moves most lost size s fits =
    received_moves lost (nat_le (level_of s + size) most) size (s.formed + size) s (le-leb (level_of s + size) most fits)

pub packet_fits : (most : ℕ) (lost : Bool) (size : ℕ) (s : StreamWorld) → level_of s + size ≤ most → (arrival_of most lost size s ≡ arrivals.Over) → ⊥
packet_fits most lost size s fits is = by lost (nat_le (level_of s + size) most) (le-leb (level_of s + size) most fits) is where
  by : (lost fits : Bool) → fits ≡ true → (arrives_by lost fits ≡ arrivals.Over) → ⊥
  by true fits h is = cc
  by false true h is = cc
  by false false h is = cc

-- a tick moved the stream so, and didn't find its ring empty
pub record Ticked (s t : StreamWorld) (gone : ℕ) (dry : Bool) : Type 0 where
  pub moved : Moved s t 0 gone
  pub wet : dry ≡ false

-- of a primed stream that has a frame
primed_by : (s : StreamWorld) (target : ℕ) (o : Option ℕ) (rest : List (List ℤ)) → o ≡ Some target → 1 ≤ length rest
    → Ticked s (ticked_by o rest s) 1 (is_dry_by o rest)
primed_by s target None rest e some = absurd (cc)
primed_by s target (Some t) [] e some = absurd (none some) where
  none : 1 ≤ 0 → ⊥
  none h = omega arith
primed_by s target (Some t) (frame ∷ more) e some =
    record { moved = record { arrived = omega arith; played = omega arith; target = refl; under = refl; over = refl }; wet = refl }

pub primed_tick : (s : StreamWorld) (target : ℕ) → s.target ≡ Some target → s.played + 1 ≤ length s.arrived → Ticked s (after_tick s) 1 (is_dry s)
unfolding after_tick is_dry
primed_tick s target is enough =
    primed_by s target s.target (drop s.played s.arrived) is (let left = length-drop s.played s.arrived in omega arith)

-- of a priming one
priming_by : (s : StreamWorld) (o : Option ℕ) (rest : List (List ℤ)) → o ≡ None → Ticked s (ticked_by o rest s) 0 (is_dry_by o rest)
priming_by s (Some t) rest e = absurd (cc)
priming_by s None rest e = record { moved = unmoved s; wet = refl }

pub priming_tick : (s : StreamWorld) → s.target ≡ None → Ticked s (after_tick s) 0 (is_dry s)
unfolding after_tick is_dry
priming_tick s is = priming_by s s.target (drop s.played s.arrived) is

-- zeros
pub zeros_move : (lost : Bool) (count : ℕ) (s : StreamWorld) → Moved s (if lost then with_zeros count s else s) (at_last lost count) 0
unfolding with_zeros
zeros_move true count s = record {
  arrived = length-append s.arrived (replicate count silent_frame) ∙ ap (λ (n : ℕ). length s.arrived + n) (length-replicate count silent_frame);
  played = omega arith;
  target = refl;
  under = refl;
  over = refl;
}
zeros_move false count s = unmoved s
