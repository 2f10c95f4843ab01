-- One mono stream to the device of a bench, which has no format: its packets, ticks and zeros (profile).
use Rattle.std.specs.Prelude.{ℕ, zero, suc, ◌+◌, ◌-◌, Bool, true, false, nat_le, ℤ, pos, List, [], ◌∷◌, ◌++◌, length, map, drop, replicate, Option, Some, None}
use Rattle.std.specs.List.{range_with_len}
use Rattle.uac_pcm.specs.Subslots.{wrap}
use Rattle.uac_units.specs.Hearing.{at_most_u64}
use Rattle.uac_ring.specs.declared.arrival.Arrival.{Arrival}
use Rattle.uac_ring.specs.declared.arrival.Arrival.TheVariants as arrivals
use Rattle.uac_ring.specs.declared.counts.StreamCounts.{StreamCounts}

pub record StreamWorld : Type 0 where
  -- all frames since the stream last began to prime, how many of them were played, and the level at which it was primed, none while it
  -- is priming
  pub arrived : List (List ℤ)
  pub played : ℕ
  pub target : Option ℕ
  -- how many frames were formed
  pub formed : ℕ
  -- rings found empty, packets for which there was no room, packets lost, reports missed
  pub met : StreamCounts

abbrev pub nothing_met : StreamCounts
nothing_met = record { under = 0; over = 0; lost = 0; missed = 0 }

abbrev pub stream_start : StreamWorld
stream_start = record { arrived = []; played = 0; target = None; formed = 0; met = nothing_met }

-- the frames in the stream's ring
abbrev pub level_of : StreamWorld → ℕ
level_of s = length s.arrived - s.played

-- counts stand still at the greatest number of 64 bits
abbrev pub one_under : StreamCounts → StreamCounts
one_under c = record c { under = at_most_u64 (c.under + 1) }

abbrev pub one_over : StreamCounts → StreamCounts
one_over c = record c { over = at_most_u64 (c.over + 1) }

abbrev pub one_lost : StreamCounts → StreamCounts
one_lost c = record c { lost = at_most_u64 (c.lost + 1) }

abbrev pub one_missed : StreamCounts → StreamCounts
one_missed c = record c { missed = at_most_u64 (c.missed + 1) }

-- ---- packets

-- the frame that is formed as the n-th, from 1, holds its number
abbrev pub numbered_frame : ℕ → List ℤ
numbered_frame n = wrap (pos n) ∷ []

-- so many frames, formed after `formed` others
abbrev pub numbered : ℕ → ℕ → List (List ℤ)
numbered formed count = map numbered_frame (range_with_len (formed + 1) count)

-- how a packet arrives that is lost, or for which there is room
abbrev pub arrives_by : Bool → Bool → Arrival
arrives_by true fits = arrivals.Lost
arrives_by false true = arrivals.Taken
arrives_by false false = arrivals.Over

-- a packet that would bring the level above the most is over
abbrev pub arrival_of : ℕ → Bool → ℕ → StreamWorld → Arrival
arrival_of most lost count s = arrives_by lost (nat_le (level_of s + count) most)

abbrev pub received_by : Arrival → List (List ℤ) → StreamWorld → StreamWorld
received_by arrivals.Taken frames s = record s { arrived = s.arrived ++ frames }
received_by arrivals.Lost frames s = record s { met = one_lost s.met }
received_by arrivals.Over frames s = record s { met = one_over s.met }

-- a packet of so many frames is formed, and arrives or is lost
unfoldable pub after_packet : ℕ → Bool → ℕ → StreamWorld → StreamWorld
after_packet most lost count s =
    record (received_by (arrival_of most lost count s) (numbered s.formed count) s) { formed = s.formed + count }

-- ---- ticks

abbrev pub silent_frame : List ℤ
silent_frame = pos 0 ∷ []

-- the next frame of a primed stream is played; a priming one plays silence, and so does one whose ring is empty, which primes again
abbrev pub ticked_by : Option ℕ → List (List ℤ) → StreamWorld → StreamWorld
ticked_by None waiting s = s
ticked_by (Some target) [] s = record s { arrived = []; played = 0; target = None; met = one_under s.met }
ticked_by (Some target) (frame ∷ more) s = record s { played = suc s.played }

unfoldable pub after_tick : StreamWorld → StreamWorld
after_tick s = ticked_by s.target (drop s.played s.arrived) s

abbrev pub played_by : Option ℕ → List (List ℤ) → List ℤ
played_by None waiting = silent_frame
played_by (Some target) [] = silent_frame
played_by (Some target) (frame ∷ more) = frame

-- what the next tick plays
unfoldable pub played_in : StreamWorld → List ℤ
played_in s = played_by s.target (drop s.played s.arrived)

abbrev pub is_dry_by : Option ℕ → List (List ℤ) → Bool
is_dry_by None waiting = false
is_dry_by (Some target) [] = true
is_dry_by (Some target) (frame ∷ more) = false

-- the next tick finds the ring of a primed stream empty
unfoldable pub is_dry : StreamWorld → Bool
is_dry s = is_dry_by s.target (drop s.played s.arrived)

-- so many ticks
unfoldable pub after_ticks : ℕ → StreamWorld → StreamWorld
after_ticks zero s = s
after_ticks (suc count) s = after_ticks count (after_tick s)

-- ---- the end of a frame of the bus

-- silent frames in place of a lost packet
unfoldable pub with_zeros : ℕ → StreamWorld → StreamWorld
with_zeros count s = record s { arrived = s.arrived ++ replicate count silent_frame }

abbrev pub target_by : Option ℕ → Bool → ℕ → Option ℕ
target_by (Some target) enough level = Some target
target_by None true level = Some level
target_by None false level = None

-- a priming stream with at least 256 frames becomes primed; its target is its level now
unfoldable pub after_priming : StreamWorld → StreamWorld
after_priming s = record s { target = target_by s.target (nat_le 256 (level_of s)) (level_of s) }
