-- What is printed of a bench's stream, by the detail (profile). The stream's interface is 1, and so is its terminal.
use Rattle.std.specs.Prelude.{ℕ, nat_le, Bool, true, false, ℤ, List, [], ◌∷◌, ◌++◌, Option}
use Rattle.uac_ring.specs.declared.arrival.Arrival.{Arrival}
use Rattle.uac_ring.specs.declared.arrival.Arrival.TheVariants as arrivals
use Rattle.uac_transcript.specs.Transcript.{Said, says_microframe, says_out, says_over, says_under, says_played, says_level}

-- lines, where they are said
abbrev pub if_said : {A : Type 0} → Bool → List A → List A
if_said true lines = lines
if_said false lines = []

-- from detail 2 on the number of a frame of the bus
abbrev pub number_lines : ℕ → ℕ → List Said
number_lines detail number = if_said (nat_le 2 detail) (says_microframe number ∷ [])

-- a packet that is over is said at any detail
abbrev pub over_lines : Arrival → List Said
over_lines arrivals.Taken = []
over_lines arrivals.Lost = []
over_lines arrivals.Over = says_over 1 ∷ []

-- and from detail 2 on the frames of each packet, and how it arrived
abbrev pub arrival_lines : ℕ → ℕ → Arrival → List Said
arrival_lines detail frames arrival = if_said (nat_le 2 detail) (says_out 1 frames arrival ∷ []) ++ over_lines arrival

-- a tick that finds the ring empty is said at any detail, and from detail 1 on the frame that is played
abbrev pub ticked_lines : ℕ → Bool → List ℤ → List Said
ticked_lines detail under frame = if_said under (says_under 1 ∷ []) ++ if_said (nat_le 1 detail) (says_played 1 frame ∷ [])

-- from detail 2 on the level and the target
abbrev pub told_level : ℕ → ℕ → Option ℕ → List Said
told_level detail level target = if_said (nat_le 2 detail) (says_level 1 level target ∷ [])
