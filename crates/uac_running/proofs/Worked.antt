-- Worked values of what is told.
use Rattle.std.proofs.Common.{◌≡◌, [], ◌∷◌, refl}
use Rattle.uac_transcript.specs.Transcript.{says_over, says_microframe, says_under}
use Rattle.uac_running.specs.RunningWorld.{RunningWorld}
use Rattle.uac_streaming.specs.Telling.{Telling}
use Rattle.uac_running.specs.Events.{followed_by, number_said}

-- the number of a microframe is said at detail 2 alone
numbers_said : (number_said 0 7 ≡ []) × (number_said 1 7 ≡ []) × (number_said 2 7 ≡ says_microframe 7 ∷ [])
numbers_said = (refl, refl, refl)

-- two events, of which the second tells the time that the first left
first_event : RunningWorld → Telling RunningWorld
first_event r = record { lines = says_over 3 ∷ []; world = record r { time = 9 } }

next_event : RunningWorld → Telling RunningWorld
next_event r = record { lines = says_under r.time ∷ []; world = record r { renders = r.time } }

-- the second begins where the first ended, and is told after it
one_then_the_other : (r : RunningWorld) → followed_by first_event next_event r ≡ record { lines = says_over 3 ∷ says_under 9 ∷ []; world = record r { time = 9; renders = 9 } }
unfolding first_event next_event
one_then_the_other r = refl
