-- The moments of a microframe are all that it passes through (profile).
use Rattle.std.specs.Prelude.{◌≡◌, ◌+◌, ◌≤◌, ℕ, true, List, ◌∷◌, ◌++◌, map, length, Some}
use Rattle.std.specs.List.{range_with_len}
use Rattle.uac_units.specs.Hearing.{at_most_u64}
use Rattle.uac_flow.specs.FlowStreams.{InStream, OutStream, after_packet, after_sending_in, frames_of, is_due, sent_in_frames, with_zeros, zeros_due}
use Rattle.uac_device.specs.DeviceWorld.{DeviceWorld}
use Rattle.uac_script.specs.Phrase.{PhraseMark}
use Rattle.uac_streaming.specs.StreamingWorld.{StreamingWorld}
use Rattle.uac_streaming.specs.Telling.{Telling, in_turn}
use Rattle.uac_running.specs.RunningWorld.{RunningWorld}
use Rattle.uac_running.specs.Events.{domain_microframe, domain_microframes, ends_and_feedback, microframe, tick_times}
use Rattle.uac_promises.specs.Moments.{after_domains, after_in, after_out, along, domain_moments, frame_by_frame, tick_moments, while_received, while_sent_in, while_ended}

-- of so many ticks: the device after none of them, after one, and so on to all
abbrev pub TicksAreSeen : Type 0
TicksAreSeen =
    (count domain : ℕ) (r : RunningWorld)
    → tick_moments count domain r ≡ map (λ ticks. (tick_times ticks domain r).world.device) (range_with_len 0 (count + 1))

-- of so many frames: with none of them, with one, and so on to all
abbrev pub FramesAreSeen : Type 0
FramesAreSeen =
    (frames : ℕ) (so_far : ℕ → DeviceWorld)
    → frame_by_frame frames so_far ≡ map so_far (range_with_len 0 (frames + 1))

-- each turn is seen in the world that the turns before it left
abbrev pub TurnsAreSeen : Type 0
TurnsAreSeen =
    (event : ℕ → StreamingWorld → Telling StreamingWorld) (seen : ℕ → StreamingWorld → List DeviceWorld)
    (before : List ℕ) (n : ℕ) (behind : List ℕ) (w : StreamingWorld)
    → (let left : StreamingWorld = (in_turn event before w).world in
    along (λ k v. (event k v).world) seen (before ++ n ∷ behind) w
    ≡ along (λ k v. (event k v).world) seen before w ++ seen n left ++ along (λ k v. (event k v).world) seen behind (event n left).world)

-- and so is each domain
abbrev pub DomainsAreSeen : Type 0
DomainsAreSeen =
    (before : List ℕ) (domain : ℕ) (behind : List ℕ) (r : RunningWorld)
    → (let left : RunningWorld = (domain_microframes before r).world in
    along (λ c v. (domain_microframe c v).world) domain_moments (before ++ domain ∷ behind) r
    ≡ along (λ c v. (domain_microframe c v).world) domain_moments before r ++ domain_moments domain left
    ++ along (λ c v. (domain_microframe c v).world) domain_moments behind (domain_microframe domain left).world)

-- with none of its frames nothing has come of a packet, and nothing of zeros; with one more at most one more lies in the ring; and with
-- all of them it has come, and so have the zeros for a lost one
pub record PutsAreWhole (o : OutStream) (packet : List ℕ) : Type 0 where
  pub none_came : (while_received (Some packet) 0 o).arrived ≡ o.arrived
  pub one_more_came : (came : ℕ)
      → length (while_received (Some packet) (came + 1) o).arrived ≤ length (while_received (Some packet) came o).arrived + 1
  pub all_came : (while_received (Some packet) (length (frames_of o.stream packet)) o).arrived ≡ (after_packet (Some packet) o).arrived
  pub no_zeros : (while_ended 0 o).arrived ≡ o.arrived
  pub one_more_zero : (zeros : ℕ) → length (while_ended (zeros + 1) o).arrived ≤ length (while_ended zeros o).arrived + 1
  pub all_zeros : is_due o.stream o.microframes ≡ true → (while_ended (length (zeros_due o)) o).arrived ≡ (with_zeros o).arrived

abbrev pub AllIsPut : Type 0
AllIsPut = (o : OutStream) (packet : List ℕ) → PutsAreWhole o packet

-- frames of a packet from the device go one by one, until it is sent
pub record TakesAreWhole (i : InStream) : Type 0 where
  pub none_gone : while_sent_in 0 i ≡ i
  pub one_more_gone : (gone : ℕ) → (while_sent_in (gone + 1) i).gone ≡ (while_sent_in gone i).gone + 1
  pub all_gone : while_sent_in (sent_in_frames i) i ≡ after_sending_in i

abbrev pub AllIsTaken : Type 0
AllIsTaken = (i : InStream) → TakesAreWhole i

-- the parts in which they are seen make the microframe
abbrev pub PartsMakeMicroframes : Type 0
PartsMakeMicroframes =
    (marks : List PhraseMark) (r : RunningWorld)
    → (let numbered : RunningWorld = record r { time = at_most_u64 (r.time + 1) } in
    (ends_and_feedback marks (after_domains (after_in marks (after_out marks numbered)))).world ≡ (microframe marks r).world)
