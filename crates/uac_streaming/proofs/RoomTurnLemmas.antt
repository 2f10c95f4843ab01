-- What the packets, the ends and the reports of a microframe leave of the room in a device's rings.
use Rattle.std.proofs.Common.{◌≡◌, ◌∙◌, sym, refl, ap, ℕ, ◌==◌, Bool, true, false, if◌then◌else◌, List, [], ◌∷◌, Option, Some, None}
use Rattle.std.specs.List.{find}
use Rattle.std.specs.Option.{option_map_or}
use Rattle.std.proofs.lemmas.Bool.{and_parts, true≢false}
use Rattle.uac_entities.specs.declared.stream.StreamInterface.{StreamInterface}
use Rattle.uac_topology.specs.Function.{FunctionFields}
use Rattle.uac_device.specs.DeviceWorld.{DeviceWorld, feedback_in, is_due_in}
use Rattle.uac_host.specs.HostCalls.{packet_of}
use Rattle.uac_script.specs.Phrase.{PhraseMark}
use Rattle.uac_streaming.specs.Telling.{Telling, without_event, in_turn}
use Rattle.uac_streaming.specs.StreamingWorld.{StreamingWorld, all_feedback, all_ends, fetched_lines, goes_out, in_packet_turn, in_packets, is_in_due, is_out_due, loses_in, loses_out, loses_feedback, numbers, out_packets, out_turn, packet_fetched, packet_sent_out, feedback_lines, feedback_made, feedback_turn, sent_out_lines, end_turn}
use Rattle.uac_streaming.specs.Room.{HaveRoom}
use Rattle.uac_streaming.proofs.RoomDeviceLemmas.{AreEnding, AreWithin, HaveSmallNumbers, all_ended, all_ending, received_within, sent_within, end_keeps_ending}

-- what each of these leaves so is so after the last
in_turn_keeps : {W : Type 0} (P : W → Type 0) (event : ℕ → W → Telling W) → ((n : ℕ) (w : W) → P w → P (event n w).world)
    → (ns : List ℕ) (w : W) → P w
    → P (in_turn event ns w).world
unfolding in_turn
in_turn_keeps P event keeps [] w is = is
in_turn_keeps P event keeps (n ∷ ns) w is = in_turn_keeps P event keeps ns (event n w).world (keeps n w is)

-- ---- packets

known_out : (function : FunctionFields) (interface : ℕ) → goes_out function interface ≡ true
    → find (λ s. s.number == interface) function.streams ≡ None → ⊥
known_out function interface out none =
    true≢false (sym out ∙ ap (λ (o : Option StreamInterface). option_map_or (λ s. s.out) o false) none)

module _ (about : FunctionFields → Type 0) (detail : ℕ) (marks : List PhraseMark) (ahead : List ℕ) (clock : ℕ) where
  abbrev Holds : StreamingWorld → Type 0
  Holds w = AreWithin about (loses_out marks) ahead clock 0 w.device

  out_turn_within : (interface : ℕ) (w : StreamingWorld) → Holds w → Holds (out_turn detail marks interface w).world
  unfolding out_turn packet_sent_out
  out_turn_within interface w is = by (is_out_due w interface) refl
    where
      by : (b : Bool) → is_out_due w interface ≡ b
          → Holds (if b then record { lines = sent_out_lines detail (loses_out marks interface) interface w; world = packet_sent_out (loses_out marks interface) interface w }
          else without_event w).world
      by true due =
          let both = and_parts (goes_out w.device.function interface) (is_due_in w.device interface) due in
          received_within about (loses_out marks) ahead clock interface (packet_of w.host interface) w.device
          (known_out w.device.function interface both.0) both.1 is
      by false _ = is

  pub out_packets_within : (w : StreamingWorld) → Holds w → Holds (out_packets detail marks w).world
  unfolding out_packets
  out_packets_within w is = in_turn_keeps Holds (out_turn detail marks) out_turn_within (numbers w.device.function) w is

  in_turn_within : (interface : ℕ) (w : StreamingWorld) → Holds w → Holds (in_packet_turn detail marks interface w).world
  unfolding in_packet_turn packet_fetched
  in_turn_within interface w is = by (is_in_due w interface)
    where
      by : (b : Bool)
          → Holds (if b then record { lines = fetched_lines detail (loses_in marks interface) interface w; world = packet_fetched (loses_in marks interface) interface w }
          else without_event w).world
      by true = sent_within about (loses_out marks) ahead clock 0 interface w.device is
      by false = is

  pub in_packets_within : (w : StreamingWorld) → Holds w → Holds (in_packets detail marks w).world
  unfolding in_packets
  in_packets_within w is = in_turn_keeps Holds (in_packet_turn detail marks) in_turn_within (numbers w.device.function) w is

-- ---- the ends

ended_turns : (about : FunctionFields → Type 0) (detail : ℕ) (loses : ℕ → Bool) (ns : List ℕ) (w : StreamingWorld)
    → AreEnding about loses ns w.device
    → AreEnding about loses [] (in_turn (end_turn detail) ns w).world.device
unfolding in_turn end_turn
ended_turns about detail loses [] w is = is
ended_turns about detail loses (n ∷ ns) w is =
    ended_turns about detail loses ns (end_turn detail n w).world (end_keeps_ending about loses n ns w.device is)

-- there is room, and something is so of the device's function
pub record IsRoomy (about : FunctionFields → Type 0) (w : DeviceWorld) : Type 0 where
  pub room : HaveRoom w
  pub function : about w.function

pub all_ends_room : (about : FunctionFields → Type 0) (detail : ℕ) (loses : ℕ → Bool) (clock : ℕ) (w : StreamingWorld)
    → HaveSmallNumbers w.device.function
    → AreWithin about loses [] clock 0 w.device → IsRoomy about (all_ends detail w).world.device
unfolding all_ends
all_ends_room about detail loses clock w small is =
    let ended = ended_turns about detail loses (numbers w.device.function) w (all_ending about loses clock w.device small is) in
    record { room = all_ended about loses _ ended; function = ended.function }

-- ---- the reports

feedback_turn_keeps : (P : DeviceWorld → Type 0) (detail : ℕ) (marks : List PhraseMark) (interface : ℕ) (w : StreamingWorld) → P w.device
    → P (feedback_turn detail marks interface w).world.device
unfolding feedback_turn feedback_made
feedback_turn_keeps P detail marks interface w is = by (feedback_in w.device interface)
  where
    by : (o : Option ℕ)
        → P (option_map_or (λ value. record { lines = feedback_lines detail (loses_feedback marks interface) value interface; world = feedback_made (loses_feedback marks interface) value interface w })
        o (without_event w)).world.device
    by None = is
    by (Some value) = is

pub all_feedback_keeps : (P : DeviceWorld → Type 0) (detail : ℕ) (marks : List PhraseMark) (w : StreamingWorld) → P w.device
    → P (all_feedback detail marks w).world.device
unfolding all_feedback
all_feedback_keeps P detail marks w is =
    in_turn_keeps (λ (v : StreamingWorld). P v.device) (feedback_turn detail marks) (λ n v. feedback_turn_keeps P detail marks n v) (numbers w.device.function) w is
