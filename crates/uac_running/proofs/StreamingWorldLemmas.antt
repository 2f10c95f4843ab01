-- What happens to streams leaves the domains of the device.
use Rattle.std.proofs.Common.{◌≡◌, ◌∙◌, refl, ℕ, List, [], ◌∷◌, Option, None, Some, inl, inr, ◌∷◌}
use Rattle.std.proofs.lemmas.Bool.{cases_Bool}
use Rattle.uac_device.specs.DeviceWorld.{Domain, feedback_in, after_receiving, after_sending_in_packet, after_end}
use Rattle.uac_script.specs.Phrase.{PhraseMark}
use Rattle.uac_streaming.specs.Telling.{Telling, in_turn}
use Rattle.uac_streaming.specs.StreamingWorld.{StreamingWorld, all_feedback, all_ends, in_packet_turn, in_packets, is_in_due, is_out_due, numbers, out_packets, out_turn, packet_fetched, packet_sent_out, feedback_made, feedback_turn, end_turn}

abbrev domains_in : StreamingWorld → List Domain
domains_in w = w.device.domains

in_turn-keeps : (event : ℕ → StreamingWorld → Telling StreamingWorld) → ((n : ℕ) (w : StreamingWorld) → domains_in (event n w).world ≡ domains_in w)
    → (ns : List ℕ) (w : StreamingWorld) → domains_in (in_turn event ns w).world ≡ domains_in w
unfolding in_turn
in_turn-keeps event keeps [] w = refl
in_turn-keeps event keeps (n ∷ ns) w = in_turn-keeps event keeps ns (event n w).world ∙ keeps n w

out-keeps : (detail : ℕ) (marks : List PhraseMark) (n : ℕ) (w : StreamingWorld) → domains_in (out_turn detail marks n w).world ≡ domains_in w
unfolding out_turn packet_sent_out after_receiving
out-keeps detail marks n w = elim (cases_Bool (is_out_due w n)) [ inl due ↦ rw due refl | inr not_due ↦ rw not_due refl ]

in-keeps : (detail : ℕ) (marks : List PhraseMark) (n : ℕ) (w : StreamingWorld) → domains_in (in_packet_turn detail marks n w).world ≡ domains_in w
unfolding in_packet_turn packet_fetched after_sending_in_packet
in-keeps detail marks n w = elim (cases_Bool (is_in_due w n)) [ inl due ↦ rw due refl | inr not_due ↦ rw not_due refl ]

settled-keeps : (detail : ℕ) (n : ℕ) (w : StreamingWorld) → domains_in (end_turn detail n w).world ≡ domains_in w
unfolding end_turn after_end
settled-keeps detail n w = refl

feedback-keeps : (detail : ℕ) (marks : List PhraseMark) (n : ℕ) (w : StreamingWorld) → domains_in (feedback_turn detail marks n w).world ≡ domains_in w
unfolding feedback_turn feedback_made
feedback-keeps detail marks n w = by_value (feedback_in w.device n) refl
  where
    by_value : (o : Option ℕ) → feedback_in w.device n ≡ o → domains_in (feedback_turn detail marks n w).world ≡ domains_in w
    by_value None none = rw none refl
    by_value (Some value) some = rw some refl

pub out_packets-keep : (detail : ℕ) (marks : List PhraseMark) (w : StreamingWorld) → domains_in (out_packets detail marks w).world ≡ domains_in w
unfolding out_packets
out_packets-keep detail marks w = in_turn-keeps (out_turn detail marks) (out-keeps detail marks) (numbers w.device.function) w

pub in_packets-keep : (detail : ℕ) (marks : List PhraseMark) (w : StreamingWorld) → domains_in (in_packets detail marks w).world ≡ domains_in w
unfolding in_packets
in_packets-keep detail marks w = in_turn-keeps (in_packet_turn detail marks) (in-keeps detail marks) (numbers w.device.function) w

pub all_ends-keep : (detail : ℕ) (w : StreamingWorld) → domains_in (all_ends detail w).world ≡ domains_in w
unfolding all_ends
all_ends-keep detail w = in_turn-keeps (end_turn detail) (settled-keeps detail) (numbers w.device.function) w

pub all_feedback-keep : (detail : ℕ) (marks : List PhraseMark) (w : StreamingWorld) → domains_in (all_feedback detail marks w).world ≡ domains_in w
unfolding all_feedback
all_feedback-keep detail marks w = in_turn-keeps (feedback_turn detail marks) (feedback-keeps detail marks) (numbers w.device.function) w
