use Rattle.std.proofs.Common.{◌≡◌, ℕ, ◌<◌, Some, take}
use Rattle.std.specs.Option.{option_map_or}
use Rattle.uac_graph.specs.TickRows.{frames_at, slot_lengths}
use Rattle.uac_graph.specs.Wiring.{frame_on}
use Rattle.uac_device.specs.Jacks.{tones_of}
use Rattle.uac_device.proofs.rows.give_tones.Given as goal

abbrev pub invariant-loop-jack : goal.invariant-loop-jack
invariant-loop-jack l = record {
  frames : (t : ℕ) → t < l.ticks → (id : ℕ) → frame_on (frames_at t l.rows) id
      ≡ option_map_or (λ frames. Some (frames t)) (tones_of l.domain (take l.jack-index l.jacks) id) (frame_on (frames_at t l.initial.rows) id);
  lengths : slot_lengths l.rows.slots ≡ slot_lengths l.initial.rows.slots;
  room : l.rows.room ≡ l.initial.rows.room;
}
