use Rattle.std.proofs.Common.{◌≡◌, ℕ, length, map}
use Rattle.std.specs.Option.{option_map}
use Rattle.uac_graph.specs.TickRows.{SlotsHaveTicks, slot_frames}
use Rattle.uac_graph.proofs.WiringLemmas.{AreSilentBelow}
use Rattle.uac_graph.proofs.row_slots.silent_slots.Given as goal

abbrev pub invariant-loop-entity : goal.invariant-loop-entity
invariant-loop-entity l = record {
  silent : (tick : ℕ) → AreSilentBelow l.entities l.entity-index (slot_frames tick (map (option_map (λ rows. rows.items)) l.slots.items));
  sized : length l.slots.items ≡ 256;
  given : SlotsHaveTicks l.ticks (map (option_map (λ rows. rows.items)) l.slots.items);
}
