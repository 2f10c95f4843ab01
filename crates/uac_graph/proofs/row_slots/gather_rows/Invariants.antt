use Rattle.std.proofs.Common.{◌≡◌, ◌<◌, ℕ, length, map, take}
use Rattle.std.specs.Option.{option_map}
use Rattle.uac_units.specs.Rendering.{in_a_row}
use Rattle.uac_units.specs.SampleRows.{frame_at, row_lengths}
use Rattle.uac_graph.specs.TickRows.{slot_frames}
use Rattle.uac_graph.specs.Wiring.{samples_on}
use Rattle.uac_graph.proofs.row_slots.gather_rows.Given as goal

abbrev pub invariant-loop-source : goal.invariant-loop-source
invariant-loop-source l = record {
  count : l.end ≡ length (in_a_row (map (samples_on (slot_frames 0 (map (option_map (λ rows. rows.items)) l.slots))) (take l.source-index l.sources)));
  frames : (tick : ℕ) → tick < l.ticks → frame_at tick (take l.end l.pins)
      ≡ in_a_row (map (samples_on (slot_frames tick (map (option_map (λ rows. rows.items)) l.slots))) (take l.source-index l.sources));
  lengths : row_lengths l.pins ≡ row_lengths l.initial.pins;
}
