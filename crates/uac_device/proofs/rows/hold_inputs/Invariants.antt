use Rattle.std.proofs.Common.{◌≡◌, ℕ, ◌<◌, true}
use Rattle.uac_topology_rules.specs.Clusters.{is_input}
use Rattle.uac_topology_rules.specs.Table.{index_of}
use Rattle.uac_graph.specs.Meaning.{entity}
use Rattle.uac_graph.specs.TickRows.{frames_at, slot_lengths}
use Rattle.uac_graph.specs.Wiring.{frame_on}
use Rattle.uac_device.proofs.rows.hold_inputs.Given as goal

abbrev pub invariant-loop-entity : goal.invariant-loop-entity
invariant-loop-entity l = record {
  held : (t : ℕ) → t < l.ticks → (id : ℕ) → index_of l.entity-items id < l.entity-index → is_input (entity l.entity-items id).kind ≡ true
      → frame_on (frames_at t l.rows) id ≡ frame_on l.wires id;
  lengths : slot_lengths l.rows.slots ≡ slot_lengths l.initial.rows.slots;
  room : l.rows.room ≡ l.initial.rows.room;
}
