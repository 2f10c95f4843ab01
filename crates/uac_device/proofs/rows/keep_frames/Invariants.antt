use Rattle.std.proofs.Common.{◌≡◌, ℕ, ◌<◌, true, false}
use Rattle.uac_topology_rules.specs.Table.{index_of}
use Rattle.uac_graph.specs.Meaning.{entity}
use Rattle.uac_graph.specs.TickRows.{frames_at}
use Rattle.uac_graph.specs.Wiring.{AreWiresOf, frame_on}
use Rattle.uac_device.proofs.HeldRowsLemmas.{is_kept}
use Rattle.uac_device.proofs.rows.keep_frames.Given as goal

abbrev pub invariant-loop-entity : goal.invariant-loop-entity
invariant-loop-entity l = record {
  kept : (id : ℕ) → index_of l.entity-items id < l.entity-index → is_kept l.domain (entity l.entity-items id) ≡ true
      → frame_on l.wires id ≡ frame_on (frames_at l.tick l.rows) id;
  left : (id : ℕ) → is_kept l.domain (entity l.entity-items id) ≡ false → frame_on l.wires id ≡ frame_on l.initial.wires id;
  fitting : AreWiresOf l.function.entities l.wires;
}
