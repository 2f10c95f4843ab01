use Rattle.std.proofs.Common.{◌≡◌, ◌∙◌, ap, sym, subst, true, List}
use Rattle.uac_entities.specs.declared.entity.Entity.{Entity}
use Rattle.uac_topology_rules.specs.Clusters.{is_input}
use Rattle.uac_graph.proofs.WiringTerminalLemmas.{input_signal}
use Rattle.uac_graph.specs.Meaning.{entity}
use Rattle.uac_graph.specs.TickRows.{RowsById, frames_at, slot_lengths}
use Rattle.uac_graph.specs.Wiring.{frame_on}
use Rattle.uac_device.proofs.HeldRowsLemmas.{counted_at, reached_all, reached_more, reached_past}
use Rattle.uac_device.proofs.rows.hold_inputs.Goals as goal
use Rattle.uac_device.proofs.rows.hold_inputs.Goals.{then-is_input, else-is_input}

pub hold_input-requires-clause-alike : goal.hold_input-requires-clause-alike
hold_input-requires-clause-alike c =
    counted_at 0 0 c.args.rows.now c.loop-entity.rows c.entity-item.result.id c.loop-entity.invariant.lengths
    ∙ (c.requires.rows 0).channels c.entity-item.result.id
    ∙ sym (c.requires.wires.channels c.entity-item.result.id)

pub loop-entity-preserved : goal.loop-entity-preserved
loop-entity-preserved c =
    let items = c.entities-entity-items.result.now in
    let index = c.loop-entity.entity-index in
    let e = c.entity-item.result in
    let before = c.loop-entity.invariant in
    elim c.if-is_input.branch [
      | then-is_input w ↦
          record {
            held = λ t less.
                reached_more items (λ e. is_input e.kind) index e (frame_on (frames_at t c.loop-entity.rows)) (frame_on (frames_at t c.if-is_input.rows))
                (frame_on c.args.wires.now) c.loop-entity-test.true c.entity-item.is
                (λ id. ap (λ (r : RowsById). frame_on (frames_at t r) id) w.rows-is ∙ w.hold_input.ensures.held t less id)
                (before.held t less);
            lengths = ap (λ (r : RowsById). slot_lengths r.slots) w.rows-is ∙ w.hold_input.ensures.lengths ∙ before.lengths;
            room = ap (λ (r : RowsById). r.room) w.rows-is ∙ w.hold_input.ensures.room ∙ before.room;
          }
      | else-is_input w ↦
          record {
            held = λ t less id inside passes.
                ap (λ (r : RowsById). frame_on (frames_at t r) id) w.rows-is
                ∙ reached_past items (λ e. is_input e.kind) index e (frame_on (frames_at t c.loop-entity.rows)) (frame_on c.args.wires.now)
                c.loop-entity-test.true c.entity-item.is (sym c.is_input.ensures ∙ w.if-is_input.false) (before.held t less) id inside passes;
            lengths = ap (λ (r : RowsById). slot_lengths r.slots) w.rows-is ∙ before.lengths;
            room = ap (λ (r : RowsById). r.room) w.rows-is ∙ before.room;
          }
    ]

pub returns-clause-held : goal.returns-clause-held
returns-clause-held c = λ t less id input.
    reached_all c.entities-entity-items.result.now (λ e. is_input e.kind) c.loop-entity.entity-index (frame_on (frames_at t c.loop-entity.rows))
    (frame_on c.args.wires.now) c.loop-entity-test.false (λ e. input_signal e.kind) (c.loop-entity.invariant.held t less) id
    (subst (λ (es : List Entity). is_input (entity es id).kind ≡ true) (sym c.entities-entity-items.ensures) input)
