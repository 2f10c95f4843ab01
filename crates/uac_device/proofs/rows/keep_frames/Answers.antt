use Rattle.std.proofs.Common.{◌≡◌, ◌∙◌, ap, sym, subst, true, List}
use Rattle.uac_entities.specs.declared.entity.Entity.{Entity}
use Rattle.uac_graph.specs.Fitness.{IsSignalGraph}
use Rattle.uac_graph.specs.Meaning.{entity}
use Rattle.uac_graph.specs.TickRows.{frames_at}
use Rattle.uac_graph.specs.Wiring.{AreWiresOf, Frames, frame_on}
use Rattle.uac_graph.proofs.FitnessLemmas.{sound_graph}
use Rattle.uac_device.proofs.HeldRowsLemmas.{is_kept, item_alike, item_signal, kept_end, kept_input, kept_signal, left_more, reached_all, reached_more, reached_past, row_few, row_there}
use Rattle.uac_device.proofs.rows.keep_frames.Goals as goal
use Rattle.uac_device.proofs.rows.keep_frames.Goals.{then-is_kept, else-is_kept}

pub keep_frame-requires-clause-alike : goal.keep_frame-requires-clause-alike
keep_frame-requires-clause-alike c =
    let same = c.entities-entity-items.ensures in
    item_alike c.args.function.now.entities c.loop-entity.wires c.args.rows.now c.args.tick c.entity-item.result.id c.loop-entity.invariant.fitting c.requires.rows
    (item_signal c.entities-entity-items.result.now c.args.function.now.entities c.args.domain c.loop-entity.entity-index c.entity-item.result same
    (subst IsSignalGraph (sym same) (sound_graph _ c.functions_are_sound.ensures)) c.loop-entity-test.true c.entity-item.is
    (sym c.is_kept.ensures ∙ c.if-is_kept.true))

pub keep_frame-requires-clause-there : goal.keep_frame-requires-clause-there
keep_frame-requires-clause-there c =
    let same = c.entities-entity-items.ensures in
    row_there c.args.function.now.entities c.args.rows.now c.args.tick c.entity-item.result.id c.requires.rows
    (item_signal c.entities-entity-items.result.now c.args.function.now.entities c.args.domain c.loop-entity.entity-index c.entity-item.result same
    (subst IsSignalGraph (sym same) (sound_graph _ c.functions_are_sound.ensures)) c.loop-entity-test.true c.entity-item.is
    (sym c.is_kept.ensures ∙ c.if-is_kept.true))

pub keep_frame-requires-clause-few : goal.keep_frame-requires-clause-few
keep_frame-requires-clause-few c =
    let same = c.entities-entity-items.ensures in
    row_few c.args.function.now.entities c.args.rows.now c.args.tick c.entity-item.result.id (sound_graph _ c.functions_are_sound.ensures) c.requires.rows
    (item_signal c.entities-entity-items.result.now c.args.function.now.entities c.args.domain c.loop-entity.entity-index c.entity-item.result same
    (subst IsSignalGraph (sym same) (sound_graph _ c.functions_are_sound.ensures)) c.loop-entity-test.true c.entity-item.is
    (sym c.is_kept.ensures ∙ c.if-is_kept.true))

pub loop-entity-preserved : goal.loop-entity-preserved
loop-entity-preserved c =
    let items = c.entities-entity-items.result.now in
    let index = c.loop-entity.entity-index in
    let e = c.entity-item.result in
    let before = c.loop-entity.invariant in
    let sound = subst IsSignalGraph (sym c.entities-entity-items.ensures) (sound_graph _ c.functions_are_sound.ensures) in
    elim c.if-is_kept.branch [
      | then-is_kept w ↦
          record {
            kept =
                reached_more items (is_kept c.args.domain) index e (frame_on c.loop-entity.wires) (frame_on c.if-is_kept.wires)
                (frame_on (frames_at c.args.tick c.args.rows.now)) c.loop-entity-test.true c.entity-item.is
                (λ id. ap (λ (f : Frames). frame_on f id) w.wires-is ∙ w.keep_frame.ensures.frames id) before.kept;
            left =
                left_more items (is_kept c.args.domain) index e (frame_on c.args.wires.now) (frame_on c.loop-entity.wires) (frame_on c.if-is_kept.wires)
                (frame_on (frames_at c.args.tick c.args.rows.now)) sound c.loop-entity-test.true c.entity-item.is (sym c.is_kept.ensures ∙ w.if-is_kept.true)
                (λ id. ap (λ (f : Frames). frame_on f id) w.wires-is ∙ w.keep_frame.ensures.frames id) before.left;
            fitting =
                subst (AreWiresOf c.args.function.now.entities) (sym w.wires-is) (w.keep_frame.ensures.fitting c.args.function.now.entities before.fitting);
          }
      | else-is_kept w ↦
          record {
            kept = λ id inside passes.
                ap (λ (f : Frames). frame_on f id) w.wires-is
                ∙ reached_past items (is_kept c.args.domain) index e (frame_on c.loop-entity.wires) (frame_on (frames_at c.args.tick c.args.rows.now))
                c.loop-entity-test.true c.entity-item.is (sym c.is_kept.ensures ∙ w.if-is_kept.false) before.kept id inside passes;
            left = λ id fails. ap (λ (f : Frames). frame_on f id) w.wires-is ∙ before.left id fails;
            fitting = subst (AreWiresOf c.args.function.now.entities) (sym w.wires-is) before.fitting;
          }
    ]

pub returns-clause-inputs : goal.returns-clause-inputs
returns-clause-inputs c = λ id input.
    reached_all c.entities-entity-items.result.now (is_kept c.args.domain) c.loop-entity.entity-index (frame_on c.loop-entity.wires)
    (frame_on (frames_at c.args.tick c.args.rows.now)) c.loop-entity-test.false (kept_signal c.args.domain) c.loop-entity.invariant.kept id
    (subst (λ (es : List Entity). is_kept c.args.domain (entity es id) ≡ true) (sym c.entities-entity-items.ensures)
    (kept_input c.args.domain (entity c.args.function.now.entities id) input))

pub returns-clause-ends : goal.returns-clause-ends
returns-clause-ends c = λ id end.
    reached_all c.entities-entity-items.result.now (is_kept c.args.domain) c.loop-entity.entity-index (frame_on c.loop-entity.wires)
    (frame_on (frames_at c.args.tick c.args.rows.now)) c.loop-entity-test.false (kept_signal c.args.domain) c.loop-entity.invariant.kept id
    (subst (λ (es : List Entity). is_kept c.args.domain (entity es id) ≡ true) (sym c.entities-entity-items.ensures)
    (kept_end c.args.domain (entity c.args.function.now.entities id) end))
