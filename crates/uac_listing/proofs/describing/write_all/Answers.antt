use Rattle.std.proofs.Common.{ℕ, List, flat_map, subst}
use Rattle.uac_edges.specs.Writing.{AppendsFront}
use Rattle.uac_edges.proofs.WritingLemmas.{AppendsFront-after, AppendsFront-longer, Writes-handed_on}
use Rattle.uac_entities.specs.declared.entity.Entity.{Entity}
use Rattle.uac_store.specs.StoreControls.{initial_controls}
use Rattle.uac_listing.specs.BlockLines.{block_lines}
use Rattle.uac_listing.specs.EntityLines.{entity_line}
use Rattle.uac_listing.specs.SettingLines.{setting_lines}
use Rattle.uac_listing.proofs.describing.write_all.Goals as goal

pub returns-in_err-write_entities-clause-written : goal.returns-in_err-write_entities-clause-written
returns-in_err-write_entities-clause-written g c =
    Writes-handed_on _ (g.K.Sink.written c.args.sink.now) (g.K.Sink.written c.write_entities.new.sink) c.from_residual-in_err-write_entities.result _ c.from_residual-in_err-write_entities.ensures.1 (
    let f = c.args.function.now in
    let entities : List ℕ = flat_map entity_line f.entities in
    let settings : List ℕ = setting_lines f (initial_controls f.entities) in
    AppendsFront-after _ _ _ (block_lines 0 c.args.blocks.now) _ c.in_ok-write_blocks.ensures.written
    (AppendsFront-longer _ _ entities settings
    (subst (λ (es : List Entity). AppendsFront (g.K.Sink.written c.write_blocks.new.sink) (g.K.Sink.written c.write_entities.new.sink) (flat_map entity_line es))
    c.entities.ensures c.in_err-write_entities.ensures.written))
    )
