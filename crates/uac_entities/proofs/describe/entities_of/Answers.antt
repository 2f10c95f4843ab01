use Rattle.std.proofs.Common.{◌≡◌, ◌++◌, List, Option, get_or, take, sym, ap, ◌∙◌}
use Rattle.std.specs.Option.{option_to_list}
use Rattle.uac_entities.specs.declared.entity.Entity.{Entity}
use Rattle.uac_entities.specs.Entities.{entity_of, entities_of}
use Rattle.uac_entities.proofs.ListFilterLemmas.{filter_map_more}
use Rattle.uac_entities.proofs.describe.entities_of.Goals as goal

pub loop-block-preserved : goal.loop-block-preserved
loop-block-preserved c =
    let l = c.loop-block in
    let xs = c.args.blocks.now in
    let kept : c.in_ok-entity.entity ≡ entity_of (get_or xs l.block-index c.block-item.result) =
    c.in_ok-entity.ensures ∙ ap entity_of c.block-item.is in
    c.in_ok-keep.ensures
    ∙ ap (λ (es : List Entity). es ++ option_to_list c.in_ok-entity.entity) l.invariant
    ∙ ap (λ (o : Option Entity). entities_of (take l.block-index xs) ++ option_to_list o) kept
    ∙ sym (filter_map_more entity_of xs l.block-index c.block-item.result c.loop-block-test.true)
