use Rattle.std.proofs.Common.{◌+◌, List, Option, drop, sym, ap, ◌∙◌}
use Rattle.std.specs.Prelude.{slice_get}
use Rattle.std.specs.List.{cons_option}
use Rattle.uac_descriptor.specs.declared.streaming.TypeOne.{TypeOne}
use Rattle.uac_entities.proofs.EntitySettingsLemmas.{own_at_stop, own_at_next, own_at_end}
use Rattle.uac_entities.specs.EntitySettings.{own, format_of}
use Rattle.uac_entities.proofs.settings.format_following.Goals as goal

pub returns-then-ends_setting : goal.returns-then-ends_setting
returns-then-ends_setting c =
    let here = own_at_stop format_of c.args.blocks.now c.loop-block.block-index c.block-item.result c.loop-block-test.true c.block-item.is c.if-ends_setting.ensures in
    ap (λ (xs : List TypeOne). slice_get xs 0) (sym here ∙ c.loop-block.invariant)

pub returns-in-Some : goal.returns-in-Some
returns-in-Some c =
    let rest = own format_of (drop (c.loop-block.block-index + 1) c.args.blocks.now) in
    let here = own_at_next format_of c.args.blocks.now c.loop-block.block-index c.block-item.result c.loop-block-test.true c.block-item.is c.if-ends_setting.ensures in
    ap (λ (xs : List TypeOne). slice_get xs 0) (ap (λ (o : Option TypeOne). cons_option o rest) c.in-Some.ensures ∙ sym here ∙ c.loop-block.invariant)

pub loop-block-preserved : goal.loop-block-preserved
loop-block-preserved c =
    let rest = own format_of (drop (c.loop-block.block-index + 1) c.args.blocks.now) in
    let here = own_at_next format_of c.args.blocks.now c.loop-block.block-index c.block-item.result c.loop-block-test.true c.block-item.is c.if-ends_setting.ensures in
    ap (λ (o : Option TypeOne). cons_option o rest) c.in_default.ensures ∙ sym here ∙ c.loop-block.invariant

pub returns : goal.returns
returns c =
    ap (λ (xs : List TypeOne). slice_get xs 0) (sym (own_at_end format_of c.args.blocks.now c.loop-block.block-index c.loop-block-test.false) ∙ c.loop-block.invariant)
