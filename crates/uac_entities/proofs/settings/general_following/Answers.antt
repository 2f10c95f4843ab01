use Rattle.std.proofs.Common.{◌+◌, List, Option, drop, sym, ap, ◌∙◌}
use Rattle.std.specs.Prelude.{slice_get}
use Rattle.std.specs.List.{cons_option}
use Rattle.uac_descriptor.specs.declared.streaming.General.{General}
use Rattle.uac_entities.proofs.EntitySettingsLemmas.{own_at_stop, own_at_next, own_at_end}
use Rattle.uac_entities.specs.EntitySettings.{own, general_of}
use Rattle.uac_entities.proofs.settings.general_following.Goals as goal

pub returns-then-ends_setting : goal.returns-then-ends_setting
returns-then-ends_setting c =
    let here = own_at_stop general_of c.args.blocks.now c.loop-block.block-index c.block-item.result c.loop-block-test.true c.block-item.is c.if-ends_setting.ensures in
    ap (λ (xs : List General). slice_get xs 0) (sym here ∙ c.loop-block.invariant)

pub returns-in-Some : goal.returns-in-Some
returns-in-Some c =
    let rest = own general_of (drop (c.loop-block.block-index + 1) c.args.blocks.now) in
    let here = own_at_next general_of c.args.blocks.now c.loop-block.block-index c.block-item.result c.loop-block-test.true c.block-item.is c.if-ends_setting.ensures in
    ap (λ (xs : List General). slice_get xs 0) (ap (λ (o : Option General). cons_option o rest) c.in-Some.ensures ∙ sym here ∙ c.loop-block.invariant)

pub loop-block-preserved : goal.loop-block-preserved
loop-block-preserved c =
    let rest = own general_of (drop (c.loop-block.block-index + 1) c.args.blocks.now) in
    let here = own_at_next general_of c.args.blocks.now c.loop-block.block-index c.block-item.result c.loop-block-test.true c.block-item.is c.if-ends_setting.ensures in
    ap (λ (o : Option General). cons_option o rest) c.in_default.ensures ∙ sym here ∙ c.loop-block.invariant

pub returns : goal.returns
returns c =
    ap (λ (xs : List General). slice_get xs 0) (sym (own_at_end general_of c.args.blocks.now c.loop-block.block-index c.loop-block-test.false) ∙ c.loop-block.invariant)
