use Rattle.std.proofs.Common.{◌↔◌, drop}
use Rattle.uac_descriptor.specs.Contexts.{EachIn}
use Rattle.uac_descriptor.specs.WellFormed.{IsWellFormed}
use Rattle.uac_descriptor.specs.declared.context.Context.TheVariants as context
use Rattle.uac_grammar_rules.specs.Values.{HasValues}
use Rattle.uac_grammar_rules.proofs.well_formed.have_right_values.Given as goal

abbrev pub invariant-loop-block : goal.invariant-loop-block
invariant-loop-block l =
    (EachIn HasValues l.context (drop l.block-index l.blocks) ↔ EachIn HasValues context.DeviceFront l.blocks)
    × (EachIn IsWellFormed l.context (drop l.block-index l.blocks) → EachIn IsWellFormed context.DeviceFront l.blocks)
