use Rattle.std.proofs.Common.{◌↔◌, drop}
use Rattle.uac_descriptor.specs.BlockTurns.{BeginsWithControl, interfaces_in}
use Rattle.uac_grammar_rules.proofs.well_formed.begin_with_control.Given as goal

abbrev pub invariant-loop-block : goal.invariant-loop-block
invariant-loop-block l = BeginsWithControl (interfaces_in (drop l.block-index l.blocks)) ↔ BeginsWithControl (interfaces_in l.blocks)
