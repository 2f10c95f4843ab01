use Rattle.std.proofs.Common.{drop}
use Rattle.uac_grammar_rules.proofs.SentenceWellFormedLemmas.{IsTurning}
use Rattle.uac_grammar_rules.proofs.well_formed.are_in_turn.Given as goal

abbrev pub invariant-loop-block : goal.invariant-loop-block
invariant-loop-block l = IsTurning l.used l.latest l.blocks (drop l.block-index l.blocks)
