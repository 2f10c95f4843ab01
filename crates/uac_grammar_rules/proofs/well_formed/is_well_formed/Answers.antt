use Rattle.uac_grammar_rules.proofs.SentenceWellFormedLemmas.{right_well}
use Rattle.uac_grammar_rules.proofs.well_formed.is_well_formed.Goals as goal

pub returns-clause-well_formed : goal.returns-clause-well_formed
returns-clause-well_formed c =
    right_well c.args.context c.args.block.now c.has_wrong_value.result c.has_wrong_value.ensures c.keep_number.ensures c.has_spelling.ensures.short
