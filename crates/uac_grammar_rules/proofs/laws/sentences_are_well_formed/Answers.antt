use Rattle.uac_grammar_rules.proofs.SentenceWellFormedLemmas.{sentence_is_well_formed}
use Rattle.uac_grammar_rules.proofs.laws.sentences_are_well_formed.Goals as goal

pub returns : goal.returns
returns c = sentence_is_well_formed
