use Rattle.std.proofs.Common.{rules}
use Rattle.uac_grammar_rules.proofs.SentenceLemmas.{none_sentence, sentence_none, sentence_unique}
use Rattle.uac_grammar_rules.proofs.laws.no_fault_is_a_sentence.Goals as goal

pub returns-clause-exact : goal.returns-clause-exact
returns-clause-exact c = (
  none_sentence c.args.bytes.now (λ i. search rules),
  λ (blocks, sentence). sentence_none c.args.bytes.now blocks sentence,
)

pub returns-clause-unique : goal.returns-clause-unique
returns-clause-unique c = sentence_unique c.args.bytes.now
