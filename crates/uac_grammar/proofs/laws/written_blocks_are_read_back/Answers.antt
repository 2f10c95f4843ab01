use Rattle.std.proofs.Common.{ap}
use Rattle.uac_grammar_rules.specs.Sentence.{spellings}
use Rattle.uac_grammar_rules.proofs.SentenceLemmas.{sentence_none, sentence_unique}
use Rattle.uac_grammar.specs.Stop.{stop_at}
use Rattle.uac_grammar.proofs.laws.written_blocks_are_read_back.Goals as goal

pub returns-clause-accepted : goal.returns-clause-accepted
returns-clause-accepted c = λ blocks sentence. ap stop_at (sentence_none (spellings blocks) blocks sentence)

pub returns-clause-same : goal.returns-clause-same
returns-clause-same c = λ blocks read sentence other. sentence_unique (spellings blocks) read blocks other sentence
