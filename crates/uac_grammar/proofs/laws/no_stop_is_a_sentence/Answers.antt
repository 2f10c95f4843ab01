use Rattle.std.proofs.Common.{ap}
use Rattle.uac_grammar_rules.specs.Grammar.{first_fault}
use Rattle.uac_grammar_rules.proofs.SentenceLemmas.{none_sentence, sentence_none}
use Rattle.uac_grammar.specs.Stop.{stop_at}
use Rattle.uac_grammar.proofs.ReaderKeptLemmas.{no_stop_no_fault}
use Rattle.uac_grammar.proofs.laws.no_stop_is_a_sentence.Goals as goal

pub returns : goal.returns
returns c = λ bytes are. (
  λ e. none_sentence bytes are (no_stop_no_fault (first_fault bytes) e),
  λ (blocks, sentence). ap stop_at (sentence_none bytes blocks sentence),
)
