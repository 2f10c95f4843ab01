use Rattle.uac_words.proofs.PlainLemmas.{asked_plainly}
use Rattle.uac_words.proofs.laws.rules_ask_the_same.Goals as goal

pub returns : goal.returns
returns c = asked_plainly
