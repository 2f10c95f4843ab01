use Rattle.std.proofs.Common.{ap, ◌∙◌, sym}
use Rattle.uac_lines.specs.Words.{words_left}
use Rattle.uac_lines.proofs.WordsLemmas.{split_at_some, split_at_none}
use Rattle.uac_lines.proofs.words.Words.take.Goals as goal

pub returns-in-Some-clause-words : goal.returns-in-Some-clause-words
returns-in-Some-clause-words c = let e = split_at_some c.in_ok-text.text.now c.in-Some.end (sym c.in-Some.ensures) in ap words_left c.in_ok-text.was ∙ e

pub returns-in-None-clause-words : goal.returns-in-None-clause-words
returns-in-None-clause-words c = let e = split_at_none c.in_ok-text.text.now (sym c.in-None.ensures) in ap words_left c.in_ok-text.was ∙ e
