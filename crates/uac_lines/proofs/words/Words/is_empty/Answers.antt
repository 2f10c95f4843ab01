use Rattle.uac_lines.proofs.WordsLemmas.{nothing_left}
use Rattle.uac_lines.proofs.words.Words.is_empty.Goals as goal

pub returns : goal.returns
returns c = nothing_left c.args.self.rest _ c.is_none.ensures
