use Rattle.uac_words.proofs.AskedLemmas.{nothing_else_asks}
use Rattle.uac_words.proofs.CommandLinesLemmas.{line_asks}
use Rattle.uac_words.proofs.laws.command_lines_alone_ask.Goals as goal

pub returns : goal.returns
returns c = record { lines = line_asks; nothing_else = nothing_else_asks }
