use Rattle.std.proofs.Common.{[], None, refl}
use Rattle.uac_grammar_rules.specs.Grammar.{start}
use Rattle.uac_grammar.proofs.ReaderKeptLemmas.{reading_going, going_start}
use Rattle.uac_grammar.proofs.reader.Reader.new.Goals as goal

pub invariant_of-result : goal.invariant_of-result
invariant_of-result c = rw (c.new.ensures.items, c.new-2.ensures, c.start.ensures) (reading_going [] start 0 [] None refl going_start)
