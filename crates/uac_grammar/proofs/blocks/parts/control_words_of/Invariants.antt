use Rattle.std.proofs.Common.{◌≡◌}
use Rattle.uac_descriptor.specs.BlockParsing.{words_in}
use Rattle.uac_grammar.proofs.blocks.parts.control_words_of.Given as goal

abbrev pub invariant-loop-i : goal.invariant-loop-i
invariant-loop-i l = l.words.items ≡ words_in l.i l.bytes
