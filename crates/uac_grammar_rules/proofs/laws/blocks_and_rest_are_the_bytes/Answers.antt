use Rattle.uac_grammar_rules.proofs.CuttingLemmas.{chop_is_cut}
use Rattle.uac_grammar_rules.proofs.laws.blocks_and_rest_are_the_bytes.Goals as goal

pub returns : goal.returns
returns c = chop_is_cut c.args.bytes.now
