use Rattle.std.proofs.Common.{arith}
use Rattle.uac_grammar_rules.specs.Grammar.{first_fault, grammar, start}
use Rattle.uac_grammar_rules.proofs.FaultLemmas.{shown_stays}
use Rattle.uac_grammar_rules.proofs.laws.shown_fault_stays.Goals as goal

pub returns : goal.returns
unfolding first_fault
returns c = λ fault more e shown. shown_stays grammar start 0 c.args.bytes.now more fault e (shown.0, omega (arith, shown.1))
