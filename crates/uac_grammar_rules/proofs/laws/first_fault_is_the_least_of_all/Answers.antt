use Rattle.std.proofs.Common.{rules}
use Rattle.uac_grammar_rules.proofs.FirstFaultLemmas.{found_first, first_found, none_nowhere, nowhere_none}
use Rattle.uac_grammar_rules.proofs.laws.first_fault_is_the_least_of_all.Goals as goal

pub returns-clause-found : goal.returns-clause-found
returns-clause-found c = λ fault. (found_first c.args.bytes.now (λ i. search rules) fault, first_found c.args.bytes.now (λ i. search rules) fault)

pub returns-clause-none : goal.returns-clause-none
returns-clause-none c = (none_nowhere c.args.bytes.now (λ i. search rules), nowhere_none c.args.bytes.now (λ i. search rules))
