use Rattle.std.proofs.Common.{rules, subst, sym}
use Rattle.uac_descriptor.specs.BlockParsing.{AreBytes}
use Rattle.uac_grammar_rules.specs.Sentence.{IsSentence}
use Rattle.uac_grammar_rules.proofs.ProgressLemmas.{block_read, read_faults, read_sentence}
use Rattle.uac_grammar_rules.proofs.laws.state_judges_what_follows.Goals as goal

pub returns-clause-goes_on : goal.returns-clause-goes_on
returns-clause-goes_on c = λ blocks s place b read e unbroken. (block_read blocks s place c.args.bytes.now b read (λ i. search rules) e unbroken).0

pub returns-clause-judges : goal.returns-clause-judges
returns-clause-judges c = λ blocks s place read. read_faults blocks s place read c.args.bytes.now

pub returns-clause-ends : goal.returns-clause-ends
returns-clause-ends c =
    λ blocks s place read e ended.
    subst (λ y. IsSentence y blocks) (sym e) (read_sentence blocks s place read (subst AreBytes e (λ i. search rules)) ended)
