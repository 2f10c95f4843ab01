use Rattle.std.proofs.Common.{true, arith, sym, ◌∙◌}
use Rattle.uac_topology_rules.specs.Offenders.{number_at}
use Rattle.uac_topology_rules.specs.RuleNumbers.{number}
use Rattle.uac_topology_rules.specs.EndRules.{breaks}
use Rattle.uac_topology_rules.proofs.EndRulesLemmas.{number_is}
use Rattle.uac_topology_rules.proofs.RuleFaultsLemmas.{interface_breaks, no_interface_breaks, same_fault}
use Rattle.uac_topology_rules.proofs.ends.judge.Goals as goal

pub returns-then-breaks : goal.returns-then-breaks
returns-then-breaks c =
    let ss = c.args.streams.now in
    let k = c.loop-index.index in
    let s = c.index-streams-index.result in
    same_fault c.number.result (number c.args.rule) s.number (number_at ss k) true c.number.ensures (number_is ss k s c.loop-index-test.true c.index-streams-index.is)
    ∙ sym (interface_breaks (number c.args.rule) ss (breaks c.args.rule c.args.table.now c.args.all.now) k c.loop-index-test.true c.loop-index.invariant
    (sym c.if-breaks.ensures))

pub returns : goal.returns
returns c =
    sym (no_interface_breaks (number c.args.rule) c.args.streams.now (breaks c.args.rule c.args.table.now c.args.all.now)
    (λ j below. c.loop-index.invariant j (omega (arith, c.loop-index-test.false))))
