use Rattle.std.proofs.Common.{◌≡◌, ◌<◌, ℕ, true, false, List, length, get_or, arith, ap, sym, ◌∙◌, subst}
use Rattle.uac_topology_rules.specs.Walk.{has_walk}
use Rattle.uac_entities.specs.declared.entity.Entity.{Entity}
use Rattle.uac_topology_rules.specs.Table.{at}
use Rattle.uac_topology_rules.specs.RuleNumbers.{number}
use Rattle.uac_topology_rules.specs.WalkRules.{goes_on}
use Rattle.uac_topology_rules.proofs.TableIdLemmas.{at_read}
use Rattle.uac_topology_rules.proofs.RuleFaultsLemmas.{entity_breaks, no_entity_breaks, same_fault}
use Rattle.uac_topology_rules.proofs.walks.judge.Goals as goal

pub returns-then-comes_round : goal.returns-then-comes_round
returns-then-comes_round c =
    let es = c.args.table.now in
    let graph = c.args.graph.now in
    let k = c.loop-index.index in
    let v : c.as_slice-entity-items.result.now ≡ es = c.as_slice-entity-items.ensures in
    let below : k < length es = subst (λ (xs : List Entity). k < length xs) v c.loop-index-test.true in
    let e = at_read es k c.entity-item.result below (c.entity-item.is ∙ ap (λ (xs : List Entity). get_or xs k c.entity-item.result) v) in
    let on : has_walk graph (length graph) k ≡ true = sym c.if-comes_round.ensures.walk in
    same_fault c.number.result (number c.args.rule) c.entity-item.result.id (at es k).id false c.number.ensures (ap (λ (x : Entity). x.id) e)
    ∙ sym (entity_breaks (number c.args.rule) es (goes_on graph) k below c.loop-index.invariant
    (subst (λ (n : ℕ). has_walk graph n k ≡ true) c.requires.sized on))

pub returns : goal.returns
returns c =
    let es = c.args.table.now in
    let v : c.as_slice-entity-items.result.now ≡ es = c.as_slice-entity-items.ensures in
    sym (no_entity_breaks (number c.args.rule) es (goes_on c.args.graph.now)
    (λ j below. c.loop-index.invariant j (omega (arith, c.loop-index-test.false, ap (λ (xs : List Entity). length xs) v))))
