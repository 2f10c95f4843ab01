use Rattle.std.proofs.Common.{◌≡◌, ◌<◌, false, List, length, get_or, arith, ap, sym, ◌∙◌, subst}
use Rattle.uac_entities.specs.declared.entity.Entity.{Entity}
use Rattle.uac_topology_rules.specs.Table.{at}
use Rattle.uac_topology_rules.specs.Rules.{breaks_u14}
use Rattle.uac_topology_rules.proofs.TableIdLemmas.{at_read}
use Rattle.uac_topology_rules.proofs.RuleFaultsLemmas.{entity_breaks, no_entity_breaks, same_fault}
use Rattle.uac_topology_rules.proofs.shapes.entity_limit.Goals as goal

pub returns-then-breaks_u14 : goal.returns-then-breaks_u14
returns-then-breaks_u14 c =
    let es = c.args.known.now in
    let k = c.loop-index.index in
    let v : c.as_slice-entity-items.result.now ≡ es = c.as_slice-entity-items.ensures ∙ c.table.ensures in
    let below : k < length es = subst (λ (xs : List Entity). k < length xs) v c.loop-index-test.true in
    let e = at_read es k c.entity-item.result below (c.entity-item.is ∙ ap (λ (xs : List Entity). get_or xs k c.entity-item.result) v) in
    same_fault c.number.result 14 c.entity-item.result.id (at es k).id false c.number.ensures (ap (λ (x : Entity). x.id) e)
    ∙ sym (entity_breaks 14 es breaks_u14 k below c.loop-index.invariant (sym c.if-breaks_u14.ensures))

pub returns : goal.returns
returns c =
    let es = c.args.known.now in
    let v : c.as_slice-entity-items.result.now ≡ es = c.as_slice-entity-items.ensures ∙ c.table.ensures in
    sym (no_entity_breaks 14 es breaks_u14
    (λ j below. c.loop-index.invariant j (omega (arith, c.loop-index-test.false, ap (λ (xs : List Entity). length xs) v))))
