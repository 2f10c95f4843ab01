use Rattle.std.proofs.Common.{◌≡◌, ◌==◌, ◌∙◌, sym, subst, arith, List, true, false}
use Rattle.std.specs.List.{list_any}
use Rattle.uac_graph.specs.declared.orders.Order.{Order}
use Rattle.uac_graph.proofs.OrdersLemmas.{each_more, each_none, known_last, known_more, orders_all, passed_more}
use Rattle.uac_graph.proofs.orders.orders_of.Goals as goal
use Rattle.uac_graph.proofs.orders.orders_of.Goals.{then-not-is_output-via-then-not-is_output, then-not-is_output-via-else-not-is_output+then-has_order}

pub loop-entity-init : goal.loop-entity-init
loop-entity-init c = record {
  each = each_none c.args.table.now c.new-orders.result.items c.new-orders.ensures.items;
  passed = λ k below output. absurd (omega arith);
}

pub loop-entity-preserved-then-not-is_output : goal.loop-entity-preserved-then-not-is_output
loop-entity-preserved-then-not-is_output c = record {
  each = c.loop-entity.invariant.each;
  passed =
      passed_more c.as_slice-entity-items.result.now c.loop-entity.orders.items c.loop-entity.entity-index c.entity-item.result c.loop-entity-test.true c.entity-item.is
      (elim c.then-not-is_output.branch [
        | then-not-is_output-via-then-not-is_output w ↦
            λ output. absurd (let clash : true ≡ false = sym output ∙ sym c.is_output.ensures ∙ w.if-not-is_output.true in cc)
        | then-not-is_output-via-else-not-is_output+then-has_order w ↦
            λ output.
            subst (λ (os : List Order). list_any (λ o. o.domain == c.entity-item.result.clock) os ≡ true) w.deref.ensures.value
            (sym w.has_order.ensures ∙ w.if-has_order.true)
      ]) c.loop-entity.invariant.passed;
}

pub loop-entity-preserved : goal.loop-entity-preserved
loop-entity-preserved c =
    let slice = c.as_slice-entity-items.result.now in
    let old = c.loop-entity.orders.items in
    let new = c.push.new.self.items in
    let i = c.loop-entity.entity-index in
    let o : Order = c.in_ok-order.order in
    record {
      each = each_more c.args.table.now old new o c.in_ok-push.ensures.items c.loop-entity.invariant.each c.in_ok-order.ensures.1;
      passed =
          passed_more slice new i c.entity-item.result c.loop-entity-test.true c.entity-item.is
          (λ output. known_last old new o c.entity-item.result.clock c.in_ok-push.ensures.items c.in_ok-order.ensures.0)
          (known_more slice old new o i c.in_ok-push.ensures.items c.loop-entity.invariant.passed);
    }

pub returns : goal.returns
returns c =
    orders_all c.args.table.now c.as_slice-entity-items.result.now c.loop-entity.orders.items c.loop-entity.entity-index
    c.as_slice-entity-items.ensures c.loop-entity-test.false c.loop-entity.invariant.each c.loop-entity.invariant.passed
