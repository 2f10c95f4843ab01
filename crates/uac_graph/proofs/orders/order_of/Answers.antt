use Rattle.std.proofs.Common.{◌∙◌, ap, sym, subst, ℕ, Vec, Global}
use Rattle.uac_graph.specs.Orders.{IsRenderOrder, has_id}
use Rattle.uac_graph.proofs.OrdersLemmas.{ends_all, ends_more, ends_same, held_none, order_none}
use Rattle.uac_graph.proofs.WiringTerminalLemmas.{end_signal, end_stops}
use Rattle.uac_graph.proofs.orders.order_of.Goals as goal
use Rattle.uac_graph.proofs.orders.order_of.Goals.{then-is_end+in_ok-visit, else-is_end}

pub loop-entity-init : goal.loop-entity-init
loop-entity-init c = record {
  order = order_none c.args.table.now c.new-indices.result.items c.new-indices.ensures.items;
  all = λ k. held_none c.args.table.now c.new-indices.result.items k c.new-indices.ensures.items;
}

pub visit-requires-clause-signal : goal.visit-requires-clause-signal
visit-requires-clause-signal c =
    end_signal c.args.table.now c.as_slice-entities.result.now c.args.domain c.loop-entity.entity-index c.entity-item.result c.requires
    c.as_slice-entities.ensures c.loop-entity-test.true c.entity-item.is (sym c.is_end.ensures ∙ c.if-is_end.true)

pub visit-requires-clause-ends : goal.visit-requires-clause-ends
visit-requires-clause-ends c =
    end_stops c.args.table.now c.as_slice-entities.result.now c.loop-entity.entity-index c.entity-item.result c.requires
    c.as_slice-entities.ensures c.loop-entity-test.true c.entity-item.is

pub visit-requires-clause-order : goal.visit-requires-clause-order
visit-requires-clause-order c = c.loop-entity.invariant.order

pub loop-entity-preserved : goal.loop-entity-preserved
loop-entity-preserved c =
    let entities = c.args.table.now in
    let slice = c.as_slice-entities.result.now in
    let domain = c.args.domain in
    let i = c.loop-entity.entity-index in
    let all = c.loop-entity.invariant.all in
    elim c.if-is_end.branch [
      | then-is_end+in_ok-visit w ↦
          record {
            order = subst (λ (v : Vec ℕ Global). IsRenderOrder entities v.items) (sym w.indices-is) w.in_ok-visit.ensures.order;
            all =
                ends_more entities slice domain i c.entity-item.result c.loop-entity.indices.items c.if-is_end.indices.items c.as_slice-entities.ensures
                c.loop-entity-test.true c.entity-item.is (sym c.is_end.ensures ∙ w.if-is_end.true) all
                (λ k. ap (λ (v : Vec ℕ Global). has_id entities v.items k) w.indices-is ∙ w.in_ok-visit.ensures.all k);
          }
      | else-is_end w ↦
          record {
            order = subst (λ (v : Vec ℕ Global). IsRenderOrder entities v.items) (sym w.indices-is) c.loop-entity.invariant.order;
            all =
                ends_same entities slice domain i c.entity-item.result c.if-is_end.indices.items c.as_slice-entities.ensures
                c.loop-entity-test.true c.entity-item.is (sym c.is_end.ensures ∙ w.if-is_end.false)
                (λ k. ap (λ (v : Vec ℕ Global). has_id entities v.items k) w.indices-is ∙ all k);
          }
    ]

pub returns : goal.returns
returns c =
    ends_all c.args.table.now c.as_slice-entities.result.now c.args.domain c.loop-entity.entity-index c.loop-entity.indices.items
    c.as_slice-entities.ensures c.loop-entity-test.false c.loop-entity.invariant.order c.loop-entity.invariant.all
