use Rattle.std.proofs.Common.{refl, []}
use Rattle.std.proofs.lemmas.Bool.{ne_eqb}
use Rattle.uac_graph.proofs.OrdersLemmas.{none_more, order_at, order_of_none}
use Rattle.uac_graph.proofs.orders.order_for.Goals as goal

pub loop-order-init : goal.loop-order-init
loop-order-init c = refl

pub returns-then-order-domain-clause-found : goal.returns-then-order-domain-clause-found
returns-then-order-domain-clause-found c entities are = (
  c.if-order-domain.true,
  order_at entities c.args.orders.now c.loop-order.order-index c.order-item.result c.loop-order-test.true c.order-item.is are,
)

pub loop-order-preserved : goal.loop-order-preserved
loop-order-preserved c =
    none_more c.args.orders.now c.args.domain c.loop-order.order-index c.order-item.result c.loop-order-test.true c.order-item.is
    (ne_eqb c.order-item.result.domain c.args.domain c.if-order-domain.false) c.loop-order.invariant

pub returns-clause-none : goal.returns-clause-none
returns-clause-none c entities are =
    order_of_none entities c.args.orders.now c.args.domain c.loop-order.order-index [] c.loop-order-test.false c.loop-order.invariant refl are
