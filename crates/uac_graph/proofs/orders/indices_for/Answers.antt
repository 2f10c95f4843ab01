use Rattle.std.proofs.Common.{subst, sym, ℕ}
use Rattle.uac_graph.specs.Orders.{IsOrderOf}
use Rattle.uac_graph.proofs.orders.indices_for.Goals as goal

pub returns-in-Some : goal.returns-in-Some
returns-in-Some c entities are =
    let found = c.in-Some.ensures.found entities are in
    subst (IsOrderOf entities c.args.domain) (sym c.as_slice.ensures.value)
    (subst (λ (d : ℕ). IsOrderOf entities d c.in-Some.order.now.indices.items) found.0 found.1.order_of)
