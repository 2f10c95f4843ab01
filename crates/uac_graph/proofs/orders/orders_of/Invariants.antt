use Rattle.std.proofs.Common.{◌≡◌, ◌==◌, ℕ, ◌<◌, true}
use Rattle.std.specs.List.{All, list_any}
use Rattle.uac_topology_rules.specs.Rules.{is_output}
use Rattle.uac_topology_rules.specs.Table.{at}
use Rattle.uac_graph.specs.Orders.{IsKeptOrder}
use Rattle.uac_graph.proofs.orders.orders_of.Given as goal

abbrev pub invariant-loop-entity : goal.invariant-loop-entity
invariant-loop-entity l = record {
  each : All (IsKeptOrder l.table) l.orders.items;
  passed : (k : ℕ) → k < l.entity-index → is_output (at l.entity-items k).kind ≡ true
      → list_any (λ o. o.domain == (at l.entity-items k).clock) l.orders.items ≡ true;
}
