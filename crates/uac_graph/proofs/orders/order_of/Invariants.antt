use Rattle.std.proofs.Common.{◌≡◌, ◌&&◌, ℕ, length, take}
use Rattle.std.specs.List.{list_any}
use Rattle.uac_graph.specs.Needs.{is_end, reaches}
use Rattle.uac_graph.specs.Orders.{IsRenderOrder, has_id}
use Rattle.uac_graph.proofs.orders.order_of.Given as goal

abbrev pub invariant-loop-entity : goal.invariant-loop-entity
invariant-loop-entity l = record {
  order : IsRenderOrder l.table l.indices.items;
  all : (k : ℕ) → has_id l.table l.indices.items k
      ≡ list_any (λ e. is_end l.domain e && reaches l.table (length l.table) e.id k) (take l.entity-index l.entities);
}
