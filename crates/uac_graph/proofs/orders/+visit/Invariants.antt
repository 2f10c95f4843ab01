use Rattle.std.proofs.Common.{◌≡◌, ◌||◌, ℕ, ◌-◌, take}
use Rattle.std.specs.List.{list_any}
use Rattle.uac_graph.specs.Needs.{reaches}
use Rattle.uac_graph.specs.Orders.{IsRenderOrder, has_id}
use Rattle.uac_graph.proofs.orders.+visit.Given as goal

abbrev pub decreases-visit : goal.decreases-visit
decreases-visit l = l.links

abbrev pub invariant-loop-source : goal.invariant-loop-source
invariant-loop-source l = record {
  order : IsRenderOrder l.table l.indices.items;
  all : (k : ℕ) → has_id l.table l.indices.items k
      ≡ (has_id l.table l.fn.indices.items k || list_any (λ s. reaches l.table (l.links - 1) s k) (take l.source-index l.source-items));
}
