-- The order of the nodes from which no walk goes on for ever: what a node names stands before it.
use Rattle.std.specs.Prelude.{◌≡◌, ◌==◌, ℕ, ◌<◌, not, List, length, slice_index}
use Rattle.std.specs.List.{list_any, All}
use Rattle.uac_topology_rules.specs.Walk.{links, has_walk}

-- each node that a node names is one of the graph
abbrev pub IsClosed : List (List ℕ) → Type 0
IsClosed graph = (v : ℕ) → v < length graph → All (λ t. t < length graph) (links graph v)

-- node t is one of the first k of the order
abbrev pub IsAmongFirst : List ℕ → ℕ → ℕ → Type 0
IsAmongFirst order k t = (j : ℕ) × (j < k) × (slice_index order j ≡ t)

-- the order has each node once from which no walk of as many links as there are nodes leads on, and no other
pub record IsOrder (graph : List (List ℕ)) (order : List ℕ) : Type 0 where
  pub nodes : (k : ℕ) → k < length order → slice_index order k < length graph
  pub apart : (j k : ℕ) → j < k → k < length order → slice_index order j ≡ slice_index order k → ⊥
  pub named_first : (k : ℕ) → k < length order → All (IsAmongFirst order k) (links graph (slice_index order k))
  pub which : (v : ℕ) → v < length graph → list_any (λ u. u == v) order ≡ not (has_walk graph (length graph) v)
