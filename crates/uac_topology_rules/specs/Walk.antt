-- Walks along links. A graph is a list that has for each node, by its index, the nodes that it names.
use Rattle.std.specs.Prelude.{◌≡◌, ◌==◌, ℕ, Bool, true, false, List, [], zero, suc, length, slice_index_or}
use Rattle.std.specs.List.{list_any}

-- the nodes that a node names
abbrev pub links : List (List ℕ) → ℕ → List ℕ
links graph v = slice_index_or graph v []

-- a walk of n links leads on from node v: one of none always does, and one of n + 1 where one of n
-- leads on from a node that v names
unfoldable pub has_walk : List (List ℕ) → ℕ → ℕ → Bool
has_walk graph zero v = true
has_walk graph (suc n) v = list_any (has_walk graph n) (links graph v)

-- a walk of n links leads from node v to node w
unfoldable pub leads : List (List ℕ) → ℕ → ℕ → ℕ → Bool
leads graph zero v w = v == w
leads graph (suc n) v w = list_any (λ t. leads graph n t w) (links graph v)

-- no walk of one link or more leads back to a node from which no walk of as many links as there are nodes leads on
abbrev pub NoWayBack : Type 0
NoWayBack =
    (graph : List (List ℕ)) (v : ℕ) → has_walk graph (length graph) v ≡ false → (n : ℕ) → leads graph (suc n) v v ≡ false
