-- What one settled node changes (the counting of Kahn's order of visiting).
use Rattle.std.specs.Prelude.{◌≡◌, ◌==◌, ℕ, ◌+◌, ◌<◌, ◌≤◌, List, length, take, if◌then◌else◌, nat_lt, ◌&&◌, slice_index}
use Rattle.std.specs.List.{All}
use Rattle.uac_topology_rules.specs.Walk.{links}
use Rattle.uac_topology_rules.specs.Count.{times, times_in}
use Rattle.uac_topology_rules.specs.Order.{IsAmongFirst}

-- each naming counts one down, and a node whose count came down to 0 is next in the order
pub record Releases (namers waiting order waiting' order' : List ℕ) : Type 0 where
  pub sized : length waiting' ≡ length waiting
  pub counted : (v : ℕ) → slice_index waiting' v + times v namers ≡ slice_index waiting v
  pub grown : take (length order) order' ≡ order
  pub longer : length order ≤ length order'
  pub next : (v : ℕ) → times v order' ≡ times v order + (if nat_lt 0 (slice_index waiting v) && slice_index waiting' v == 0 then 1 else 0)

-- the first nodes of the order are settled: each node waits for those that it names and that are not among them,
-- and stands in the order, once, where it waits for none
pub record IsReleased (graph : List (List ℕ)) (done : ℕ) (waiting order : List ℕ) : Type 0 where
  pub sized : length waiting ≡ length graph
  pub counted : (v : ℕ) → v < length graph → slice_index waiting v + times_in (take done order) (links graph v) ≡ length (links graph v)
  pub once : (v : ℕ) → v < length graph → times v order ≡ (if slice_index waiting v == 0 then 1 else 0)
  pub nodes : (k : ℕ) → k < length order → slice_index order k < length graph
  pub named_first : (k : ℕ) → k < length order → All (IsAmongFirst order k) (links graph (slice_index order k))
