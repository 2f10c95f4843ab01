-- What the named nodes keep of those that name them.
use Rattle.std.specs.Prelude.{◌≡◌, ◌==◌, ℕ, ◌+◌, ◌<◌, ◌≤◌, List, length, if◌then◌else◌}
use Rattle.uac_topology_rules.specs.Walk.{links}
use Rattle.uac_topology_rules.specs.Count.{times}

-- each node of the list noted once more that this one names it
pub record IsNoted (node : ℕ) (named : List ℕ) (old new : List (List ℕ)) : Type 0 where
  pub sized : length new ≡ length old
  pub noted : (u v : ℕ) → u < length old → times v (links new u) ≡ times v (links old u) + (if v == node then times u named else 0)

-- for each node the nodes that name it, each as often as it does: so far those below n
pub record IsNamedBy (graph : List (List ℕ)) (n : ℕ) (namers : List (List ℕ)) : Type 0 where
  pub sized : length namers ≡ length graph
  pub named : (u v : ℕ) → u < length graph → v < n → times v (links namers u) ≡ times u (links graph v)
  pub none : (u v : ℕ) → u < length graph → n ≤ v → times v (links namers u) ≡ 0
