-- Links that come round. A walk of as many links as there are nodes is a bound; this is what it stands for.
use Rattle.std.specs.Prelude.{◌≡◌, ◌↔◌, ℕ, ◌<◌, true, List, suc, length}
use Rattle.uac_topology_rules.specs.Walk.{has_walk, leads}
use Rattle.uac_topology_rules.specs.Order.{IsClosed}

-- a walk leads from node v to a node from which a walk of one link or more leads back to it
pub record ComesRound (graph : List (List ℕ)) (v : ℕ) : Type 0 where
  pub node : ℕ
  pub before : ℕ
  pub within : ℕ
  pub reached : leads graph before v node ≡ true
  pub again : leads graph (suc within) node node ≡ true

-- from some node a walk of one link or more leads back to it
pub record HasCycle (graph : List (List ℕ)) : Type 0 where
  pub node : ℕ
  pub within : ℕ
  pub again : leads graph (suc within) node node ≡ true

-- a walk of as many links as there are nodes leads on exactly where links come round
abbrev pub LongWalksComeRound : Type 0
LongWalksComeRound =
    (graph : List (List ℕ)) (v : ℕ) → IsClosed graph → v < length graph → (has_walk graph (length graph) v ≡ true) ↔ ComesRound graph v
