-- What following the links finds out.
use Rattle.std.specs.Prelude.{◌≡◌, ℕ, Bool, List, Option, length}
use Rattle.uac_topology_rules.specs.Walk.{has_walk}
use Rattle.uac_topology_rules.specs.Order.{IsOrder}
use Rattle.uac_entities.specs.declared.entity.Entity.{Entity}
use Rattle.uac_topology_rules.specs.declared.fault.TopologyFault.{TopologyFault}
use Rattle.uac_topology_rules.specs.Links.{signal_links}
use Rattle.uac_topology_rules.specs.RuleFaults.{broken_walks}

-- a walk of as many of these links as there are entities leads on from an index
abbrev pub goes_on : List (List ℕ) → List Entity → ℕ → Bool
goes_on graph entities index = has_walk graph (length entities) index

-- the links of these entities, an order in which sources stand first, and the first fault of a walk
pub record IsWalked (entities : List Entity) (links : List (List ℕ)) (order : List ℕ) (fault : Option TopologyFault) : Type 0 where
  pub linked : links ≡ signal_links entities
  pub ordered : IsOrder links order
  pub judged : fault ≡ broken_walks entities
