-- What is found along the signal links.
use Rattle.std.specs.Prelude.{◌≡◌, ℕ, ◌<◌, false, List, length, slice_index, slice_index_or}
use Rattle.uac_topology_rules.specs.Walk.{has_walk}
use Rattle.uac_topology_rules.specs.Order.{IsClosed, IsOrder}
use Rattle.uac_entities.specs.Entities.{no_cluster}
use Rattle.uac_entities.specs.declared.entity.Cluster.{Cluster}
use Rattle.uac_entities.specs.declared.entity.Entity.{Entity}
use Rattle.uac_topology_rules.specs.declared.signals.Behind.{Behind}
use Rattle.uac_topology_rules.specs.declared.signals.Behind.TheVariants as clocks
use Rattle.uac_topology_rules.specs.Links.{signal_links}
use Rattle.uac_topology_rules.specs.Clusters.{cluster_of, clocks_of}
use Rattle.uac_topology_rules.specs.Behind.{Summarizes}

-- from no entity a walk of signal source links goes on for ever
abbrev pub IsAcyclic : List Entity → Type 0
IsAcyclic entities = (index : ℕ) → index < length entities → has_walk (signal_links entities) (length entities) index ≡ false

-- the signal links, with an order of the entities in which sources stand first
pub record IsWalkable (entities : List Entity) (links : List (List ℕ)) (order : List ℕ) : Type 0 where
  pub linked : links ≡ signal_links entities
  pub ordered : IsOrder links order
  pub acyclic : IsAcyclic entities

-- the cluster of each entity
pub record AreClusters (entities : List Entity) (clusters : List Cluster) : Type 0 where
  pub sized : length clusters ≡ length entities
  pub found : (index : ℕ) → index < length entities → slice_index_or clusters index no_cluster ≡ cluster_of entities index

-- what tells of the clocks behind each entity
pub record AreClocks (entities : List Entity) (list : List Behind) : Type 0 where
  pub sized : length list ≡ length entities
  pub told : (index : ℕ) → index < length entities → Summarizes (slice_index_or list index clocks.Nothing) (clocks_of entities index)

-- the clusters of the first n entities of the order
pub record HasClusters (entities : List Entity) (order : List ℕ) (n : ℕ) (clusters : List Cluster) : Type 0 where
  pub sized : length clusters ≡ length entities
  pub found : (j : ℕ) → j < n → slice_index_or clusters (slice_index order j) no_cluster ≡ cluster_of entities (slice_index order j)

-- what tells of the clocks behind the first n entities of the order
pub record HasClocks (entities : List Entity) (order : List ℕ) (n : ℕ) (list : List Behind) : Type 0 where
  pub sized : length list ≡ length entities
  pub told : (j : ℕ) → j < n
      → Summarizes (slice_index_or list (slice_index order j) clocks.Nothing) (clocks_of entities (slice_index order j))

-- the signal links, and the clusters and clocks along them
pub record IsKnown (entities : List Entity) (links : List (List ℕ)) (clusters : List Cluster) (list : List Behind) : Type 0 where
  pub linked : links ≡ signal_links entities
  pub closed : IsClosed links
  pub sounding : AreClusters entities clusters
  pub ticking : AreClocks entities list
