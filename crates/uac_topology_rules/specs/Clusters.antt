-- The channels that an entity puts out (Audio Class 2.0, 4.1, the cluster descriptor): an input terminal (3.13.1) and a
-- mixer (3.13.3) have their own cluster, a selector (3.13.4) that of its first pin, a feature (3.13.5), an effect (3.13.7)
-- and an output terminal (3.13.2) that of their source.
use Rattle.std.specs.Prelude.{◌≡◌, ℕ, ◌+◌, zero, suc, Bool, true, false, ◌||◌, not, if◌then◌else◌}
use Rattle.std.specs.Prelude.{List, [], ◌∷◌, map, length, slice_get, sum}
use Rattle.std.specs.List.{flat_map, range_with_len}
use Rattle.std.specs.Option.{option_map_or}
use Rattle.uac_topology_rules.specs.Walk.{links, has_walk}
use Rattle.uac_entities.specs.Entities.{no_cluster}
use Rattle.uac_entities.specs.declared.entity.Cluster.{Cluster}
use Rattle.uac_entities.specs.declared.entity.Entity.{Entity}
use Rattle.uac_entities.specs.declared.entity.EntityKind.{EntityKind}
use Rattle.uac_entities.specs.declared.entity.EntityKind.TheVariants as kind
pub use Rattle.uac_entities.specs.EntityInterfaces.{is_input}
use Rattle.uac_topology_rules.specs.Table.{at, with_cluster}
use Rattle.uac_topology_rules.specs.Links.{is_clock, signal_links}

-- an input terminal (Audio Class 2.0, 3.13.1) and a mixer (3.13.3) have a cluster of their own
abbrev pub has_own_cluster : EntityKind → Bool
has_own_cluster kind.ClockSource = false
has_own_cluster kind.ClockSelector = false
has_own_cluster kind.ClockMultiplier = false
has_own_cluster kind.InputTerminal = true
has_own_cluster kind.OutputTerminal = false
has_own_cluster kind.Mixer = true
has_own_cluster kind.Selector = false
has_own_cluster kind.Feature = false
has_own_cluster kind.Effect = false

-- whether its cluster is that of its first source: it is no clock and has none of its own
abbrev pub takes_over : EntityKind → Bool
takes_over k = not (is_clock k || has_own_cluster k)

-- the cluster of an entity, by those of its sources
abbrev pub cluster_by : Entity → List ℕ → (ℕ → Cluster) → Cluster
cluster_by e sources below = if takes_over e.kind then option_map_or below (slice_get sources 0) no_cluster else e.cluster

-- one step: from the clusters of the sources to that of the entity at an index
unfoldable pub cluster_step : List Entity → (ℕ → Cluster) → ℕ → Cluster
cluster_step entities below index = cluster_by (at entities index) (links (signal_links entities) index) below

-- the cluster, along fewer than n links
unfoldable pub cluster_within : ℕ → List Entity → ℕ → Cluster
cluster_within zero entities index = no_cluster
cluster_within (suc n) entities index = cluster_step entities (cluster_within n entities) index

-- the cluster of the entity at an index
unfoldable pub cluster_of : List Entity → ℕ → Cluster
cluster_of entities index = cluster_within (length entities) entities index

-- the channels of each pin
unfoldable pub pins : List Entity → ℕ → List ℕ
pins entities index = map (λ p. (cluster_of entities p).channels) (links (signal_links entities) index)

-- the input channels: those of all pins
abbrev pub inputs : List Entity → ℕ → ℕ
inputs entities index = sum (pins entities index)

-- the clocks behind an entity, by those behind its sources
abbrev pub clocks_by : Entity → List ℕ → (ℕ → List ℕ) → List ℕ
clocks_by e sources below = if is_input e.kind then e.clock ∷ [] else flat_map below sources

-- one step: from the clocks behind the sources to those behind the entity at an index
unfoldable pub clocks_step : List Entity → (ℕ → List ℕ) → ℕ → List ℕ
clocks_step entities below index = clocks_by (at entities index) (links (signal_links entities) index) below

-- the clocks of the input terminals to which a walk of fewer than n signal source links leads
unfoldable pub clocks_within : ℕ → List Entity → ℕ → List ℕ
clocks_within zero entities index = []
clocks_within (suc n) entities index = clocks_step entities (clocks_within n entities) index

-- the clocks of the input terminals to which a walk of signal source links leads
unfoldable pub clocks_of : List Entity → ℕ → List ℕ
clocks_of entities index = clocks_within (length entities) entities index

-- the entities in block order, each with the cluster that it puts out
unfoldable pub with_own_clusters : List Entity → List Entity
with_own_clusters entities = map (λ index. with_cluster (at entities index) (cluster_of entities index))
    (range_with_len 0 (length entities))

-- where no walk of n signal source links leads on, more links change neither the cluster nor the clocks behind
abbrev pub MoreLinksChangeNothing : Type 0
MoreLinksChangeNothing =
    (entities : List Entity) (n index : ℕ) → has_walk (signal_links entities) n index ≡ false → (more : ℕ) →
    (cluster_within (more + n) entities index ≡ cluster_within n entities index)
    × (clocks_within (more + n) entities index ≡ clocks_within n entities index)
