-- Entities by their index in block order, and by their id (Audio Class 2.0, 3.13: an id names one entity of the function).
use Rattle.std.specs.Prelude.{◌≡◌, ◌<◌, ◌≤◌, ℕ, ◌==◌, List, [], Option, position, slice_index_or, length, map}
use Rattle.std.specs.List.{position_or_len, range_with_len}
use Rattle.std.specs.Option.{option_map}
use Rattle.uac_entities.specs.Entities.{no_cluster}
use Rattle.uac_entities.specs.declared.entity.Cluster.{Cluster}
use Rattle.uac_entities.specs.declared.entity.Entity.{Entity}
use Rattle.uac_entities.specs.declared.entity.EntityKind.{EntityKind}
use Rattle.uac_entities.specs.declared.entity.EntityKind.TheVariants as kind

-- an entity of no fields, which stands for an index past the end
abbrev pub nothing : Entity
nothing =
    record {
      id = 0;
      kind = kind.ClockSource;
      terminal_type = 0;
      sources = [];
      clock = 0;
      cluster = no_cluster;
      controls = [];
      mix_bits = [];
      attributes = 0;
    }

-- the entity at an index in block order
unfoldable pub at : List Entity → ℕ → Entity
at entities index = slice_index_or entities index nothing

-- the index of the first entity with an id, if there is one
unfoldable pub first_index_of : List Entity → ℕ → Option ℕ
first_index_of entities id = position (λ e. e.id == id) entities

-- the index of the entity with an id; the number of entities where there is none
unfoldable pub index_of : List Entity → ℕ → ℕ
index_of entities id = position_or_len (λ e. e.id == id) entities

-- the kind of the entity with an id
unfoldable pub kind_of : List Entity → ℕ → Option EntityKind
kind_of entities id = option_map (λ index. (at entities index).kind) (first_index_of entities id)

-- an entity with the cluster that it puts out
abbrev pub with_cluster : Entity → Cluster → Entity
with_cluster e c = record e { cluster = c }

-- the entities, each with the cluster at its index
unfoldable pub with_clusters : List Entity → List Cluster → List Entity
with_clusters entities clusters =
    map (λ index. with_cluster (at entities index) (slice_index_or clusters index no_cluster)) (range_with_len 0 (length entities))

-- the first n entities have got the cluster at their index
pub record HasPut (old : List Entity) (clusters : List Cluster) (n : ℕ) (new : List Entity) : Type 0 where
  pub sized : length new ≡ length old
  pub put : (k : ℕ) → k < n
      → slice_index_or new k nothing ≡ with_cluster (slice_index_or old k nothing) (slice_index_or clusters k no_cluster)
  pub left : (k : ℕ) → n ≤ k → slice_index_or new k nothing ≡ slice_index_or old k nothing
