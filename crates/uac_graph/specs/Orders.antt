-- The order in which a clock domain's entities are rendered: each after its sources.
use Rattle.std.specs.Prelude.{◌≡◌, ◌==◌, ◌<◌, ◌&&◌, not, ℕ, Bool, true, false, if◌then◌else◌, ℤ, List, Option, Some, length, map, take}
use Rattle.std.specs.Prelude.{slice_index_or}
use Rattle.std.specs.List.{All, list_any}
use Rattle.uac_entities.specs.declared.entity.Entity.{Entity}
use Rattle.uac_topology_rules.specs.Clusters.{is_input}
use Rattle.uac_topology_rules.specs.Links.{is_clock, signal_sources}
use Rattle.uac_topology_rules.specs.Table.{at}
use Rattle.uac_graph.specs.GraphControls.{Controls}
use Rattle.uac_graph.specs.Meaning.{frame_of}
use Rattle.uac_graph.specs.Needs.{depends_on}
use Rattle.uac_graph.specs.Wiring.{Frames, frame_on, samples_on}
use Rattle.uac_graph.specs.declared.orders.Order.{Order}
use Rattle.uac_graph.specs.Tasks.{tasks_at}

-- the entity with an id stands at one of these indices
abbrev pub has_id : List Entity → List ℕ → ℕ → Bool
has_id entities indices id = list_any (λ index. (at entities index).id == id) indices

-- indices of entities that carry a signal, each once and after all of its sources
pub record IsRenderOrder (entities : List Entity) (indices : List ℕ) : Type 0 where
  pub inside : All (λ index. index < length entities) indices
  pub signal : All (λ index. is_clock (at entities index).kind ≡ false) indices
  pub apart : (j k : ℕ) → j < k → k < length indices → slice_index_or indices j 0 ≡ slice_index_or indices k 0 → ⊥
  pub following : (k : ℕ) → k < length indices
      → All (λ s. has_id entities (take k indices) s ≡ true) (signal_sources (at entities (slice_index_or indices k 0)))

-- such an order of exactly the entities on which the domain's output terminals depend, and these terminals
pub record IsOrderOf (entities : List Entity) (domain : ℕ) (indices : List ℕ) : Type 0 where
  pub order : IsRenderOrder entities indices
  pub all : (id : ℕ) → has_id entities indices id ≡ depends_on entities domain id

-- the order of its domain, and what is done at its indices
pub record IsKeptOrder (entities : List Entity) (order : Order) : Type 0 where
  pub order_of : IsOrderOf entities order.domain order.indices.items
  pub tasks_of : order.tasks.items ≡ tasks_at entities order.indices.items

-- an order for each domain that has an output terminal
pub record AreOrders (entities : List Entity) (orders : List Order) : Type 0 where
  pub each : All (IsKeptOrder entities) orders
  pub others : (domain : ℕ) → list_any (λ o. o.domain == domain) orders ≡ false → (id : ℕ) → depends_on entities domain id ≡ false

-- the frame on a wire once the entity at an index was rendered, from those on the wires of its sources. An input terminal has its frame
unfoldable pub frame_after : List Entity → Controls → ℕ → Frames → ℕ → Option (List ℤ)
frame_after entities controls index frames id =
    let e = at entities index in
    if not (is_input e.kind) && e.id == id then Some (frame_of controls e.id e.kind e.cluster.channels (map (samples_on frames) e.sources))
    else frame_on frames id
