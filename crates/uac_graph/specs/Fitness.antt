-- What the rules of an audio function's topology make sure of for its signal graph.
use Rattle.std.specs.Prelude.{◌≡◌, ℕ, ◌<◌, ◌≤◌, false, if◌then◌else◌, List, [], ◌∷◌, Option, Some, None, length, sum}
use Rattle.std.specs.List.{All}
use Rattle.uac_topology_rules.specs.Walk.{has_walk}
use Rattle.uac_entities.specs.declared.entity.Entity.{Entity}
use Rattle.uac_entities.specs.declared.entity.EntityKind.{EntityKind}
use Rattle.uac_entities.specs.declared.entity.EntityKind.TheVariants as kind
use Rattle.uac_topology_rules.specs.Links.{is_clock, signal_sources, signal_links}
use Rattle.uac_topology_rules.specs.Rules.{is_output}
use Rattle.uac_topology_rules.specs.Table.{at, index_of}
use Rattle.uac_store.specs.ControlTable.{IsSmall}
use Rattle.uac_store.specs.StoreControls.{pins_of}
use Rattle.uac_graph.specs.Meaning.{entity}

-- the channels of the wire of the entity with this id; a clock entity has no wire
unfoldable pub wire_channels : List Entity → ℕ → Option ℕ
wire_channels entities id = if is_clock (entity entities id).kind then None else Some (entity entities id).cluster.channels

-- the pins of an entity of a kind fit its channels: a mixer has at most 256 inputs and 256 nodes, a selector has a pin, and its
-- pins have its channels and at most 256 together, and the one source of any other has its channels
abbrev pub FitsPins : EntityKind → ℕ → List ℕ → Type 0
FitsPins kind.Mixer channels pins = IsSmall kind.Mixer (sum pins) channels
FitsPins kind.Selector channels pins = (sum pins ≤ 256) × (0 < length pins) × All (λ p. p ≡ channels) pins
FitsPins kind.Feature channels pins = pins ≡ channels ∷ []
FitsPins kind.Effect channels pins = pins ≡ channels ∷ []
FitsPins kind.OutputTerminal channels pins = pins ≡ channels ∷ []
FitsPins kind.InputTerminal channels pins = Unit {0}
FitsPins kind.ClockSource channels pins = Unit {0}
FitsPins kind.ClockSelector channels pins = Unit {0}
FitsPins kind.ClockMultiplier channels pins = Unit {0}

-- a signal graph as the rules leave it: an id names one entity, each source has a wire and is no output terminal, no walk goes
-- on for ever, a wire has 1 to 32 channels, and pins fit
pub record IsSignalGraph (entities : List Entity) : Type 0 where
  pub distinct : (index : ℕ) → index < length entities → index_of entities (at entities index).id ≡ index
  pub heard : (index : ℕ) → index < length entities
      → All (λ s. is_clock (entity entities s).kind ≡ false) (signal_sources (at entities index))
  pub no_ends : (index : ℕ) → index < length entities
      → All (λ s. is_output (entity entities s).kind ≡ false) (signal_sources (at entities index))
  pub acyclic : (index : ℕ) → index < length entities → has_walk (signal_links entities) (length entities) index ≡ false
  pub some : (index : ℕ) → index < length entities → is_clock (at entities index).kind ≡ false → 1 ≤ (at entities index).cluster.channels
  pub most : (index : ℕ) → index < length entities → is_clock (at entities index).kind ≡ false → (at entities index).cluster.channels ≤ 32
  pub fits : (index : ℕ) → index < length entities
      → FitsPins (at entities index).kind (at entities index).cluster.channels (pins_of entities (at entities index))
