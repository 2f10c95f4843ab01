-- The units that the output terminals of a clock domain need (Audio Class 2.0, "Clock Domain").
use Rattle.std.specs.Prelude.{ℕ, zero, suc, Bool, ◌==◌, ◌&&◌, ◌||◌, if◌then◌else◌}
use Rattle.std.specs.Prelude.{List, map, length, filter, Option, Some, None, is_some}
use Rattle.std.specs.List.{list_any}
use Rattle.uac_entities.specs.declared.entity.Entity.{Entity}
use Rattle.uac_entities.specs.declared.entity.EntityKind.{EntityKind}
use Rattle.uac_entities.specs.declared.entity.EntityKind.TheVariants as kind
use Rattle.uac_units.specs.declared.jobs.UnitKind.{UnitKind}
use Rattle.uac_units.specs.declared.jobs.UnitKind.TheVariants as unit
use Rattle.uac_topology_rules.specs.Links.{signal_sources}
use Rattle.uac_topology_rules.specs.Rules.{is_output}
use Rattle.uac_graph.specs.Meaning.{entity}

-- a walk of at most n signal source links leads from the one entity to the other
unfoldable pub reaches : List Entity → ℕ → ℕ → ℕ → Bool
reaches entities zero from id = from == id
reaches entities (suc n) from id = from == id || list_any (λ s. reaches entities n s id) (signal_sources (entity entities from))

-- an output terminal of the domain
abbrev pub is_end : ℕ → Entity → Bool
is_end domain e = is_output e.kind && e.clock == domain

-- an output terminal of the domain, or an entity on which one depends
unfoldable pub depends_on : List Entity → ℕ → ℕ → Bool
depends_on entities domain id = list_any (λ e. is_end domain e && reaches entities (length entities) e.id id) entities

-- the unit that renders an entity of this kind, if it is a unit; a terminal is none, and a clock entity carries no signal (Audio Class 2.0,
-- 3.13)
abbrev pub unit_of : EntityKind → Option UnitKind
unit_of kind.Mixer = Some unit.Mixer
unit_of kind.Selector = Some unit.Selector
unit_of kind.Feature = Some unit.Feature
unit_of kind.Effect = Some unit.Effect
unit_of kind.InputTerminal = None
unit_of kind.OutputTerminal = None
unit_of kind.ClockSource = None
unit_of kind.ClockSelector = None
unit_of kind.ClockMultiplier = None

-- whether it is a unit
abbrev pub is_unit : EntityKind → Bool
is_unit k = is_some (unit_of k)

-- how many units an entity of this kind is
abbrev pub unit_count : EntityKind → ℕ
unit_count k = if is_unit k then 1 else 0

-- the ids of the units that the domain needs, in block order
unfoldable pub needed_units : List Entity → ℕ → List ℕ
needed_units entities domain = map (λ e. e.id) (filter (λ e. is_unit e.kind && depends_on entities domain e.id) entities)
