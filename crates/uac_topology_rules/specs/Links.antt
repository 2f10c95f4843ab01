-- Signal links and clock links: a unit or an output terminal names signal sources (Audio Class 2.0, 3.13.2 to 3.13.7), a
-- clock entity names clock sources (3.13.10 to 3.13.12).
use Rattle.std.specs.Prelude.{ℕ, Bool, true, false, if◌then◌else◌, List, [], map}
use Rattle.uac_entities.specs.declared.entity.Entity.{Entity}
use Rattle.uac_entities.specs.declared.entity.EntityKind.{EntityKind}
use Rattle.uac_entities.specs.declared.entity.EntityKind.TheVariants as kind
use Rattle.uac_topology_rules.specs.Table.{index_of}

-- 3.13.10 to 3.13.12
abbrev pub is_clock : EntityKind → Bool
is_clock kind.ClockSource = true
is_clock kind.ClockSelector = true
is_clock kind.ClockMultiplier = true
is_clock kind.InputTerminal = false
is_clock kind.OutputTerminal = false
is_clock kind.Mixer = false
is_clock kind.Selector = false
is_clock kind.Feature = false
is_clock kind.Effect = false

-- 3.13.1 and 3.13.2
abbrev pub is_terminal : EntityKind → Bool
is_terminal kind.ClockSource = false
is_terminal kind.ClockSelector = false
is_terminal kind.ClockMultiplier = false
is_terminal kind.InputTerminal = true
is_terminal kind.OutputTerminal = true
is_terminal kind.Mixer = false
is_terminal kind.Selector = false
is_terminal kind.Feature = false
is_terminal kind.Effect = false

unfoldable pub signal_sources : Entity → List ℕ
signal_sources e = if is_clock e.kind then [] else e.sources

unfoldable pub clock_sources : Entity → List ℕ
clock_sources e = if is_clock e.kind then e.sources else []

-- for each entity, in block order, the indices of its signal sources
abbrev pub signal_links : List Entity → List (List ℕ)
signal_links entities = map (λ e. map (index_of entities) (signal_sources e)) entities

-- for each entity, in block order, the indices of its clock sources
abbrev pub clock_links : List Entity → List (List ℕ)
clock_links entities = map (λ e. map (index_of entities) (clock_sources e)) entities
