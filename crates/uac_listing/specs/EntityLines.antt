-- The lines of `show` for entities (profile): id, kind, channels, sources and clock.
use Rattle.std.specs.Prelude.{ℕ, List, [], ◌∷◌, ◌++◌, flat_map, codes, decimal}
use Rattle.uac_entities.specs.declared.entity.Entity as entity
use Rattle.uac_entities.specs.declared.entity.EntityKind.{EntityKind}
use Rattle.uac_entities.specs.declared.entity.EntityKind.TheVariants as kind

-- a kind's name
abbrev pub entity_kind_name : EntityKind → List ℕ
entity_kind_name kind.ClockSource = codes "clock_source"
entity_kind_name kind.ClockSelector = codes "clock_selector"
entity_kind_name kind.ClockMultiplier = codes "clock_multiplier"
entity_kind_name kind.InputTerminal = codes "input_terminal"
entity_kind_name kind.OutputTerminal = codes "output_terminal"
entity_kind_name kind.Mixer = codes "mixer"
entity_kind_name kind.Selector = codes "selector"
entity_kind_name kind.Feature = codes "feature"
entity_kind_name kind.Effect = codes "effect"

-- a clock entity has no channels
abbrev pub channels_text : EntityKind → ℕ → List ℕ
channels_text kind.ClockSource channels = codes "-"
channels_text kind.ClockSelector channels = codes "-"
channels_text kind.ClockMultiplier channels = codes "-"
channels_text kind.InputTerminal channels = decimal channels
channels_text kind.OutputTerminal channels = decimal channels
channels_text kind.Mixer channels = decimal channels
channels_text kind.Selector channels = decimal channels
channels_text kind.Feature channels = decimal channels
channels_text kind.Effect channels = decimal channels

-- only a terminal has a clock
abbrev pub clock_text : EntityKind → ℕ → List ℕ
clock_text kind.ClockSource clock = codes "-"
clock_text kind.ClockSelector clock = codes "-"
clock_text kind.ClockMultiplier clock = codes "-"
clock_text kind.InputTerminal clock = decimal clock
clock_text kind.OutputTerminal clock = decimal clock
clock_text kind.Mixer clock = codes "-"
clock_text kind.Selector clock = codes "-"
clock_text kind.Feature clock = codes "-"
clock_text kind.Effect clock = codes "-"

-- ids, parted by commas
abbrev pub more_ids : List ℕ → List ℕ
more_ids ids = flat_map (λ id. codes "," ++ decimal id) ids

abbrev pub ids_text : List ℕ → List ℕ
ids_text [] = codes "-"
ids_text (id ∷ ids) = decimal id ++ more_ids ids

-- the line up to the sources, and after them
unfoldable pub entity_head : entity.Entity → List ℕ
entity_head e =
    codes "entity " ++ decimal e.id ++ codes " " ++ entity_kind_name e.kind ++ codes " channels " ++ channels_text e.kind e.cluster.channels
    ++ codes " sources "

unfoldable pub entity_tail : entity.Entity → List ℕ
entity_tail e = codes " clock " ++ clock_text e.kind e.clock ++ codes "\n"

-- the line of an entity
unfoldable pub entity_line : entity.Entity → List ℕ
entity_line e = entity_head e ++ (ids_text e.sources ++ entity_tail e)
