-- The streaming interfaces (Audio Class 2.0, 4.9).
use Rattle.std.specs.Prelude.{ℕ, Bool, true, false, ◌==◌, if◌then◌else◌, List, Option, Some, None, slice_get, unwrap_or}
use Rattle.std.specs.List.{filter_map, find}
use Rattle.std.specs.Option.{option_map, option_map_or}
use Rattle.uac_entities.specs.declared.entity.Entity.{Entity}
use Rattle.uac_entities.specs.declared.entity.EntityKind.{EntityKind}
use Rattle.uac_entities.specs.declared.entity.EntityKind.TheVariants as kind
use Rattle.uac_entities.specs.declared.stream.Setting.{Setting}
use Rattle.uac_entities.specs.declared.stream.StreamInterface.{StreamInterface}
use Rattle.uac_entities.specs.declared.settings.DeclaredSetting.{DeclaredSetting}

-- the first entity with this id
unfoldable pub entity_by_id : List Entity → ℕ → Option Entity
entity_by_id entities id = find (λ e. e.id == id) entities

-- the channels that the entity with this id puts out; 0 where no entity has it
unfoldable pub channels_of : List Entity → ℕ → ℕ
channels_of entities id = option_map_or (λ e. e.cluster.channels) (entity_by_id entities id) 0

-- Audio Class 2.0, 3.13.1
abbrev pub is_input : EntityKind → Bool
is_input kind.ClockSource = false
is_input kind.ClockSelector = false
is_input kind.ClockMultiplier = false
is_input kind.InputTerminal = true
is_input kind.OutputTerminal = false
is_input kind.Mixer = false
is_input kind.Selector = false
is_input kind.Feature = false
is_input kind.Effect = false

-- the terminal that a setting links to
unfoldable pub link_of : Setting → Option ℕ
link_of s = option_map (λ g. g.link) s.general

-- the terminals that the settings link to
abbrev pub links_of : List Setting → List ℕ
links_of settings = filter_map link_of settings

-- a setting, where it is one of this interface
unfoldable pub setting_on_interface : ℕ → DeclaredSetting → Option Setting
setting_on_interface number a = if a.interface == number then Some a.setting else None

-- the settings of an interface, in block order
abbrev pub settings_of : List DeclaredSetting → ℕ → List Setting
settings_of all number = filter_map (setting_on_interface number) all

-- a streaming interface goes from the host to the device where it links to an input terminal
unfoldable pub streaming_interface_of : List Entity → List DeclaredSetting → ℕ → StreamInterface
streaming_interface_of entities all number =
    let settings = settings_of all number in
    let terminal = unwrap_or (slice_get (links_of settings) 0) 0 in
    record {
      number = number;
      terminal = terminal;
      out = option_map_or is_input (option_map (λ e. e.kind) (entity_by_id entities terminal)) false;
      settings = settings;
    }

-- setting 0 begins a streaming interface
unfoldable pub streaming_interface_at : List Entity → List DeclaredSetting → DeclaredSetting → Option StreamInterface
streaming_interface_at entities all a = if a.setting.number == 0 then Some (streaming_interface_of entities all a.interface) else None

-- the streaming interfaces, in block order
abbrev pub streaming_interfaces_of : List Entity → List DeclaredSetting → List StreamInterface
streaming_interfaces_of entities all = filter_map (streaming_interface_at entities all) all
