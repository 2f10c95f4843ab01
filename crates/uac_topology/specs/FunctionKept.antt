-- What a function keeps of the sentence that described it, and of the rules of topology: Audio Class 2.0, 4.1, 4.7.2 and 4.9; Audio
-- Data Formats 2.0, 2.3.1.6; USB 2.0, 9.6.5 and 9.6.6. Profile: a cluster has at most 32 channels, a streaming interface at most 16
-- settings.
use Rattle.std.specs.Prelude.{◌≡◌, ℕ, ◌<◌, ◌≤◌, Bool, true, false, nat_eq, List, ◌∷◌, length, map, Some}
use Rattle.std.specs.List.{All, IsDistinct, range_with_len}
use Rattle.uac_descriptor.specs.BlockFields.{IsHighSpeed, IsTypeOneFormat}
use Rattle.uac_descriptor.specs.declared.standard.Endpoint.{Endpoint}
use Rattle.uac_descriptor.specs.declared.streaming.General.{General}
use Rattle.uac_descriptor.specs.declared.streaming.TypeOne.{TypeOne}
use Rattle.uac_entities.specs.EntityInterfaces.{entity_by_id}
use Rattle.uac_entities.specs.declared.entity.Entity.{Entity}
use Rattle.uac_entities.specs.declared.entity.EntityKind.{EntityKind}
use Rattle.uac_entities.specs.declared.entity.EntityKind.TheVariants as kind
use Rattle.uac_entities.specs.declared.stream.Setting.{Setting}
use Rattle.uac_entities.specs.declared.stream.StreamInterface.{StreamInterface}
use Rattle.uac_topology_rules.specs.Links.{is_clock}
use Rattle.uac_topology_rules.specs.Rules.{is_usb_terminal}
use Rattle.uac_topology.specs.Function.{FunctionFields}

-- what takes a clock or a signal from others
abbrev pub has_pins : EntityKind → Bool
has_pins kind.ClockSource = false
has_pins kind.ClockSelector = true
has_pins kind.ClockMultiplier = true
has_pins kind.InputTerminal = false
has_pins kind.OutputTerminal = true
has_pins kind.Mixer = true
has_pins kind.Selector = true
has_pins kind.Feature = true
has_pins kind.Effect = true

-- an entity that takes a clock or a signal has a pin, and no entity has more than 248
abbrev pub HasPins : Entity → Type 0
HasPins e = (has_pins e.kind ≡ true → 1 ≤ length e.sources) × (length e.sources ≤ 248)

abbrev pub HavePins : List Entity → Type 0
HavePins entities = All HasPins entities

-- what is no clock puts out 1 to 32 channels
abbrev pub HaveChannels : List Entity → Type 0
HaveChannels entities = All (λ e. is_clock e.kind ≡ false → (1 ≤ e.cluster.channels) × (e.cluster.channels ≤ 32)) entities

-- the numbers of a setting's format and of its endpoints are in range
pub record IsSettingInRange (s : Setting) : Type 0 where
  pub format : (f : TypeOne) → s.format ≡ Some f → IsTypeOneFormat f
  pub first : (e : Endpoint) → s.first ≡ Some e → IsHighSpeed e
  pub second : (e : Endpoint) → s.second ≡ Some e → IsHighSpeed e

-- each setting of each streaming interface is so
abbrev pub AreInRange : List StreamInterface → Type 0
AreInRange streams = All (λ s. All IsSettingInRange s.settings) streams

-- a link is to this terminal, an entity that is a USB streaming terminal
pub record IsLink (entities : List Entity) (terminal link : ℕ) : Type 0 where
  pub own : link ≡ terminal
  pub entity : Entity
  pub there : entity_by_id entities terminal ≡ Some entity
  pub usb : is_usb_terminal entity ≡ true

-- each setting that has a link has one to its interface's terminal
abbrev pub AreLinks : FunctionFields → Type 0
AreLinks function =
    All (λ s. All (λ t. (g : General) → t.general ≡ Some g → IsLink function.entities s.terminal g.link) s.settings) function.streams

-- the control interface and the streaming interfaces have different numbers, which are bytes, and the settings of each streaming
-- interface, at most 16, are numbered from 0
pub record AreNumbered (function : FunctionFields) : Type 0 where
  pub different : IsDistinct nat_eq (function.control_interface ∷ map (λ s. s.number) function.streams)
  pub control : function.control_interface < 256
  pub bytes : All (λ s. s.number < 256) function.streams
  pub few : All (λ s. length s.settings ≤ 16) function.streams
  pub settings : All (λ s. map (λ t. t.number) s.settings ≡ range_with_len 0 (length s.settings)) function.streams
