-- What a block is to the order: USB 2.0, 9.4 and 9.6.5; Audio Class 2.0, A.1 to A.9.
use Rattle.std.specs.Prelude.{ℕ, Bool, true, false, ◌&&◌, ◌||◌, not, ◌==◌, nat_le, if◌then◌else◌, List, length, slice_index}
pub use Rattle.uac_descriptor.specs.Contexts.{context_after}
unfoldable pub use Rattle.uac_descriptor.specs.Contexts.{interface_context}
use Rattle.uac_descriptor.specs.Standard.{DEVICE, CONFIGURATION, INTERFACE, ENDPOINT, INTERFACE_ASSOCIATION, CS_INTERFACE, CS_ENDPOINT}
use Rattle.uac_descriptor.specs.Standard.{HEADER, EFFECT_UNIT, CLOCK_SOURCE, CLOCK_MULTIPLIER}
use Rattle.uac_descriptor.specs.declared.standard.Interface as interface
use Rattle.uac_descriptor.specs.declared.block.Block as block
use Rattle.uac_descriptor.specs.declared.block.Block.TheVariants as variant
use Rattle.uac_descriptor.specs.Standard.{DEVICE_LENGTH}
use Rattle.uac_descriptor.specs.Classes.{is_audio_association, is_control_interface, is_streaming_interface}
use Rattle.uac_grammar_rules.specs.declared.roles.BlockRole.{BlockRole}
use Rattle.uac_grammar_rules.specs.declared.roles.BlockRole.TheVariants.{Device, Configuration, AudioAssociation, ForeignAssociation}
use Rattle.uac_grammar_rules.specs.declared.roles.BlockRole.TheVariants.{ControlInterface, StreamingInterface, ForeignInterface, Endpoint, Header}
use Rattle.uac_grammar_rules.specs.declared.roles.BlockRole.TheVariants.{Entity, General, TypeOne, Extra, ClassEndpoint, Other}
use Rattle.uac_grammar_rules.specs.declared.roles.BlockRole.TheVariants.{UnknownSubtype}
use Rattle.uac_grammar_rules.specs.declared.roles.BlockRole.TheVariants.{Stray}

-- bDescriptorType and bDescriptorSubtype of a block that is kept whole
abbrev pub type_of : List ℕ → ℕ
type_of bytes = slice_index bytes 1

abbrev pub subtype_of : List ℕ → ℕ
subtype_of bytes = slice_index bytes 2

-- the subtypes of this profile: the header up to the effect unit, and the clock entities
abbrev pub is_known_subtype : ℕ → Bool
is_known_subtype n = nat_le HEADER n && nat_le n EFFECT_UNIT || nat_le CLOCK_SOURCE n && nat_le n CLOCK_MULTIPLIER

-- a class block of an interface or an endpoint
abbrev pub is_class_type : ℕ → Bool
is_class_type kind = kind == CS_INTERFACE || kind == CS_ENDPOINT

-- a type that has its place in the order: every other may stand where the standard allows further descriptors
abbrev pub is_ordered_type : ℕ → Bool
is_ordered_type kind =
    kind == DEVICE || kind == CONFIGURATION || kind == INTERFACE || kind == ENDPOINT || kind == INTERFACE_ASSOCIATION || is_class_type kind

-- a device descriptor
unfoldable pub is_device : List ℕ → Bool
is_device bytes = type_of bytes == DEVICE && length bytes == DEVICE_LENGTH

-- a class block whose subtype is none of this profile
unfoldable pub has_unknown_subtype : List ℕ → Bool
has_unknown_subtype bytes = is_class_type (type_of bytes) && nat_le 3 (length bytes) && not (is_known_subtype (subtype_of bytes))

-- the role of a block that is kept whole
unfoldable pub whole_role : List ℕ → BlockRole
whole_role bytes =
    if is_device bytes then Device
    else if has_unknown_subtype bytes then UnknownSubtype
    else if is_ordered_type (type_of bytes) then Stray else Other

-- the role of an interface
unfoldable pub interface_role : interface.Interface → BlockRole
interface_role i =
    if is_control_interface i then ControlInterface else if is_streaming_interface i then StreamingInterface else ForeignInterface

-- the role of a block
abbrev pub role_of : block.Block → BlockRole
role_of (variant.Configuration _) = Configuration
role_of (variant.Association a) = if is_audio_association a then AudioAssociation else ForeignAssociation
role_of (variant.Interface i) = interface_role i
role_of (variant.Endpoint _) = Endpoint
role_of (variant.Header _) = Header
role_of (variant.InputTerminal _) = Entity
role_of (variant.OutputTerminal _) = Entity
role_of (variant.Mixer _) = Entity
role_of (variant.Selector _) = Entity
role_of (variant.Feature _) = Entity
role_of (variant.Effect _) = Entity
role_of (variant.ClockSource _) = Entity
role_of (variant.ClockSelector _) = Entity
role_of (variant.ClockMultiplier _) = Entity
role_of (variant.General _) = General
role_of (variant.TypeOne _) = TypeOne
role_of (variant.Extra _) = Extra
role_of (variant.ClassEndpoint _) = ClassEndpoint
role_of (variant.Foreign bytes) = whole_role bytes

-- the list after the header has entities, and for its total the class blocks of an unknown subtype
abbrev pub is_listed : BlockRole → Bool
is_listed Device = false
is_listed Configuration = false
is_listed AudioAssociation = false
is_listed ForeignAssociation = false
is_listed ControlInterface = false
is_listed StreamingInterface = false
is_listed ForeignInterface = false
is_listed Endpoint = false
is_listed Header = false
is_listed Entity = true
is_listed General = false
is_listed TypeOne = false
is_listed Extra = false
is_listed ClassEndpoint = false
is_listed Other = false
is_listed UnknownSubtype = true
is_listed Stray = false
