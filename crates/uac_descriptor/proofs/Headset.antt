-- The headset, a worked example: its bytes, its blocks, and how the definitions read them; and which row reads what stands at an
-- edge of the layouts.
use Rattle.std.proofs.Common.{◌≡◌, ℕ, List, [], ◌∷◌, map, refl}
use Rattle.std.specs.Prelude.{Some, None}
use Rattle.uac_descriptor.specs.LayoutRows.{row_in, row_of}
use Rattle.uac_descriptor.specs.declared.context.Context.TheVariants.{DeviceFront, ControlInterface, StreamingInterface, ForeignInterface}
use Rattle.uac_descriptor.specs.BlockParsing.{block_of, has_length, fields, is_whole}
use Rattle.uac_descriptor.specs.Spelling.{spelling}
use Rattle.uac_descriptor.specs.declared.block.Block.{Block}
use Rattle.uac_descriptor.specs.declared.block.Block.TheVariants as variant

-- ---- its bytes, block by block

abbrev pub device : List ℕ
device = 18 ∷ 1 ∷ 0 ∷ 2 ∷ 239 ∷ 2 ∷ 1 ∷ 64 ∷ 52 ∷ 18 ∷ 120 ∷ 86 ∷ 0 ∷ 1 ∷ 1 ∷ 2 ∷ 0 ∷ 1 ∷ []

abbrev pub configuration : List ℕ
configuration = 9 ∷ 2 ∷ 19 ∷ 1 ∷ 4 ∷ 1 ∷ 0 ∷ 128 ∷ 50 ∷ []

abbrev pub association : List ℕ
association = 8 ∷ 11 ∷ 0 ∷ 3 ∷ 1 ∷ 0 ∷ 32 ∷ 0 ∷ []

abbrev pub control : List ℕ
control = 9 ∷ 4 ∷ 0 ∷ 0 ∷ 0 ∷ 1 ∷ 1 ∷ 32 ∷ 0 ∷ []

abbrev pub header : List ℕ
header = 9 ∷ 36 ∷ 1 ∷ 0 ∷ 2 ∷ 4 ∷ 107 ∷ 0 ∷ 0 ∷ []

-- clock source 1
abbrev pub clock : List ℕ
clock = 8 ∷ 36 ∷ 10 ∷ 1 ∷ 3 ∷ 7 ∷ 0 ∷ 0 ∷ []

-- input terminal 2, USB
abbrev pub usb_in : List ℕ
usb_in = 17 ∷ 36 ∷ 2 ∷ 2 ∷ 1 ∷ 1 ∷ 0 ∷ 1 ∷ 2 ∷ 3 ∷ 0 ∷ 0 ∷ 0 ∷ 0 ∷ 0 ∷ 0 ∷ 0 ∷ []

-- feature 3
abbrev pub feature : List ℕ
feature = 18 ∷ 36 ∷ 6 ∷ 3 ∷ 2 ∷ 3 ∷ 0 ∷ 0 ∷ 0 ∷ 12 ∷ 0 ∷ 0 ∷ 0 ∷ 12 ∷ 0 ∷ 0 ∷ 0 ∷ 0 ∷ []

-- output terminal 4
abbrev pub speaker : List ℕ
speaker = 12 ∷ 36 ∷ 3 ∷ 4 ∷ 2 ∷ 3 ∷ 0 ∷ 3 ∷ 1 ∷ 0 ∷ 0 ∷ 0 ∷ []

-- input terminal 5
abbrev pub microphone : List ℕ
microphone = 17 ∷ 36 ∷ 2 ∷ 5 ∷ 1 ∷ 2 ∷ 0 ∷ 1 ∷ 1 ∷ 0 ∷ 0 ∷ 0 ∷ 0 ∷ 0 ∷ 0 ∷ 0 ∷ 0 ∷ []

-- feature 6
abbrev pub mono_feature : List ℕ
mono_feature = 14 ∷ 36 ∷ 6 ∷ 6 ∷ 5 ∷ 3 ∷ 0 ∷ 0 ∷ 0 ∷ 12 ∷ 0 ∷ 0 ∷ 0 ∷ 0 ∷ []

-- output terminal 7, USB
abbrev pub usb_out : List ℕ
usb_out = 12 ∷ 36 ∷ 3 ∷ 7 ∷ 1 ∷ 1 ∷ 0 ∷ 6 ∷ 1 ∷ 0 ∷ 0 ∷ 0 ∷ []

-- interface 1, setting 0
abbrev pub idle_out : List ℕ
idle_out = 9 ∷ 4 ∷ 1 ∷ 0 ∷ 0 ∷ 1 ∷ 2 ∷ 32 ∷ 0 ∷ []

-- interface 1, setting 1
abbrev pub play : List ℕ
play = 9 ∷ 4 ∷ 1 ∷ 1 ∷ 2 ∷ 1 ∷ 2 ∷ 32 ∷ 0 ∷ []

abbrev pub general_out : List ℕ
general_out = 16 ∷ 36 ∷ 1 ∷ 2 ∷ 5 ∷ 1 ∷ 1 ∷ 0 ∷ 0 ∷ 0 ∷ 2 ∷ 3 ∷ 0 ∷ 0 ∷ 0 ∷ 0 ∷ []

abbrev pub format_out : List ℕ
format_out = 6 ∷ 36 ∷ 2 ∷ 1 ∷ 3 ∷ 24 ∷ []

abbrev pub endpoint_out : List ℕ
endpoint_out = 7 ∷ 5 ∷ 1 ∷ 5 ∷ 150 ∷ 0 ∷ 1 ∷ []

abbrev pub class_endpoint : List ℕ
class_endpoint = 8 ∷ 37 ∷ 1 ∷ 0 ∷ 0 ∷ 0 ∷ 0 ∷ 0 ∷ []

abbrev pub feedback : List ℕ
feedback = 7 ∷ 5 ∷ 129 ∷ 17 ∷ 4 ∷ 0 ∷ 4 ∷ []

-- interface 2, setting 0
abbrev pub idle_in : List ℕ
idle_in = 9 ∷ 4 ∷ 2 ∷ 0 ∷ 0 ∷ 1 ∷ 2 ∷ 32 ∷ 0 ∷ []

-- interface 2, setting 1
abbrev pub record_in : List ℕ
record_in = 9 ∷ 4 ∷ 2 ∷ 1 ∷ 1 ∷ 1 ∷ 2 ∷ 32 ∷ 0 ∷ []

abbrev pub general_in : List ℕ
general_in = 16 ∷ 36 ∷ 1 ∷ 7 ∷ 5 ∷ 1 ∷ 1 ∷ 0 ∷ 0 ∷ 0 ∷ 1 ∷ 0 ∷ 0 ∷ 0 ∷ 0 ∷ 0 ∷ []

abbrev pub format_in : List ℕ
format_in = 6 ∷ 36 ∷ 2 ∷ 1 ∷ 2 ∷ 16 ∷ []

abbrev pub endpoint_in : List ℕ
endpoint_in = 7 ∷ 5 ∷ 130 ∷ 5 ∷ 50 ∷ 0 ∷ 1 ∷ []

-- interface 3, of human interface devices
abbrev pub hid : List ℕ
hid = 9 ∷ 4 ∷ 3 ∷ 0 ∷ 1 ∷ 3 ∷ 0 ∷ 0 ∷ 0 ∷ []

abbrev pub hid_class : List ℕ
hid_class = 9 ∷ 33 ∷ 17 ∷ 1 ∷ 0 ∷ 1 ∷ 34 ∷ 25 ∷ 0 ∷ []

abbrev pub hid_endpoint : List ℕ
hid_endpoint = 7 ∷ 5 ∷ 131 ∷ 3 ∷ 4 ∷ 0 ∷ 10 ∷ []

-- the headset, a device descriptor in front and an interface for its keys after
abbrev pub headset : List (List ℕ)
headset =
    device ∷ configuration ∷ association ∷ control
    ∷ header ∷ clock ∷ usb_in ∷ feature ∷ speaker ∷ microphone ∷ mono_feature ∷ usb_out
    ∷ idle_out ∷ play ∷ general_out ∷ format_out ∷ endpoint_out ∷ class_endpoint ∷ feedback
    ∷ idle_in ∷ record_in ∷ general_in ∷ format_in ∷ endpoint_in ∷ class_endpoint
    ∷ hid ∷ hid_class ∷ hid_endpoint ∷ []

-- ---- its blocks

abbrev pub headset_blocks : List Block
headset_blocks =
    variant.Foreign device
    ∷ variant.Configuration (record { total = 275; interfaces = 4; value = 1; name = 0; attributes = 128; power = 50 })
    ∷ variant.Association (record { first = 0; count = 3; «class» = 1; subclass = 0; protocol = 32; name = 0 })
    ∷ variant.Interface (record { number = 0; setting = 0; endpoints = 0; «class» = 1; subclass = 1; protocol = 32; name = 0 })
    ∷ variant.Header (record { version = 512; category = 4; total = 107; controls = 0 })
    ∷ variant.ClockSource (record { id = 1; attributes = 3; controls = 7; assoc = 0; name = 0 })
    ∷ variant.InputTerminal (record { id = 2; terminal_type = 257; assoc = 0; clock = 1; channels = 2; locations = 3; names = 0; controls = 0; name = 0 })
    ∷ variant.Feature (record { id = 3; source = 2; words = 3 ∷ 12 ∷ 12 ∷ []; name = 0 })
    ∷ variant.OutputTerminal (record { id = 4; terminal_type = 770; assoc = 0; source = 3; clock = 1; controls = 0; name = 0 })
    ∷ variant.InputTerminal (record { id = 5; terminal_type = 513; assoc = 0; clock = 1; channels = 1; locations = 0; names = 0; controls = 0; name = 0 })
    ∷ variant.Feature (record { id = 6; source = 5; words = 3 ∷ 12 ∷ []; name = 0 })
    ∷ variant.OutputTerminal (record { id = 7; terminal_type = 257; assoc = 0; source = 6; clock = 1; controls = 0; name = 0 })
    ∷ variant.Interface (record { number = 1; setting = 0; endpoints = 0; «class» = 1; subclass = 2; protocol = 32; name = 0 })
    ∷ variant.Interface (record { number = 1; setting = 1; endpoints = 2; «class» = 1; subclass = 2; protocol = 32; name = 0 })
    ∷ variant.General (record { link = 2; controls = 5; format_type = 1; formats = 1; channels = 2; locations = 3; names = 0 })
    ∷ variant.TypeOne (record { subslot = 3; bits = 24 })
    ∷ variant.Endpoint (record { address = 1; attributes = 5; max_packet = 150; interval = 1 })
    ∷ variant.ClassEndpoint (record { attributes = 0; controls = 0; lock_units = 0; lock_delay = 0 })
    ∷ variant.Endpoint (record { address = 129; attributes = 17; max_packet = 4; interval = 4 })
    ∷ variant.Interface (record { number = 2; setting = 0; endpoints = 0; «class» = 1; subclass = 2; protocol = 32; name = 0 })
    ∷ variant.Interface (record { number = 2; setting = 1; endpoints = 1; «class» = 1; subclass = 2; protocol = 32; name = 0 })
    ∷ variant.General (record { link = 7; controls = 5; format_type = 1; formats = 1; channels = 1; locations = 0; names = 0 })
    ∷ variant.TypeOne (record { subslot = 2; bits = 16 })
    ∷ variant.Endpoint (record { address = 130; attributes = 5; max_packet = 50; interval = 1 })
    ∷ variant.ClassEndpoint (record { attributes = 0; controls = 0; lock_units = 0; lock_delay = 0 })
    ∷ variant.Interface (record { number = 3; setting = 0; endpoints = 1; «class» = 3; subclass = 0; protocol = 0; name = 0 })
    ∷ variant.Foreign hid_class
    ∷ variant.Foreign hid_endpoint
    ∷ []

-- which are spelt so
headset_spelt : map spelling headset_blocks ≡ headset
unfolding spelling
headset_spelt = refl

-- ---- which row reads what

configuration_read : block_of DeviceFront configuration
    ≡ Some (variant.Configuration (record { total = 275; interfaces = 4; value = 1; name = 0; attributes = 128; power = 50 }))
unfolding block_of is_whole row_in row_of has_length fields
configuration_read = refl

association_read : block_of DeviceFront association
    ≡ Some (variant.Association (record { first = 0; count = 3; «class» = 1; subclass = 0; protocol = 32; name = 0 }))
unfolding block_of is_whole row_in row_of has_length fields
association_read = refl

control_read : block_of DeviceFront control
    ≡ Some (variant.Interface (record { number = 0; setting = 0; endpoints = 0; «class» = 1; subclass = 1; protocol = 32; name = 0 }))
unfolding block_of is_whole row_in row_of has_length fields
control_read = refl

header_read : block_of ControlInterface header
    ≡ Some (variant.Header (record { version = 512; category = 4; total = 107; controls = 0 }))
unfolding block_of is_whole row_in row_of has_length fields
header_read = refl

clock_read : block_of ControlInterface clock
    ≡ Some (variant.ClockSource (record { id = 1; attributes = 3; controls = 7; assoc = 0; name = 0 }))
unfolding block_of is_whole row_in row_of has_length fields
clock_read = refl

input_read : block_of ControlInterface usb_in
    ≡ Some (variant.InputTerminal (record { id = 2; terminal_type = 257; assoc = 0; clock = 1; channels = 2; locations = 3; names = 0; controls = 0; name = 0 }))
unfolding block_of is_whole row_in row_of has_length fields
input_read = refl

feature_read : block_of ControlInterface feature
    ≡ Some (variant.Feature (record { id = 3; source = 2; words = 3 ∷ 12 ∷ 12 ∷ []; name = 0 }))
unfolding block_of is_whole row_in row_of has_length fields
feature_read = refl

output_read : block_of ControlInterface speaker
    ≡ Some (variant.OutputTerminal (record { id = 4; terminal_type = 770; assoc = 0; source = 3; clock = 1; controls = 0; name = 0 }))
unfolding block_of is_whole row_in row_of has_length fields
output_read = refl

mixer_read : block_of ControlInterface (17 ∷ 36 ∷ 4 ∷ 8 ∷ 2 ∷ 2 ∷ 6 ∷ 3 ∷ 0 ∷ 0 ∷ 0 ∷ 0 ∷ 0 ∷ 255 ∷ 128 ∷ 0 ∷ 0 ∷ [])
    ≡ Some (variant.Mixer (record { id = 8; sources = 2 ∷ 6 ∷ []; channels = 3; locations = 0; names = 0; mix_bits = 255 ∷ 128 ∷ []; controls = 0; name = 0 }))
unfolding block_of is_whole row_in row_of has_length fields
mixer_read = refl

selector_read : block_of ControlInterface (9 ∷ 36 ∷ 5 ∷ 9 ∷ 2 ∷ 2 ∷ 6 ∷ 3 ∷ 10 ∷ [])
    ≡ Some (variant.Selector (record { id = 9; sources = 2 ∷ 6 ∷ []; controls = 3; name = 10 }))
unfolding block_of is_whole row_in row_of has_length fields
selector_read = refl

effect_read : block_of ControlInterface (16 ∷ 36 ∷ 7 ∷ 11 ∷ 1 ∷ 0 ∷ 2 ∷ 3 ∷ 0 ∷ 0 ∷ 0 ∷ 12 ∷ 0 ∷ 0 ∷ 0 ∷ 5 ∷ [])
    ≡ Some (variant.Effect (record { id = 11; effect_type = 1; source = 2; words = 3 ∷ 12 ∷ []; name = 5 }))
unfolding block_of is_whole row_in row_of has_length fields
effect_read = refl

clock_selector_read : block_of ControlInterface (9 ∷ 36 ∷ 11 ∷ 12 ∷ 2 ∷ 1 ∷ 7 ∷ 3 ∷ 4 ∷ [])
    ≡ Some (variant.ClockSelector (record { id = 12; sources = 1 ∷ 7 ∷ []; controls = 3; name = 4 }))
unfolding block_of is_whole row_in row_of has_length fields
clock_selector_read = refl

clock_multiplier_read : block_of ControlInterface (7 ∷ 36 ∷ 12 ∷ 13 ∷ 1 ∷ 15 ∷ 6 ∷ [])
    ≡ Some (variant.ClockMultiplier (record { id = 13; source = 1; controls = 15; name = 6 }))
unfolding block_of is_whole row_in row_of has_length fields
clock_multiplier_read = refl

general_read : block_of StreamingInterface general_out
    ≡ Some (variant.General (record { link = 2; controls = 5; format_type = 1; formats = 1; channels = 2; locations = 3; names = 0 }))
unfolding block_of is_whole row_in row_of has_length fields
general_read = refl

type_one_read : block_of StreamingInterface format_out
    ≡ Some (variant.TypeOne (record { subslot = 3; bits = 24 }))
unfolding block_of is_whole row_in row_of has_length fields
type_one_read = refl

endpoint_read : block_of StreamingInterface endpoint_out
    ≡ Some (variant.Endpoint (record { address = 1; attributes = 5; max_packet = 150; interval = 1 }))
unfolding block_of is_whole row_in row_of has_length fields
endpoint_read = refl

class_endpoint_read : block_of StreamingInterface class_endpoint
    ≡ Some (variant.ClassEndpoint (record { attributes = 0; controls = 0; lock_units = 0; lock_delay = 0 }))
unfolding block_of is_whole row_in row_of has_length fields
class_endpoint_read = refl

-- a device descriptor is kept whole
device_kept : block_of DeviceFront device ≡ Some (variant.Foreign device)
unfolding block_of is_whole row_in row_of has_length fields
device_kept = refl

-- an endpoint of a foreign interface is kept whole
hid_endpoint_kept : block_of ForeignInterface hid_endpoint ≡ Some (variant.Foreign hid_endpoint)
unfolding block_of is_whole row_in row_of has_length fields
hid_endpoint_kept = refl

-- a class block in front of every interface has no row
class_in_front_kept : block_of DeviceFront (3 ∷ 36 ∷ 1 ∷ []) ≡ Some (variant.Foreign (3 ∷ 36 ∷ 1 ∷ []))
unfolding block_of is_whole row_in row_of has_length fields
class_in_front_kept = refl

-- so has a subtype that the control interface does not know
extension_kept : block_of ControlInterface (4 ∷ 36 ∷ 8 ∷ 1 ∷ []) ≡ Some (variant.Foreign (4 ∷ 36 ∷ 8 ∷ 1 ∷ []))
unfolding block_of is_whole row_in row_of has_length fields
extension_kept = refl

-- a format block of three bytes has no format type
short_format_read : block_of StreamingInterface (3 ∷ 36 ∷ 2 ∷ []) ≡ Some (variant.Extra (record { subtype = 2; rest = [] }))
unfolding block_of is_whole row_in row_of has_length fields
short_format_read = refl

-- the row goes by type and subtype, never by the length
long_type_one_not_read : block_of StreamingInterface (7 ∷ 36 ∷ 2 ∷ 1 ∷ 3 ∷ 24 ∷ 0 ∷ []) ≡ None
unfolding block_of is_whole row_in row_of has_length fields
long_type_one_not_read = refl

-- an interface of a wrong length is none in a foreign interface too
short_interface_not_read : block_of ForeignInterface (8 ∷ 4 ∷ 3 ∷ 0 ∷ 1 ∷ 3 ∷ 0 ∷ 0 ∷ []) ≡ None
unfolding block_of is_whole row_in row_of has_length fields
short_interface_not_read = refl

-- a class block without a subtype
no_subtype_not_read : block_of ControlInterface (2 ∷ 36 ∷ []) ≡ None
unfolding block_of is_whole row_in row_of has_length fields
no_subtype_not_read = refl

-- a feature unit without a control word
wordless_not_read : block_of ControlInterface (6 ∷ 36 ∷ 6 ∷ 3 ∷ 2 ∷ 0 ∷ []) ≡ None
unfolding block_of is_whole row_in row_of has_length fields
wordless_not_read = refl

-- a mixer whose pins take more than its length
crowded_not_read : block_of ControlInterface (14 ∷ 36 ∷ 4 ∷ 8 ∷ 2 ∷ 2 ∷ 6 ∷ 3 ∷ 0 ∷ 0 ∷ 0 ∷ 0 ∷ 0 ∷ 0 ∷ []) ≡ None
unfolding block_of is_whole row_in row_of has_length fields
crowded_not_read = refl
