-- Profile: the descriptor of a generated script: one stream to a speaker, through so many units in a row.
use Rattle.std.specs.Prelude.{ℕ, ◌+◌, ◌%◌, ◌==◌, if◌then◌else◌, List, [], ◌∷◌, ◌++◌, map, length, flat_map}
use Rattle.std.specs.List.{range_with_len}
use Rattle.uac_descriptor.specs.declared.block.Block as block
use Rattle.uac_descriptor.specs.declared.block.Block.TheVariants as row
use Rattle.uac_descriptor.specs.Spelling.{spelling}

-- how many bytes spell the blocks
abbrev pub size : List block.Block → ℕ
size blocks = length (flat_map spelling blocks)

-- a clock that the host sets
abbrev pub own_clock : block.Block
own_clock = row.ClockSource (record { id = 1; attributes = 3; controls = 7; assoc = 0; name = 0 })

-- the frames of the stream
abbrev pub stream_terminal : block.Block
stream_terminal =
    row.InputTerminal
    (record { id = 2; terminal_type = 257; assoc = 0; clock = 1; channels = 2; locations = 3; names = 0; controls = 0; name = 0 })

-- the unit at this distance from unit 3, fed by the entity before it: at even distance a feature with a mute and two
-- volumes, at odd distance a mixer with two pins on the same source
abbrev pub unit_at : ℕ → block.Block
unit_at distance =
    if distance % 2 == 0
    then row.Feature (record { id = distance + 3; source = distance + 2; words = 3 ∷ 12 ∷ 12 ∷ []; name = 0 })
    else row.Mixer (record {
      id = distance + 3;
      sources = (distance + 2) ∷ (distance + 2) ∷ [];
      channels = 2;
      locations = 3;
      names = 0;
      mix_bits = 255 ∷ [];
      controls = 0;
      name = 0;
    })

abbrev pub units_of : ℕ → List block.Block
units_of count = map unit_at (range_with_len 0 count)

-- a speaker, fed by the last unit
abbrev pub speaker : ℕ → block.Block
speaker count =
    row.OutputTerminal (record { id = count + 3; terminal_type = 769; assoc = 0; source = count + 2; clock = 1; controls = 0; name = 0 })

-- the stream: its idle setting, and one of two channels of 24 bits with its feedback
abbrev pub stream_blocks : List block.Block
stream_blocks =
    row.Interface (record { number = 1; setting = 0; endpoints = 0; «class» = 1; subclass = 2; protocol = 32; name = 0 })
    ∷ row.Interface (record { number = 1; setting = 1; endpoints = 2; «class» = 1; subclass = 2; protocol = 32; name = 0 })
    ∷ row.General (record { link = 2; controls = 5; format_type = 1; formats = 1; channels = 2; locations = 3; names = 0 })
    ∷ row.TypeOne (record { subslot = 3; bits = 24 })
    ∷ row.Endpoint (record { address = 1; attributes = 5; max_packet = 150; interval = 1 })
    ∷ row.ClassEndpoint (record { attributes = 0; controls = 0; lock_units = 0; lock_delay = 0 })
    ∷ row.Endpoint (record { address = 129; attributes = 17; max_packet = 4; interval = 4 })
    ∷ []

-- in front of the units, with the totals of the configuration and of the header
abbrev pub front_blocks : ℕ → ℕ → List block.Block
front_blocks total control =
    row.Configuration (record { total = total; interfaces = 2; value = 1; name = 0; attributes = 128; power = 50 })
    ∷ row.Association (record { first = 0; count = 2; «class» = 1; subclass = 0; protocol = 32; name = 0 })
    ∷ row.Interface (record { number = 0; setting = 0; endpoints = 0; «class» = 1; subclass = 1; protocol = 32; name = 0 })
    ∷ row.Header (record { version = 512; category = 4; total = control; controls = 0 })
    ∷ own_clock ∷ stream_terminal ∷ []

-- all blocks, with these totals
abbrev pub blocks_with : ℕ → ℕ → ℕ → List block.Block
blocks_with total control count = front_blocks total control ++ (units_of count ++ speaker count ∷ stream_blocks)

-- the header's total counts its own nine bytes and all entities
abbrev pub control_total : ℕ → ℕ
control_total count = 9 + size (own_clock ∷ stream_terminal ∷ (units_of count ++ speaker count ∷ []))

-- the configuration's total counts all bytes
abbrev pub whole_total : ℕ → ℕ
whole_total count = size (blocks_with 0 0 count)

unfoldable pub descriptor_of : ℕ → List ℕ
descriptor_of count = flat_map spelling (blocks_with (whole_total count) (control_total count) count)
