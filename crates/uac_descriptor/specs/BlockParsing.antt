-- The block that bytes are parsed as: the row by context, type and subtype, then the row's length, then its fields
-- (USB 2.0, 9.6; Audio Class 2.0, 4.7.2, 4.9 and 4.10; Audio Data Formats 2.0, 2.3.1.6).
use Rattle.std.specs.Prelude.{ℕ, zero, suc, ◌+◌, ◌-◌, ◌/◌, ◌%◌, ◌<◌, Bool, true, false, ◌==◌, nat_le, ◌&&◌, if◌then◌else◌, List, [], ◌∷◌}
use Rattle.std.specs.Prelude.{length, take, drop, slice_index, Option, Some, None}
use Rattle.uac_descriptor.specs.Little.{two_at, four_at}
use Rattle.uac_descriptor.specs.Layout.{SelectorFields, MixerFields}
use Rattle.uac_descriptor.specs.LayoutRows as rows
use Rattle.uac_descriptor.specs.LayoutRows.{Context, Row, row_in}
use Rattle.uac_descriptor.specs.declared.block.Block as block
use Rattle.uac_descriptor.specs.declared.block.Block.TheVariants as variant

-- every number in this list is a byte
abbrev pub AreBytes : List ℕ → Type 0
AreBytes bytes = (i : ℕ) → slice_index bytes i < 256

-- whether a block of this row may have this length; of a row with pins the number of pins stands at place 4
unfoldable pub has_length : Row → List ℕ → Bool
has_length rows.configuration bytes = length bytes == 9
has_length rows.association bytes = length bytes == 8
has_length rows.interface bytes = length bytes == 9
has_length rows.endpoint bytes = length bytes == 7
has_length rows.header bytes = length bytes == 9
has_length rows.input_terminal bytes = length bytes == 17
has_length rows.output_terminal bytes = length bytes == 12
has_length rows.mixer bytes = nat_le (13 + slice_index bytes 4) (length bytes)
has_length rows.selector bytes = length bytes == 7 + slice_index bytes 4
-- 6 bytes and 4 for each control word, at least one
has_length rows.feature bytes = nat_le 10 (length bytes) && length bytes % 4 == 2
-- 8 bytes and 4 for each control word, at least one
has_length rows.effect bytes = nat_le 12 (length bytes) && length bytes % 4 == 0
has_length rows.clock_source bytes = length bytes == 8
has_length rows.clock_selector bytes = length bytes == 7 + slice_index bytes 4
has_length rows.clock_multiplier bytes = length bytes == 7
has_length rows.general bytes = length bytes == 16
has_length rows.type_one bytes = length bytes == 6
has_length rows.extra bytes = nat_le 3 (length bytes)
has_length rows.class_endpoint bytes = length bytes == 8
has_length rows.foreign bytes = true
has_length rows.too_short bytes = false

-- the sources of a row with pins, and what follows them
abbrev pub sources_in : List ℕ → List ℕ
sources_in bytes = take (slice_index bytes 4) (drop 5 bytes)

abbrev pub after_sources : List ℕ → List ℕ
after_sources bytes = drop (slice_index bytes 4) (drop 5 bytes)

-- the first k control words in these bytes
abbrev pub words_in : ℕ → List ℕ → List ℕ
words_in zero bytes = []
words_in (suc k) bytes = four_at bytes 0 ∷ words_in k (drop 4 bytes)

abbrev pub last_of : List ℕ → ℕ
last_of bytes = slice_index bytes (length bytes - 1)

abbrev pub selector_fields : List ℕ → SelectorFields
selector_fields bytes =
    let following : List ℕ = after_sources bytes in
    record { id = slice_index bytes 3; sources = sources_in bytes; controls = slice_index following 0; name = slice_index following 1 }

abbrev pub mixer_fields : List ℕ → MixerFields
mixer_fields bytes =
    let following : List ℕ = after_sources bytes in
    let bit_bytes : ℕ = length bytes - 13 - slice_index bytes 4 in
    let tail : List ℕ = drop bit_bytes (drop 6 following) in
    record {
      id = slice_index bytes 3;
      sources = sources_in bytes;
      channels = slice_index following 0;
      locations = four_at following 1;
      names = slice_index following 5;
      mix_bits = take bit_bytes (drop 6 following);
      controls = slice_index tail 0;
      name = slice_index tail 1;
    }

-- the block that this row makes of bytes of its length
unfoldable pub fields : Row → List ℕ → block.Block
fields rows.configuration bytes =
    variant.Configuration (record {
      total = two_at bytes 2;
      interfaces = slice_index bytes 4;
      value = slice_index bytes 5;
      name = slice_index bytes 6;
      attributes = slice_index bytes 7;
      power = slice_index bytes 8;
    })
fields rows.association bytes =
    variant.Association (record {
      first = slice_index bytes 2;
      count = slice_index bytes 3;
      «class» = slice_index bytes 4;
      subclass = slice_index bytes 5;
      protocol = slice_index bytes 6;
      name = slice_index bytes 7;
    })
fields rows.interface bytes =
    variant.Interface (record {
      number = slice_index bytes 2;
      setting = slice_index bytes 3;
      endpoints = slice_index bytes 4;
      «class» = slice_index bytes 5;
      subclass = slice_index bytes 6;
      protocol = slice_index bytes 7;
      name = slice_index bytes 8;
    })
fields rows.endpoint bytes =
    variant.Endpoint (record {
      address = slice_index bytes 2;
      attributes = slice_index bytes 3;
      max_packet = two_at bytes 4;
      interval = slice_index bytes 6;
    })
fields rows.header bytes =
    variant.Header (record {
      version = two_at bytes 3;
      category = slice_index bytes 5;
      total = two_at bytes 6;
      controls = slice_index bytes 8;
    })
fields rows.input_terminal bytes =
    variant.InputTerminal (record {
      id = slice_index bytes 3;
      terminal_type = two_at bytes 4;
      assoc = slice_index bytes 6;
      clock = slice_index bytes 7;
      channels = slice_index bytes 8;
      locations = four_at bytes 9;
      names = slice_index bytes 13;
      controls = two_at bytes 14;
      name = slice_index bytes 16;
    })
fields rows.output_terminal bytes =
    variant.OutputTerminal (record {
      id = slice_index bytes 3;
      terminal_type = two_at bytes 4;
      assoc = slice_index bytes 6;
      source = slice_index bytes 7;
      clock = slice_index bytes 8;
      controls = two_at bytes 9;
      name = slice_index bytes 11;
    })
fields rows.mixer bytes = variant.Mixer (mixer_fields bytes)
fields rows.selector bytes = variant.Selector (selector_fields bytes)
fields rows.feature bytes =
    variant.Feature (record {
      id = slice_index bytes 3;
      source = slice_index bytes 4;
      words = words_in ((length bytes - 6) / 4) (drop 5 bytes);
      name = last_of bytes;
    })
fields rows.effect bytes =
    variant.Effect (record {
      id = slice_index bytes 3;
      effect_type = two_at bytes 4;
      source = slice_index bytes 6;
      words = words_in ((length bytes - 8) / 4) (drop 7 bytes);
      name = last_of bytes;
    })
fields rows.clock_source bytes =
    variant.ClockSource (record {
      id = slice_index bytes 3;
      attributes = slice_index bytes 4;
      controls = slice_index bytes 5;
      assoc = slice_index bytes 6;
      name = slice_index bytes 7;
    })
fields rows.clock_selector bytes = variant.ClockSelector (selector_fields bytes)
fields rows.clock_multiplier bytes =
    variant.ClockMultiplier (record {
      id = slice_index bytes 3;
      source = slice_index bytes 4;
      controls = slice_index bytes 5;
      name = slice_index bytes 6;
    })
fields rows.general bytes =
    variant.General (record {
      link = slice_index bytes 3;
      controls = slice_index bytes 4;
      format_type = slice_index bytes 5;
      formats = four_at bytes 6;
      channels = slice_index bytes 10;
      locations = four_at bytes 11;
      names = slice_index bytes 15;
    })
fields rows.type_one bytes = variant.TypeOne (record { subslot = slice_index bytes 4; bits = slice_index bytes 5 })
fields rows.extra bytes = variant.Extra (record { subtype = slice_index bytes 2; rest = drop 3 bytes })
fields rows.class_endpoint bytes =
    variant.ClassEndpoint (record {
      attributes = slice_index bytes 3;
      controls = slice_index bytes 4;
      lock_units = slice_index bytes 5;
      lock_delay = two_at bytes 6;
    })
fields rows.foreign bytes = variant.Foreign bytes
fields rows.too_short bytes = variant.Foreign bytes

-- the bytes are one block: the first says how many they are, at least 2
unfoldable pub is_whole : List ℕ → Bool
is_whole bytes = nat_le 2 (length bytes) && slice_index bytes 0 == length bytes

-- the block that these bytes are read as in this context; none where they aren't one block or not of their row's length
unfoldable pub block_of : Context → List ℕ → Option block.Block
block_of context bytes =
    if is_whole bytes && has_length (row_in context bytes) bytes then Some (fields (row_in context bytes) bytes) else None
