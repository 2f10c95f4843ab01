-- The block that a row of the layouts reads.
use Rattle.std.specs.Prelude.{ℕ, Bool, ◌==◌, ◌||◌, if◌then◌else◌, List, Option, Some, None}
use Rattle.uac_descriptor.specs.declared.block.Block as block
use Rattle.uac_descriptor.specs.BlockParsing.{has_length, fields}
use Rattle.uac_descriptor.specs.LayoutRows.{Row}
use Rattle.uac_descriptor.specs.Standard.{CONFIGURATION, INTERFACE, ENDPOINT, INTERFACE_ASSOCIATION, CS_INTERFACE, CS_ENDPOINT}

-- the row's block, where the bytes have one of its lengths
abbrev pub read_row : Row → List ℕ → Option block.Block
read_row row bytes = if has_length row bytes then Some (fields row bytes) else None

-- a context may have a row of its own for a block of this type
abbrev pub has_row : ℕ → Bool
has_row kind =
    kind == CONFIGURATION || kind == INTERFACE || kind == ENDPOINT || kind == INTERFACE_ASSOCIATION
    || kind == CS_INTERFACE || kind == CS_ENDPOINT
