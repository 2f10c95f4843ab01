-- The lines of `show` (profile): each block's place, kind and bytes.
use Rattle.std.specs.Prelude.{◌≡◌, ℕ, ◌+◌, List, [], ◌∷◌, ◌++◌, length, codes, decimal, Option}
use Rattle.std.specs.Io.KnownBytes.{Appends}
use Rattle.hex.specs.Hex.{encode_lower}
use Rattle.uac_descriptor.specs.declared.block.Block as block
use Rattle.uac_descriptor.specs.declared.block.Block.TheVariants as variant
use Rattle.uac_descriptor.specs.Spelling.{spelling}

-- a block's kind
abbrev pub block_name : block.Block → List ℕ
block_name (variant.Configuration _) = codes "configuration"
block_name (variant.Association _) = codes "association"
block_name (variant.Interface _) = codes "interface"
block_name (variant.Endpoint _) = codes "endpoint"
block_name (variant.Header _) = codes "header"
block_name (variant.InputTerminal _) = codes "input_terminal"
block_name (variant.OutputTerminal _) = codes "output_terminal"
block_name (variant.Mixer _) = codes "mixer"
block_name (variant.Selector _) = codes "selector"
block_name (variant.Feature _) = codes "feature"
block_name (variant.Effect _) = codes "effect"
block_name (variant.ClockSource _) = codes "clock_source"
block_name (variant.ClockSelector _) = codes "clock_selector"
block_name (variant.ClockMultiplier _) = codes "clock_multiplier"
block_name (variant.General _) = codes "general"
block_name (variant.TypeOne _) = codes "type_one"
block_name (variant.Extra _) = codes "extra"
block_name (variant.ClassEndpoint _) = codes "class_endpoint"
block_name (variant.Foreign _) = codes "foreign"

-- the line of bytes of this kind at a place
abbrev pub line_of : ℕ → List ℕ → List ℕ → List ℕ
line_of place kind bytes =
    decimal place ++ codes " " ++ kind ++ codes " " ++ encode_lower bytes ++ codes "\n"

-- the line of a block at a place
unfoldable pub block_line : ℕ → block.Block → List ℕ
block_line place b = line_of place (block_name b) (spelling b)

-- the lines of blocks, the first of them at this place
abbrev pub block_lines : ℕ → List block.Block → List ℕ
block_lines place [] = []
block_lines place (b ∷ blocks) = block_line place b ++ block_lines (place + length (spelling b)) blocks

-- these bytes begin with those
pub record BeginsWith (bytes front : List ℕ) : Type 0 where
  pub following : List ℕ
  pub parts : bytes ≡ front ++ following

-- of a text that waits, a front was written, and the rest waits
pub record Gives (old new : Option (List ℕ)) (before after : List ℕ) : Type 0 where
  pub front : List ℕ
  pub parts : before ≡ front ++ after
  pub appended : Appends old new front
