-- What holds of spellings and readings, whatever the blocks and the bytes.
use Rattle.std.specs.Prelude.{◌≡◌, ℕ, ◌≤◌, List, length, Some}
use Rattle.uac_descriptor.specs.Layout.{IsSelector, IsMixer, IsFeature, IsEffect, IsExtra, IsForeign}
use Rattle.uac_descriptor.specs.Spelling.{spelling}
use Rattle.uac_descriptor.specs.LayoutRows.{Context, Spells}
use Rattle.uac_descriptor.specs.BlockParsing.{AreBytes, block_of}
use Rattle.uac_descriptor.specs.declared.block.Block.{Block}
use Rattle.uac_descriptor.specs.declared.block.Block.TheVariants as variant

-- in one context no bytes are spelt by two blocks
abbrev pub OneSpelling : Type 0
OneSpelling =
    (context : Context) (a b : Block) (bytes : List ℕ) → Spells context a bytes → Spells context b bytes → a ≡ b

-- what spells a block is read as that block
abbrev pub SpeltIsRead : Type 0
SpeltIsRead =
    (context : Context) (b : Block) (bytes : List ℕ) → Spells context b bytes → block_of context bytes ≡ Some b

-- what is read as a block spells it
abbrev pub ReadIsSpelt : Type 0
ReadIsSpelt =
    (context : Context) (b : Block) (bytes : List ℕ) → AreBytes bytes → block_of context bytes ≡ Some b → Spells context b bytes

-- what the type of a block keeps
abbrev pub IsKeptBlock : Block → Type 0
IsKeptBlock (variant.Mixer m) = IsMixer m.sources m.mix_bits
IsKeptBlock (variant.Selector s) = IsSelector s.sources
IsKeptBlock (variant.Feature f) = IsFeature f.words
IsKeptBlock (variant.Effect e) = IsEffect e.words
IsKeptBlock (variant.ClockSelector c) = IsSelector c.sources
IsKeptBlock (variant.Extra e) = IsExtra e.subtype e.rest
IsKeptBlock (variant.Foreign bytes) = IsForeign bytes
IsKeptBlock (variant.Configuration _) = Unit {0}
IsKeptBlock (variant.Association _) = Unit {0}
IsKeptBlock (variant.Interface _) = Unit {0}
IsKeptBlock (variant.Endpoint _) = Unit {0}
IsKeptBlock (variant.Header _) = Unit {0}
IsKeptBlock (variant.InputTerminal _) = Unit {0}
IsKeptBlock (variant.OutputTerminal _) = Unit {0}
IsKeptBlock (variant.ClockSource _) = Unit {0}
IsKeptBlock (variant.ClockMultiplier _) = Unit {0}
IsKeptBlock (variant.General _) = Unit {0}
IsKeptBlock (variant.TypeOne _) = Unit {0}
IsKeptBlock (variant.ClassEndpoint _) = Unit {0}

-- some context reads the block's bytes as this block, and their number fits a byte
pub record HasSpelling (b : Block) : Type 0 where
  pub context : Context
  pub spells : Spells context b (spelling b)
  pub short : length (spelling b) ≤ 255
