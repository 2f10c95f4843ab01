-- What the layers above the grammar rely on of the blocks that they are given: Audio Class 2.0, 4.7.2 (bNrInPins); Audio Data
-- Formats 2.0, 2.3.1.6 (bSubslotSize, bBitResolution); USB 2.0, 9.6.5 and 9.6.6 (the numbers of interfaces, and endpoints).
use Rattle.std.specs.Prelude.{◌≢◌, ℕ, ◌<◌, ◌≤◌, List, [], length, IsTrue}
use Rattle.uac_descriptor.specs.Contexts.{EachIn, is_audio}
use Rattle.uac_descriptor.specs.BlockFields.{is_isochronous, IsHighSpeed, IsTypeOneFormat}
use Rattle.uac_descriptor.specs.BlockTurns.{BeginsWithControl, InTurn, interfaces_in}
use Rattle.uac_descriptor.specs.declared.context.Context.{Context}
use Rattle.uac_descriptor.specs.declared.context.Context.TheVariants as context
use Rattle.uac_descriptor.specs.declared.block.Block as block
use Rattle.uac_descriptor.specs.declared.block.Block.TheVariants as variant

-- what chooses or mixes has a pin, and at most 248: a block has at most 255 bytes, of which a selector or a clock selector has 7 besides
-- its pins, and a mixer more (Audio Class 2.0, bLength in 4.7.2.2, 4.7.2.6 and 4.7.2.7)
abbrev pub ArePins : List ℕ → Type 0
ArePins sources = (length sources ≢ 0) × (length sources ≤ 248)

-- the number of an interface is a byte, what chooses or mixes has its pins, a format's numbers are in range, and an isochronous
-- endpoint of an audio interface is one of high speed
abbrev pub IsWellFormed : Context → block.Block → Type 0
IsWellFormed context (variant.Configuration _) = Unit {0}
IsWellFormed context (variant.Association _) = Unit {0}
IsWellFormed context (variant.Interface i) = i.number < 256
IsWellFormed context (variant.Endpoint e) = IsTrue (is_audio context) → IsTrue (is_isochronous e) → IsHighSpeed e
IsWellFormed context (variant.Header _) = Unit {0}
IsWellFormed context (variant.InputTerminal _) = Unit {0}
IsWellFormed context (variant.OutputTerminal _) = Unit {0}
IsWellFormed context (variant.Mixer m) = ArePins m.sources
IsWellFormed context (variant.Selector s) = ArePins s.sources
IsWellFormed context (variant.Feature _) = Unit {0}
IsWellFormed context (variant.Effect _) = Unit {0}
IsWellFormed context (variant.ClockSource _) = Unit {0}
IsWellFormed context (variant.ClockSelector c) = ArePins c.sources
IsWellFormed context (variant.ClockMultiplier _) = Unit {0}
IsWellFormed context (variant.General _) = Unit {0}
IsWellFormed context (variant.TypeOne t) = IsTypeOneFormat t
IsWellFormed context (variant.Extra _) = Unit {0}
IsWellFormed context (variant.ClassEndpoint _) = Unit {0}
IsWellFormed context (variant.Foreign _) = Unit {0}

-- the blocks are so, the control interface comes first, and the settings of each streaming interface are numbered 0, 1, .. in
-- turn, under a number of its own
pub record AreWellFormed (blocks : List block.Block) : Type 0 where
  pub fields : EachIn IsWellFormed context.DeviceFront blocks
  pub control : BeginsWithControl (interfaces_in blocks)
  pub in_turn : InTurn [] (interfaces_in blocks)
