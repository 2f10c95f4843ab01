-- The context in which each block stands (Audio Class 2.0, 4; profile: what follows the association of another function).
use Rattle.std.specs.Prelude.{Bool, true, false, if◌then◌else◌, List, [], ◌∷◌}
use Rattle.uac_descriptor.specs.Classes.{is_audio_association, is_control_interface, is_streaming_interface}
use Rattle.uac_descriptor.specs.declared.context.Context.{Context}
use Rattle.uac_descriptor.specs.declared.context.Context.TheVariants as contexts
use Rattle.uac_descriptor.specs.declared.standard.Interface as interface
use Rattle.uac_descriptor.specs.declared.block.Block as block
use Rattle.uac_descriptor.specs.declared.block.Block.TheVariants as variant

-- what an interface makes the context of the blocks after it
unfoldable pub interface_context : interface.Interface → Context
interface_context i =
    if is_control_interface i then contexts.ControlInterface else if is_streaming_interface i then contexts.StreamingInterface
    else contexts.ForeignInterface

-- the context after a block: the latest interface decides, and what follows a foreign association counts as
-- standing in a foreign interface
abbrev pub context_after : Context → block.Block → Context
context_after context (variant.Interface i) = interface_context i
context_after context (variant.Association a) = if is_audio_association a then context else contexts.ForeignInterface
context_after context (variant.Configuration _) = context
context_after context (variant.Endpoint _) = context
context_after context (variant.Header _) = context
context_after context (variant.InputTerminal _) = context
context_after context (variant.OutputTerminal _) = context
context_after context (variant.Mixer _) = context
context_after context (variant.Selector _) = context
context_after context (variant.Feature _) = context
context_after context (variant.Effect _) = context
context_after context (variant.ClockSource _) = context
context_after context (variant.ClockSelector _) = context
context_after context (variant.ClockMultiplier _) = context
context_after context (variant.General _) = context
context_after context (variant.TypeOne _) = context
context_after context (variant.Extra _) = context
context_after context (variant.ClassEndpoint _) = context
context_after context (variant.Foreign _) = context

-- the fact holds of each block in the context in which it stands
abbrev pub EachIn : (Context → block.Block → Type 0) → Context → List block.Block → Type 0
EachIn P context [] = Unit {0}
EachIn P context (b ∷ blocks) = P context b × EachIn P (context_after context b) blocks

-- a control interface or a streaming one
abbrev pub is_audio : Context → Bool
is_audio contexts.DeviceFront = false
is_audio contexts.ControlInterface = true
is_audio contexts.StreamingInterface = true
is_audio contexts.ForeignInterface = false
