-- A block by its kind: the configuration and the header that it is, if it is one.
use Rattle.std.specs.Prelude.{Option, Some, None}
use Rattle.uac_descriptor.specs.declared.standard.Configuration.{Configuration}
use Rattle.uac_descriptor.specs.declared.control.Header.{Header}
use Rattle.uac_descriptor.specs.declared.block.Block as block
use Rattle.uac_descriptor.specs.declared.block.Block.TheVariants as variant

abbrev pub as_configuration : block.Block → Option Configuration
as_configuration (variant.Configuration c) = Some c
as_configuration (variant.Association _) = None
as_configuration (variant.Interface _) = None
as_configuration (variant.Endpoint _) = None
as_configuration (variant.Header _) = None
as_configuration (variant.InputTerminal _) = None
as_configuration (variant.OutputTerminal _) = None
as_configuration (variant.Mixer _) = None
as_configuration (variant.Selector _) = None
as_configuration (variant.Feature _) = None
as_configuration (variant.Effect _) = None
as_configuration (variant.ClockSource _) = None
as_configuration (variant.ClockSelector _) = None
as_configuration (variant.ClockMultiplier _) = None
as_configuration (variant.General _) = None
as_configuration (variant.TypeOne _) = None
as_configuration (variant.Extra _) = None
as_configuration (variant.ClassEndpoint _) = None
as_configuration (variant.Foreign _) = None

abbrev pub as_header : block.Block → Option Header
as_header (variant.Configuration _) = None
as_header (variant.Association _) = None
as_header (variant.Interface _) = None
as_header (variant.Endpoint _) = None
as_header (variant.Header h) = Some h
as_header (variant.InputTerminal _) = None
as_header (variant.OutputTerminal _) = None
as_header (variant.Mixer _) = None
as_header (variant.Selector _) = None
as_header (variant.Feature _) = None
as_header (variant.Effect _) = None
as_header (variant.ClockSource _) = None
as_header (variant.ClockSelector _) = None
as_header (variant.ClockMultiplier _) = None
as_header (variant.General _) = None
as_header (variant.TypeOne _) = None
as_header (variant.Extra _) = None
as_header (variant.ClassEndpoint _) = None
as_header (variant.Foreign _) = None
