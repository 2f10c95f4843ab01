-- The settings of streaming interfaces in turn, each with the blocks after it (USB 2.0, 9.6.5; Audio Class 2.0, 4.9).
use Rattle.std.specs.Prelude.{Bool, true, false, cond, List, [], ◌∷◌, Option, Some, None, length, slice_get}
use Rattle.std.specs.List.{filter_map, cons_option}
use Rattle.std.specs.Option.{option_and_then}
use Rattle.uac_descriptor.specs.Classes.{is_streaming_interface}
use Rattle.uac_descriptor.specs.BlockTurns.{interface_of}
use Rattle.uac_descriptor.specs.declared.standard.Interface.{Interface}
use Rattle.uac_descriptor.specs.declared.standard.Endpoint.{Endpoint}
use Rattle.uac_descriptor.specs.declared.streaming.General.{General}
use Rattle.uac_descriptor.specs.declared.streaming.TypeOne.{TypeOne}
use Rattle.uac_descriptor.specs.declared.block.Block as block
use Rattle.uac_descriptor.specs.declared.block.Block.TheVariants as row
use Rattle.uac_entities.specs.declared.settings.DeclaredSetting.{DeclaredSetting}

-- another interface, or the association in front of another function's blocks
unfoldable pub ends_setting : block.Block → Bool
ends_setting (row.Configuration _) = false
ends_setting (row.Association _) = true
ends_setting (row.Interface _) = true
ends_setting (row.Endpoint _) = false
ends_setting (row.Header _) = false
ends_setting (row.InputTerminal _) = false
ends_setting (row.OutputTerminal _) = false
ends_setting (row.Mixer _) = false
ends_setting (row.Selector _) = false
ends_setting (row.Feature _) = false
ends_setting (row.Effect _) = false
ends_setting (row.ClockSource _) = false
ends_setting (row.ClockSelector _) = false
ends_setting (row.ClockMultiplier _) = false
ends_setting (row.General _) = false
ends_setting (row.TypeOne _) = false
ends_setting (row.Extra _) = false
ends_setting (row.ClassEndpoint _) = false
ends_setting (row.Foreign _) = false

unfoldable pub general_of : block.Block → Option General
general_of (row.Configuration _) = None
general_of (row.Association _) = None
general_of (row.Interface _) = None
general_of (row.Endpoint _) = None
general_of (row.Header _) = None
general_of (row.InputTerminal _) = None
general_of (row.OutputTerminal _) = None
general_of (row.Mixer _) = None
general_of (row.Selector _) = None
general_of (row.Feature _) = None
general_of (row.Effect _) = None
general_of (row.ClockSource _) = None
general_of (row.ClockSelector _) = None
general_of (row.ClockMultiplier _) = None
general_of (row.General g) = Some g
general_of (row.TypeOne _) = None
general_of (row.Extra _) = None
general_of (row.ClassEndpoint _) = None
general_of (row.Foreign _) = None

unfoldable pub format_of : block.Block → Option TypeOne
format_of (row.Configuration _) = None
format_of (row.Association _) = None
format_of (row.Interface _) = None
format_of (row.Endpoint _) = None
format_of (row.Header _) = None
format_of (row.InputTerminal _) = None
format_of (row.OutputTerminal _) = None
format_of (row.Mixer _) = None
format_of (row.Selector _) = None
format_of (row.Feature _) = None
format_of (row.Effect _) = None
format_of (row.ClockSource _) = None
format_of (row.ClockSelector _) = None
format_of (row.ClockMultiplier _) = None
format_of (row.General _) = None
format_of (row.TypeOne t) = Some t
format_of (row.Extra _) = None
format_of (row.ClassEndpoint _) = None
format_of (row.Foreign _) = None

unfoldable pub endpoint_of : block.Block → Option Endpoint
endpoint_of (row.Configuration _) = None
endpoint_of (row.Association _) = None
endpoint_of (row.Interface _) = None
endpoint_of (row.Endpoint e) = Some e
endpoint_of (row.Header _) = None
endpoint_of (row.InputTerminal _) = None
endpoint_of (row.OutputTerminal _) = None
endpoint_of (row.Mixer _) = None
endpoint_of (row.Selector _) = None
endpoint_of (row.Feature _) = None
endpoint_of (row.Effect _) = None
endpoint_of (row.ClockSource _) = None
endpoint_of (row.ClockSelector _) = None
endpoint_of (row.ClockMultiplier _) = None
endpoint_of (row.General _) = None
endpoint_of (row.TypeOne _) = None
endpoint_of (row.Extra _) = None
endpoint_of (row.ClassEndpoint _) = None
endpoint_of (row.Foreign _) = None

-- the blocks up to the next interface or association
unfoldable pub own_blocks : List block.Block → List block.Block
own_blocks [] = []
own_blocks (b ∷ blocks) = cond (ends_setting b) [] (b ∷ own_blocks blocks)

-- what the blocks of an interface's own give by a row, in their order
abbrev pub own : {X : Type 0} → (block.Block → Option X) → List block.Block → List X
own row_of blocks = filter_map row_of (own_blocks blocks)

-- a setting, by its interface block and all that stands after it
abbrev pub declared_setting_of : Interface → List block.Block → DeclaredSetting
declared_setting_of i following =
    record {
      interface = i.number;
      endpoint_count = i.endpoints;
      endpoints = length (own endpoint_of following);
      setting =
          record {
            number = i.setting;
            general = slice_get (own general_of following) 0;
            format = slice_get (own format_of following) 0;
            first = slice_get (own endpoint_of following) 0;
            second = slice_get (own endpoint_of following) 1;
          };
    }

-- the setting of a streaming interface that a block begins, with all that stands after it
unfoldable pub declared_setting_at : block.Block → List block.Block → Option DeclaredSetting
declared_setting_at b following = option_and_then (λ i. cond (is_streaming_interface i) (Some (declared_setting_of i following)) None)
    (interface_of b)

-- the settings of the streaming interfaces, in block order
unfoldable pub declared_settings : List block.Block → List DeclaredSetting
declared_settings [] = []
declared_settings (b ∷ blocks) = cons_option (declared_setting_at b blocks) (declared_settings blocks)
