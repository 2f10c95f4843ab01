-- The alternate settings that interfaces are in (USB 2.0, 9.6.5 and 9.4.10).
use Rattle.std.specs.Prelude.{ℕ, ◌==◌, if◌then◌else◌, Bool, not, List, ◌∷◌, map, Option}
use Rattle.std.specs.List.{find, list_any}
use Rattle.std.specs.Option.{option_map}
use Rattle.uac_topology.specs.Function.{FunctionFields}
use Rattle.uac_alt.specs.declared.settings.InterfaceSetting.{InterfaceSetting}

-- an interface in its setting 0
abbrev pub in_first : ℕ → InterfaceSetting
in_first number = record { interface = number; setting = 0 }

-- at the start the control interface and each streaming interface is in its setting 0
unfoldable pub initial_settings : FunctionFields → List InterfaceSetting
initial_settings function = map in_first (function.control_interface ∷ map (λ s. s.number) function.streams)

-- the setting of the interface with a number, if there is one
unfoldable pub setting_of : List InterfaceSetting → ℕ → Option ℕ
setting_of settings number = option_map (λ s. s.setting) (find (λ s. s.interface == number) settings)

-- an interface with its setting; where it is the one with this number, its setting is the one given from now on
abbrev pub interface_setting_after : ℕ → ℕ → InterfaceSetting → InterfaceSetting
interface_setting_after interface setting s = if s.interface == interface then record s { setting = setting } else s

-- the settings with that of one interface replaced by the one given
unfoldable pub with_setting : List InterfaceSetting → ℕ → ℕ → List InterfaceSetting
with_setting settings interface setting = map (interface_setting_after interface setting) settings

-- some interface is in a setting other than 0
abbrev pub is_running : List InterfaceSetting → Bool
is_running settings = list_any (λ s. not (s.setting == 0)) settings
