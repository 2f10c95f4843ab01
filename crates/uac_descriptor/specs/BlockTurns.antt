-- The numbers of interfaces and of their settings (USB 2.0, 9.6.5).
use Rattle.std.specs.Prelude.{◌≡◌, ◌≢◌, ◌+◌, Bool, ◌||◌, not, ◌⊎◌, List, [], ◌∷◌, filter_map, Option, Some, None, IsTrue}
use Rattle.std.specs.List.{AllByRecursion}
use Rattle.uac_descriptor.specs.Classes.{is_control_interface, is_streaming_interface}
use Rattle.uac_descriptor.specs.declared.standard.Interface as interface
use Rattle.uac_descriptor.specs.declared.block.Block as block
use Rattle.uac_descriptor.specs.declared.block.Block.TheVariants as variant

-- an interface of the audio function
abbrev pub is_of_function : interface.Interface → Bool
is_of_function i = is_control_interface i || is_streaming_interface i

-- setting 0 of a new streaming interface: its number is neither the control interface's nor an earlier streaming interface's
pub record Begins (earlier : List interface.Interface) (i : interface.Interface) : Type 0 where
  pub setting : i.setting ≡ 0
  pub new : AllByRecursion (λ j. IsTrue (is_of_function j) → j.number ≢ i.number) earlier

-- a setting above 0: the latest interface is the same streaming interface in the setting before
abbrev pub Continues : List interface.Interface → interface.Interface → Type 0
Continues [] i = ⊥
Continues (j ∷ earlier) i = IsTrue (is_streaming_interface j) × (i.number ≡ j.number) × (i.setting ≡ j.setting + 1)

-- each streaming interface begins or continues, after earlier interfaces, the latest first
abbrev pub InTurn : List interface.Interface → List interface.Interface → Type 0
InTurn earlier [] = Unit {0}
InTurn earlier (i ∷ interfaces) =
    (IsTrue (is_streaming_interface i) → Begins earlier i ⊎ Continues earlier i) × InTurn (i ∷ earlier) interfaces

abbrev pub interface_of : block.Block → Option interface.Interface
interface_of (variant.Configuration _) = None
interface_of (variant.Association _) = None
interface_of (variant.Interface i) = Some i
interface_of (variant.Endpoint _) = None
interface_of (variant.Header _) = None
interface_of (variant.InputTerminal _) = None
interface_of (variant.OutputTerminal _) = None
interface_of (variant.Mixer _) = None
interface_of (variant.Selector _) = None
interface_of (variant.Feature _) = None
interface_of (variant.Effect _) = None
interface_of (variant.ClockSource _) = None
interface_of (variant.ClockSelector _) = None
interface_of (variant.ClockMultiplier _) = None
interface_of (variant.General _) = None
interface_of (variant.TypeOne _) = None
interface_of (variant.Extra _) = None
interface_of (variant.ClassEndpoint _) = None
interface_of (variant.Foreign _) = None

-- the interfaces among blocks
abbrev pub interfaces_in : List block.Block → List interface.Interface
interfaces_in blocks = filter_map interface_of blocks

-- the first interface of the audio function is its control interface (Audio Class 2.0, 4.7)
abbrev pub BeginsWithControl : List interface.Interface → Type 0
BeginsWithControl [] = ⊥
BeginsWithControl (i ∷ interfaces) = IsTrue (is_control_interface i) ⊎ IsTrue (not (is_streaming_interface i))
    × BeginsWithControl interfaces
