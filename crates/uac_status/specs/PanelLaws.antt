-- What the host knows of a device with knobs (profile).
use Rattle.std.specs.Prelude.{◌≡◌, ℕ, ◌<◌, Bool, true, false, if◌then◌else◌, ℤ, List, [], ◌∷◌, None, IfSome, Some, is_some}
use Rattle.std.specs.List.{All, AllByRecursion}
use Rattle.std.specs.Option.{option_map_or}
use Rattle.uac_descriptor.specs.BlockParsing.{AreBytes}
use Rattle.uac_grammar_rules.specs.Sentence.{spellings}
use Rattle.uac_topology.specs.Function.{FunctionFields}
use Rattle.uac_topology.specs.Topology.{IsSoundFunction}
use Rattle.uac_store.specs.declared.keys.Key.{Key}
use Rattle.uac_store.specs.Keyed.{value_of}
use Rattle.uac_store.specs.StoreControls.{IsStoreOf}
use Rattle.uac_mixer.specs.MixerElements.{fits_element}
use Rattle.uac_mixer.specs.ViewWorld.{IsViewOf}
use Rattle.uac_mixer.specs.declared.element.Element.{Element}
use Rattle.uac_mixer.specs.Agreement.{IsAgreed}
use Rattle.uac_status.specs.Messages.{element_keyed}
use Rattle.uac_status.specs.Knobs.{is_pending}
use Rattle.uac_status.specs.Panels.{PanelWorld, panel_start, panel_got, panel_set, panel_breaking, named_in, turned, all_followed}

-- a known value is the device's
abbrev pub IsKnown : List (Key × ℤ) → Element → Type 0
IsKnown controls x = IfSome x.value (λ v. value_of controls x.key ≡ Some v)

-- unless a message of its control waits
abbrev pub IsAgreedBut : List Key → List (Key × ℤ) → List Element → Type 0
IsAgreedBut pending controls elements = All (λ x. is_pending pending x.key ≡ false → IsKnown controls x) elements

-- a key is of three bytes
pub record IsOfBytes (k : Key) : Type 0 where
  pub entity : k.entity < 256
  pub selector : k.selector < 256
  pub channel : k.channel < 256

-- an element of the view has this key
abbrev pub IsKeyShown : List Element → Key → Type 0
IsKeyShown elements k = is_some (element_keyed elements k) ≡ true

-- no key waits twice
abbrev pub WaitOnce : List Key → Type 0
WaitOnce [] = Unit {0}
WaitOnce (k ∷ later) = (is_pending later k ≡ false) × WaitOnce later

-- a sound function of bytes, a value for each of its controls, and a view of it, in which each known value whose message doesn't wait is
-- the device's; no message waits twice
pub record IsPanel (w : PanelWorld) : Type 0 where
  pub sound : IsSoundFunction w.function
  pub store : IsStoreOf w.function.entities w.controls
  pub of_function : IsViewOf w.function.entities w.view
  pub interface : w.function.control_interface < 256
  pub bytes : All (λ x. IsOfBytes x.key) w.view.elements
  pub agreed : IsAgreedBut w.pending w.controls w.view.elements
  pub shown : AllByRecursion (IsKeyShown w.view.elements) w.pending
  pub once : WaitOnce w.pending

-- ---- the laws

-- the function of a descriptor, which is of bytes, begins so
abbrev pub PanelsBegin : Type 0
PanelsBegin = (function : FunctionFields) (sound : IsSoundFunction function) → AreBytes (spellings sound.0) → IsPanel (panel_start function)

-- what may happen to a panel; an event that names no element, or a value that doesn't fit it, changes nothing
pub data PanelEvent : Type 0 where
  reads : List ℕ → PanelEvent
  sets : List ℕ → ℤ → PanelEvent
  breaks_next : Bool → PanelEvent
  turns : List ℕ → ℤ → PanelEvent
  follows : PanelEvent

abbrev pub if_fits : Element → ℤ → PanelWorld → PanelWorld → PanelWorld
if_fits x value w next = if fits_element x.kind value then next else w

unfoldable pub after_event : PanelEvent → PanelWorld → PanelWorld
after_event (reads name) w = option_map_or (λ x. panel_got x w) (named_in w name) w
after_event (sets name value) w = option_map_or (λ x. if_fits x value w (panel_set x value w)) (named_in w name) w
after_event (breaks_next after) w = panel_breaking after w
after_event (turns name value) w = option_map_or (λ x. if_fits x value w (turned x.key value w)) (named_in w name) w
after_event follows w = all_followed w.pending w

unfoldable pub after_events : List PanelEvent → PanelWorld → PanelWorld
after_events [] w = w
after_events (event ∷ more) w = after_events more (after_event event w)

-- after every list of events each known value whose message doesn't wait is the device's
abbrev pub KnownValuesAreSo : Type 0
KnownValuesAreSo = (events : List PanelEvent) (w : PanelWorld) → IsPanel w → IsPanel (after_events events w)

-- where no transfer breaks, following the messages leaves none, and each known value is the device's
pub record IsAllKnown (w : PanelWorld) : Type 0 where
  pub none : w.pending ≡ []
  pub agreed : IsAgreed w.controls w.view

abbrev pub MessagesTellAll : Type 0
MessagesTellAll = (w : PanelWorld) → IsPanel w → w.breaks ≡ None → IsAllKnown (all_followed w.pending w)
