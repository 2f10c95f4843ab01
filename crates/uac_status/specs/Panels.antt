-- A device with a front panel, and what its host knows of it, from the descriptor's end on (profile). A knob changes a control, an
-- interrupt data message says so, and the host gets the control again (Audio Class 2.0, 6.1). No stream runs, so each interface is in
-- setting 0. That a message is lost never happens here.
use Rattle.std.specs.Prelude.{ℕ, Bool, true, false, if◌then◌else◌, ℤ, List, [], ◌∷◌, Option, None, Some, is_some}
use Rattle.std.specs.List.{find}
use Rattle.std.specs.Option.{option_map_or}
use Rattle.std.specs.Str.{bytes_eq}
use Rattle.uac_topology.specs.Function.{FunctionFields}
use Rattle.uac_store.specs.declared.keys.Key.{Key}
use Rattle.uac_store.specs.StoreControls.{initial_controls}
use Rattle.uac_alt.specs.AltSettings.{initial_settings}
use Rattle.uac_request.specs.Requests.{RequestState, AnswerFields, after_request, reply_of, value_bytes}
use Rattle.uac_request.specs.declared.setup.Setup.{Setup}
use Rattle.uac_mixer.specs.MixerElements.{name_of, width_of}
use Rattle.uac_mixer.specs.ViewTransfers.{get_of, set_of, view_after}
use Rattle.uac_mixer.specs.ViewWorld.{ViewWorld, known_view}
use Rattle.uac_mixer.specs.declared.element.Element.{Element}
use Rattle.uac_mixer.specs.declared.link.When.{When}
use Rattle.uac_mixer.specs.declared.link.When.TheVariants as when
use Rattle.uac_status.specs.Messages.{element_keyed}
use Rattle.uac_status.specs.Knobs.{KnobOutcome, knob_outcome, controls_turned, pending_turned}

pub record PanelWorld : Type 0 where
  pub function : FunctionFields
  pub controls : List (Key × ℤ)
  pub view : ViewWorld
  -- the keys whose messages wait, each once, the oldest first
  pub pending : List Key
  -- when the next transfer breaks; none where it doesn't
  pub breaks : Option When

-- at the descriptor's end each value is known, and no message waits
unfoldable pub panel_start : FunctionFields → PanelWorld
panel_start function =
    record {
      function = function;
      controls = initial_controls function.entities;
      view = known_view function.entities (initial_controls function.entities);
      pending = [];
      breaks = None;
    }

-- ---- transfers

-- what the device keeps of requests
abbrev pub panel_state : PanelWorld → RequestState
panel_state w = record { controls = w.controls; settings = initial_settings w.function }

-- what comes back of the next transfer: nothing where it breaks
abbrev pub panel_comes_back : Setup → List ℕ → PanelWorld → Option AnswerFields
panel_comes_back p sent w = if is_some w.breaks then None else Some (reply_of w.function (panel_state w) p sent)

-- the controls after a transfer: the device acts, unless it breaks before
abbrev pub acts_on : Option When → List (Key × ℤ) → List (Key × ℤ) → List (Key × ℤ)
acts_on None resting acted = acted
acts_on (Some when.Before) resting acted = resting
acts_on (Some when.After) resting acted = acted

-- a transfer: the view follows what came back, and a pending break is used up
unfoldable pub panel_transfer : Setup → List ℕ → PanelWorld → PanelWorld
panel_transfer p sent w =
    record w {
      controls = acts_on w.breaks w.controls (after_request w.function (panel_state w) p sent).controls;
      view = view_after w.function.control_interface p sent (panel_comes_back p sent w) w.view;
      breaks = None;
    }

-- an element is read, or set to a value
abbrev pub panel_got : Element → PanelWorld → PanelWorld
panel_got x w = panel_transfer (get_of w.function.control_interface x) [] w

abbrev pub panel_set : Element → ℤ → PanelWorld → PanelWorld
panel_set x value w = panel_transfer (set_of w.function.control_interface x) (value_bytes (width_of x.kind) value) w

-- the next transfer breaks then; a break that was pending is forgotten
abbrev pub break_at : Bool → When
break_at after = if after then when.After else when.Before

unfoldable pub panel_breaking : Bool → PanelWorld → PanelWorld
panel_breaking after w = record w { breaks = Some (break_at after) }

-- ---- knobs

abbrev pub panel_outcome : Key → ℤ → PanelWorld → KnobOutcome
panel_outcome k value w = knob_outcome w.function (panel_state w) k value

-- a knob is turned: the view isn't told, and a pending break stays
unfoldable pub turned : Key → ℤ → PanelWorld → PanelWorld
turned k value w =
    record w {
      controls = controls_turned (panel_outcome k value w) k value w.controls;
      pending = pending_turned (panel_outcome k value w) k w.pending;
    }

-- ---- messages

-- the host follows the oldest message: it gets the control, and the message is removed where that is answered
abbrev pub followed_by : Bool → List Key → PanelWorld → PanelWorld
followed_by true later w = w
followed_by false later w = record w { pending = later }

unfoldable pub followed : Element → List Key → PanelWorld → PanelWorld
followed x later w = followed_by (is_some w.breaks) later (panel_got x w)

-- all of them, up to the first that breaks
abbrev pub goes_on : {A : Type 0} → Bool → A → A → A
goes_on true now later = now
goes_on false now later = later

unfoldable pub all_followed : List Key → PanelWorld → PanelWorld
all_followed [] w = w
all_followed (k ∷ later) w =
    option_map_or (λ x. goes_on (is_some w.breaks) (followed x later w) (all_followed later (followed x later w)))
    (element_keyed w.view.elements k)
    w

-- ---- names

-- the first element with a name
unfoldable pub named_in : PanelWorld → List ℕ → Option Element
named_in w name = find (λ x. bytes_eq (name_of x) name) w.view.elements
