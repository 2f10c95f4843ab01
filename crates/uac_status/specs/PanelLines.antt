-- The lines that a panel's script prints (profile).
use Rattle.std.specs.Prelude.{ℕ, if◌then◌else◌, ℤ, pos, List, [], ◌∷◌, ◌++◌, codes, decimal, flat_map, Option, None, Some, is_some, unwrap_or}
use Rattle.std.specs.Option.{option_map_or}
use Rattle.hex.specs.Hex.{encode_lower}
use Rattle.uac_store.specs.declared.keys.Key.{Key}
use Rattle.uac_store.specs.Keyed.{value_of}
use Rattle.uac_request.specs.Requests.{AnswerFields, with_bytes, with_descriptor, is_done, is_stalled, value_bytes}
use Rattle.uac_mixer.specs.MixerElements.{name_of, width_of}
use Rattle.uac_mixer.specs.ViewTransfers.{set_of}
use Rattle.uac_mixer.specs.declared.element.Element.{Element}
use Rattle.uac_transcript.specs.Transcript.{Said, Sight, says_view, element_has_value, is_unknown, was_set, element_was_stalled, was_broken, spelling_of}
use Rattle.uac_status.specs.Messages.{element_keyed, message_of}
use Rattle.uac_status.specs.Knobs.{KnobOutcome, knob_stalls, knob_rests, knob_changes}
use Rattle.uac_status.specs.Panels.{PanelWorld, panel_comes_back, followed, goes_on}

-- a line of every script; what came of a knob; a message that is followed; and that none waits
pub data PanelLine : Type 0 where
  says_line : Said → PanelLine
  says_knob : KnobOutcome → PanelLine
  says_message : List ℕ → PanelLine
  says_none : PanelLine

abbrev pub knob_text : KnobOutcome → List ℕ
knob_text (knob_stalls rule) = codes "w stall Q" ++ decimal rule ++ codes "\n"
knob_text knob_rests = codes "w same\n"
knob_text knob_changes = codes "w done\n"

-- a line's bytes, with the newline
unfoldable pub panel_spelling : PanelLine → List ℕ
panel_spelling (says_line said) = spelling_of said
panel_spelling (says_knob outcome) = knob_text outcome
panel_spelling (says_message bytes) = codes "n " ++ encode_lower bytes ++ codes "\n"
panel_spelling says_none = codes "n -\n"

-- lines, one after the other
abbrev pub panel_text : List PanelLine → List ℕ
panel_text lines = flat_map panel_spelling lines

-- ---- elements

-- an element that is read: its value is the device's, unless the transfer breaks
abbrev pub got_sight : Element → PanelWorld → Sight
got_sight x w = if is_some w.breaks then was_broken else element_has_value (name_of x) (unwrap_or (value_of w.controls x.key) (pos 0))

-- one that is set
abbrev pub set_sight : Option AnswerFields → Sight
set_sight None = was_broken
set_sight (Some (with_bytes bytes)) = was_set
set_sight (Some (with_descriptor from to)) = was_set
set_sight (Some is_done) = was_set
set_sight (Some (is_stalled rule)) = element_was_stalled rule

abbrev pub was_set_sight : Element → ℤ → PanelWorld → Sight
was_set_sight x value w = set_sight (panel_comes_back (set_of w.function.control_interface x) (value_bytes (width_of x.kind) value) w)

-- what the host knows of one
abbrev pub shown_sight : Element → Option ℤ → Sight
shown_sight x None = is_unknown (name_of x)
shown_sight x (Some value) = element_has_value (name_of x) value

-- ---- messages

-- each message that is followed, and what its transfer brought, up to the first that breaks
unfoldable pub all_told : List Key → PanelWorld → List PanelLine
all_told [] w = []
all_told (k ∷ later) w =
    option_map_or
    (λ x. says_message (message_of w.function.control_interface k) ∷ says_line (says_view (got_sight x w))
    ∷ goes_on (is_some w.breaks) [] (all_told later (followed x later w)))
    (element_keyed w.view.elements k)
    []

-- the line of `n`
abbrev pub following_told : List Key → PanelWorld → List PanelLine
following_told [] w = says_none ∷ []
following_told (k ∷ later) w = all_told (k ∷ later) w
