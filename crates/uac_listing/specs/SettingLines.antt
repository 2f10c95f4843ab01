-- The lines for the settings of streaming interfaces, at the start values of the controls (profile): the interface, the setting, and what
-- it says of its stream. A part that isn't there prints a dash.
use Rattle.std.specs.Prelude.{ℕ, ◌==◌, Bool, true, false, if◌then◌else◌, ℤ, List, ◌++◌, flat_map, codes, decimal, Option, None, Some}
use Rattle.std.specs.Option.{option_map}
use Rattle.uac_entities.specs.declared.stream.Setting.{Setting}
use Rattle.uac_entities.specs.declared.stream.StreamInterface.{StreamInterface}
use Rattle.uac_store.specs.declared.keys.Key.{Key}
use Rattle.uac_topology.specs.Function.{FunctionFields}
use Rattle.uac_alt.specs.AltStreams.{packet_room}
use Rattle.uac_request.specs.Requests.{is_valid}

abbrev pub direction_text : Bool → List ℕ
direction_text true = codes " out"
direction_text false = codes " in"

abbrev pub number_text : Option ℕ → List ℕ
number_text None = codes "-"
number_text (Some n) = decimal n

-- no terminal has the id 0
abbrev pub terminal_text : ℕ → List ℕ
terminal_text id = if id == 0 then codes "-" else decimal id

abbrev pub valid_text : Bool → List ℕ
valid_text true = codes "yes"
valid_text false = codes "no"

-- a setting above 0
unfoldable pub running_line : StreamInterface → Setting → Bool → List ℕ
running_line s t valid =
    codes "stream " ++ decimal s.number ++ codes " setting " ++ decimal t.number ++ direction_text s.out
    ++ codes " terminal " ++ terminal_text s.terminal
    ++ codes " channels " ++ number_text (option_map (λ g. g.channels) t.general)
    ++ codes " subslot " ++ number_text (option_map (λ f. f.subslot) t.format)
    ++ codes " bits " ++ number_text (option_map (λ f. f.bits) t.format)
    ++ codes " packet " ++ number_text (option_map packet_room t.first)
    ++ codes " valid " ++ valid_text valid ++ codes "\n"

-- setting 0 carries nothing
unfoldable pub idle_line : ℕ → List ℕ
idle_line interface = codes "stream " ++ decimal interface ++ codes " setting 0 idle\n"

abbrev pub setting_line : FunctionFields → List (Key × ℤ) → StreamInterface → Setting → List ℕ
setting_line function controls s t =
    if t.number == 0 then idle_line s.number else running_line s t (is_valid function controls s t.number)

-- the lines of an interface's settings, and of all interfaces'
unfoldable pub interface_lines : FunctionFields → List (Key × ℤ) → StreamInterface → List ℕ
interface_lines function controls s = flat_map (setting_line function controls s) s.settings

abbrev pub setting_lines : FunctionFields → List (Key × ℤ) → List ℕ
setting_lines function controls = flat_map (interface_lines function controls) function.streams
