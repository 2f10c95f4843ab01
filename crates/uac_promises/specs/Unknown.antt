-- When the host knows the value of a control. From the descriptor's end on it knows each, but for one of which a set broke: that one it
-- doesn't know until a get brings all bytes of the control, or a set of it is done (Audio Class 2.0, 5.2.2; profile).
use Rattle.std.specs.Prelude.{◌≡◌, ◌↔◌, ℕ, ◌==◌, ◌&&◌, ◌||◌, Bool, true, false, if◌then◌else◌, ℤ, List, [], ◌∷◌, ◌++◌, map, length, Option}
use Rattle.std.specs.Prelude.{None, Some, is_some, option_map, option_and_then, Result, Ok, Err}
use Rattle.std.specs.List.{All, cons_option}
use Rattle.uac_units.specs.Hearing.{Reading}
use Rattle.uac_request.specs.Requests.{AnswerFields, setup_of, value_bytes, is_done, is_done_answer, is_stalled, with_bytes}
use Rattle.uac_request.specs.Requests.{with_descriptor}
use Rattle.uac_request.specs.declared.setup.Setup.{Setup}
use Rattle.uac_mixer.specs.MixerElements.{with_no_value, width_of}
use Rattle.uac_mixer.specs.ViewTransfers as mixer
use Rattle.uac_mixer.specs.ViewTransfers.{get_of, set_of}
use Rattle.uac_mixer.specs.declared.element.Element.{Element}
use Rattle.uac_script.specs.Phrase.{Phrase, nothing_line, bytes_line, go_line, control_line, get_line, set_line, show_line, break_line}
use Rattle.uac_script.specs.Phrase.{append_line, track_line, jack_line, deviate_line, microframes_line}
use Rattle.uac_script.specs.Phrase.{detail_line, report_line}
use Rattle.uac_script.specs.LineParsing.{answer}
use Rattle.uac_running.specs.RunningWorld.{RunningWorld}
use Rattle.uac_running.specs.RunningTransfers.{comes_back, element_named}
use Rattle.uac_rows.specs.BusWorld.{Step, BusWorld, describing, done, refused, running, start}
use Rattle.uac_rows.specs.After.{after, said_step}

-- ---- the transfer that a line makes

-- a control transfer: its setup packet, and the bytes that the host sends with it
pub record Transfer : Type 0 where
  pub setup : Setup
  pub sent : List ℕ

-- the host gets an element, or sets it to a value
abbrev pub get_by : RunningWorld → Element → Transfer
get_by r x = record { setup = get_of r.device.function.control_interface x; sent = [] }

abbrev pub set_by : ℤ → RunningWorld → Element → Transfer
set_by value r x = record { setup = set_of r.device.function.control_interface x; sent = value_bytes (width_of x.kind) value }

-- the transfer that a line makes of a running device, if it makes one
abbrev pub transfer_of : Phrase → RunningWorld → Option Transfer
transfer_of (control_line setup sent) r = Some (record { setup = setup_of setup; sent = sent })
transfer_of (get_line name) r = option_map (get_by r) (element_named r name)
transfer_of (set_line name value) r = option_map (set_by value r) (element_named r name)
transfer_of nothing_line r = None
transfer_of (bytes_line bytes) r = None
transfer_of go_line r = None
transfer_of (show_line name) r = None
transfer_of (break_line later) r = None
transfer_of (append_line interface samples) r = None
transfer_of (track_line interface tone) r = None
transfer_of (jack_line terminal tone) r = None
transfer_of (deviate_line domain ppm) r = None
transfer_of (microframes_line count marks) r = None
transfer_of (detail_line level) r = None
transfer_of report_line r = None

-- ---- what it reveals of an element

-- nothing came back: the transfer broke
abbrev pub is_broken : Option AnswerFields → Bool
is_broken None = true
is_broken (Some told) = false

-- what came back is that the request is done
abbrev pub came_done : Option AnswerFields → Bool
came_done None = false
came_done (Some told) = is_done_answer told

-- so many bytes came
abbrev pub brings : ℕ → Option AnswerFields → Bool
brings count None = false
brings count (Some (with_bytes bytes)) = length bytes == count
brings count (Some (with_descriptor from to)) = false
brings count (Some is_done) = false
brings count (Some (is_stalled rule)) = false

-- the transfer sets the element, or gets it
abbrev pub is_set : RunningWorld → Element → Transfer → Bool
is_set r x t = mixer.sets r.device.function.control_interface t.setup x

abbrev pub is_get : RunningWorld → Element → Transfer → Bool
is_get r x t = mixer.gets r.device.function.control_interface t.setup x

abbrev pub came_back : RunningWorld → Transfer → Option AnswerFields
came_back r t = comes_back t.setup t.sent r

-- a set that broke reveals that the element's value is unknown; a set that is done reveals that it is known, and so does a get that brings
-- all bytes of the control; any other transfer reveals nothing of it
unfoldable pub reveals : RunningWorld → Element → Transfer → Option Bool
reveals r x t =
    if is_set r x t && is_broken (came_back r t) then Some false
    else if (is_set r x t && came_done (came_back r t)) || (is_get r x t && brings (width_of x.kind) (came_back r t)) then Some true
    else None

-- ---- what lines reveal

-- what a line reveals of an element, by the transfer that it makes of a running device
abbrev pub reveals_in : BusWorld → Result Phrase ℕ → Element → Option Bool
reveals_in (describing bytes meters) said x = None
reveals_in (running r) (Ok phrase) x = option_and_then (reveals r x) (transfer_of phrase r)
reveals_in (running r) (Err rule) x = None

-- of what a line made of the world, where it was done
abbrev pub if_done : Step → (BusWorld → List Bool) → List Bool
if_done (done next lines) go = go next
if_done (refused fault) go = []

-- what lines revealed of an element, in order, up to the first line that is refused
unfoldable pub knowledge_after : List (Result Phrase ℕ) → BusWorld → Element → List Bool
knowledge_after [] w x = []
knowledge_after (said ∷ saids) w x = if_done (said_step said w) (λ next. cons_option (reveals_in w said x) (knowledge_after saids next x))

-- the last of these, or this where there is none
unfoldable pub last_or : Bool → List Bool → Bool
last_or known [] = known
last_or known (told ∷ rest) = last_or told rest

-- ---- the laws

-- the elements of the host's view, which begins with the running device
abbrev pub elements_in : BusWorld → List Element
elements_in (describing bytes meters) = []
elements_in (running r) = r.view.elements

-- after every list of lines, by their texts, the value of an element is known or unknown as was told of it last; it is known where nothing
-- was told
abbrev pub ValuesAreKnownAsTold : Type 0
ValuesAreKnownAsTold = (texts : List (List ℕ)) (shown : List Reading)
    → All (λ x. is_some x.value ≡ last_or true (knowledge_after (map answer texts) (start shown) x))
    (elements_in (after (map answer texts) (start shown)).world)

-- an element lost its value: at one of these lines, which was done, a set of it broke; and no line after that one told of it that a set
-- was done or that a get brought all bytes
pub record IsLost (saids : List (Result Phrase ℕ)) (w : BusWorld) (x : Element) : Type 0 where
  pub before : List (Result Phrase ℕ)
  pub said : Result Phrase ℕ
  pub following : List (Result Phrase ℕ)
  pub cut : saids ≡ before ++ said ∷ following
  pub whole : (after (before ++ said ∷ []) w).refusal ≡ None
  pub broke : reveals_in (after before w).world said x ≡ Some false
  pub since : knowledge_after following (after (before ++ said ∷ []) w).world x ≡ []

-- after every list of lines exactly those values are unknown that were lost
abbrev pub UnknownValuesAreLost : Type 0
UnknownValuesAreLost = (texts : List (List ℕ)) (shown : List Reading)
    → All (λ x. (x.value ≡ None) ↔ IsLost (map answer texts) (start shown) x)
    (elements_in (after (map answer texts) (start shown)).world)

-- the elements of a running device, but for their values, are the same ones in the same order after every list of lines
abbrev pub ElementsStay : Type 0
ElementsStay = (saids : List (Result Phrase ℕ)) (r : RunningWorld)
    → map with_no_value (elements_in (after saids (running r)).world) ≡ map with_no_value r.view.elements
