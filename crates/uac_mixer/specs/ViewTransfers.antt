-- The transfers of a view's elements, and what any transfer makes of the view (Audio Class 2.0, 5.2.2).
use Rattle.std.specs.Prelude.{ℕ, ◌+◌, ◌*◌, ◌==◌, ◌&&◌, Bool, if◌then◌else◌, ℤ, List, map, length, Option, Some, None, Result, Ok, Err}
use Rattle.uac_store.specs.Keyed.{same_key}
use Rattle.uac_request.specs.Requests.{AnswerFields, is_done, is_stalled, with_bytes, with_descriptor}
use Rattle.uac_request.specs.Requests.{key_named, low, answer_fields, value_bytes, value_from}
use Rattle.uac_request.specs.declared.setup.Setup.{Setup}
use Rattle.uac_request.specs.declared.reply.Answer.{Answer}
use Rattle.uac_mixer.specs.declared.element.Element.{Element}
use Rattle.uac_mixer.specs.declared.link.Broken.{Broken}
use Rattle.uac_mixer.specs.declared.faults.SetFault.{SetFault}
use Rattle.uac_mixer.specs.declared.faults.SetFault.TheVariants as fault
use Rattle.uac_mixer.specs.MixerElements.{is_gain, width_of}
use Rattle.uac_mixer.specs.ViewWorld.{ViewWorld}

-- a request for an element's control: selector and channel in wValue, the entity and the control interface, which has this number, in
-- wIndex, and all bytes of the control
abbrev pub element_setup : ℕ → ℕ → Element → Setup
element_setup type control x =
    record {
      request_type = type;
      request = 1;
      value = 256 * x.key.selector + x.key.channel;
      index = 256 * x.key.entity + control;
      length = width_of x.kind;
    }

-- GET CUR and SET CUR of an element
abbrev pub get_of : ℕ → Element → Setup
get_of control x = element_setup 161 control x

abbrev pub set_of : ℕ → Element → Setup
set_of control x = element_setup 33 control x

-- a transfer is a request of this type for the current value of an element
unfoldable pub is_for : ℕ → ℕ → Setup → Element → Bool
is_for type control p x = p.request_type == type && (p.request == 1 && (low p.index == control && same_key x.key (key_named p)))

-- a transfer sets an element
abbrev pub sets : ℕ → Setup → Element → Bool
sets control p x = is_for 33 control p x

-- a transfer gets an element
abbrev pub gets : ℕ → Setup → Element → Bool
gets control p x = is_for 161 control p x

-- the value that bytes are of an element
abbrev pub value_in : Element → List ℕ → ℤ
value_in x bytes = value_from (is_gain x.kind) bytes

-- a set that is done gives its value, and one that broke leaves it unknown; a set that was answered otherwise changes nothing
abbrev pub after_set : Element → List ℕ → Option AnswerFields → Option ℤ
after_set x sent None = None
after_set x sent (Some (with_bytes bytes)) = x.value
after_set x sent (Some (with_descriptor from to)) = x.value
after_set x sent (Some is_done) = Some (value_in x sent)
after_set x sent (Some (is_stalled rule)) = x.value

-- a get that is answered with all bytes of the control gives their value; any other changes nothing
abbrev pub after_get : Element → Option AnswerFields → Option ℤ
after_get x None = x.value
after_get x (Some (with_bytes bytes)) = if length bytes == width_of x.kind then Some (value_in x bytes) else x.value
after_get x (Some (with_descriptor from to)) = x.value
after_get x (Some is_done) = x.value
after_get x (Some (is_stalled rule)) = x.value

-- an element's value after a transfer, of which this came back: what it was told, or none where it broke
unfoldable pub value_after : ℕ → Setup → List ℕ → Option AnswerFields → Element → Option ℤ
value_after control p sent came x =
    if sets control p x then after_set x sent came else if gets control p x then after_get x came else x.value

-- the view after a transfer
abbrev pub element_after : ℕ → Setup → List ℕ → Option AnswerFields → Element → Element
element_after control p sent came x = record x { value = value_after control p sent came x }

unfoldable pub view_after : ℕ → Setup → List ℕ → Option AnswerFields → ViewWorld → ViewWorld
view_after control p sent came view = record { elements = map (element_after control p sent came) view.elements }

-- ---- what came back, by what calls answer

-- of any transfer
abbrev pub came_of : Result Answer Broken → Option AnswerFields
came_of (Ok answer) = Some (answer_fields answer)
came_of (Err broken) = None

-- of an element's GET CUR that answered its value
abbrev pub came_of_get : Element → Result ℤ Broken → Option AnswerFields
came_of_get x (Ok value) = Some (with_bytes (value_bytes (width_of x.kind) value))
came_of_get x (Err broken) = None

-- of an element's SET CUR
abbrev pub came_of_set : Result (Unit {0}) SetFault → Option AnswerFields
came_of_set (Ok done) = Some is_done
came_of_set (Err fault.Broken) = None
came_of_set (Err (fault.Stalled rule)) = Some (is_stalled rule)
