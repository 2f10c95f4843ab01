-- The elements of a function: the controls that a host's mixer shows. They are the declared controls that keep a value (Audio Class 2.0,
-- 5.2.5), in block order, then by selector, then by channel; each node of a mixer is one (profile).
use Rattle.std.specs.Prelude.{ℕ, ◌-◌, ◌*◌, ◌^◌, ◌&&◌, nat_lt, Bool, true, false, if◌then◌else◌, ℤ, pos, negsuc, List, ◌++◌, codes, decimal}
use Rattle.std.specs.Prelude.{Option, Some, None}
use Rattle.std.specs.List.{filter_map, flat_map, range_with_len}
use Rattle.std.specs.Option.{option_and_then}
use Rattle.uac_entities.specs.declared.entity.Entity.{Entity}
use Rattle.uac_entities.specs.declared.entity.EntityKind.{EntityKind}
use Rattle.uac_store.specs.declared.controls.Control.{Control}
use Rattle.uac_store.specs.declared.controls.Control.TheVariants as control
use Rattle.uac_store.specs.ControlTable.{control_of, facts_of, selectors_of}
use Rattle.uac_store.specs.StoreControls.{count_of}
use Rattle.uac_store.specs.Keyed.{key_of}
use Rattle.uac_request.specs.Requests.{is_declared_on, is_writable_on}
use Rattle.uac_mixer.specs.declared.kinds.ElementKind.{ElementKind}
use Rattle.uac_mixer.specs.declared.kinds.ElementKind.TheVariants as shown
use Rattle.uac_mixer.specs.declared.element.Element.{Element}

-- the element that a control is; none where it keeps no value
abbrev pub element_of : Control → Option ElementKind
element_of control.SamplingFrequency = Some shown.Rate
element_of control.ClockValid = None
element_of control.ClockSelector = Some shown.Clock
element_of control.Numerator = Some shown.Times
element_of control.Denominator = Some shown.Over
element_of control.Connector = None
element_of control.MixerNode = Some shown.Mix
element_of control.Selector = Some shown.Select
element_of control.Mute = Some shown.Mute
element_of control.Volume = Some shown.Volume
element_of control.Enable = Some shown.Enable

-- the control that an element is
abbrev pub control_shown : ElementKind → Control
control_shown shown.Rate = control.SamplingFrequency
control_shown shown.Clock = control.ClockSelector
control_shown shown.Times = control.Numerator
control_shown shown.Over = control.Denominator
control_shown shown.Mix = control.MixerNode
control_shown shown.Select = control.Selector
control_shown shown.Mute = control.Mute
control_shown shown.Volume = control.Volume
control_shown shown.Enable = control.Enable

-- the kind of an entity's control that keeps a value; none where no control with this selector keeps one
abbrev pub kind_at : EntityKind → ℕ → Option ElementKind
kind_at k selector = option_and_then element_of (control_of k selector)

-- an entity's control as an element that isn't read yet, where it is declared
abbrev pub element_on : Entity → ℕ → ℕ → Option Element
element_on e selector channel =
    option_and_then
    (λ kind. if is_declared_on e.kind e selector channel
    then
    Some (record { key = key_of e.id selector channel; kind = kind; writable = is_writable_on e.kind e selector channel; value = None })
    else None)
    (kind_at e.kind selector)

-- the elements of one of an entity's controls, by channel
unfoldable pub control_elements : List Entity → Entity → ℕ → List Element
control_elements entities e selector = filter_map (element_on e selector) (range_with_len 0 (count_of entities e))

-- the elements of an entity, by selector
unfoldable pub entity_elements : List Entity → Entity → List Element
entity_elements entities e = flat_map (control_elements entities e) (range_with_len 1 (selectors_of e.kind))

-- the elements of these entities, none of them read yet
unfoldable pub element_list : List Entity → List Element
element_list entities = flat_map (entity_elements entities) entities

-- an element whose value isn't known
abbrev pub with_no_value : Element → Element
with_no_value x = record x { value = None }

-- ---- names

-- what the name of an element begins with (profile)
abbrev pub kind_name : ElementKind → List ℕ
kind_name shown.Rate = codes "rate"
kind_name shown.Clock = codes "clock"
kind_name shown.Times = codes "times"
kind_name shown.Over = codes "over"
kind_name shown.Mix = codes "mix"
kind_name shown.Select = codes "select"
kind_name shown.Mute = codes "mute"
kind_name shown.Volume = codes "volume"
kind_name shown.Enable = codes "enable"

-- the name: its kind, its entity and its channel, with dots between (profile), as `volume.3.1`
unfoldable pub name_of : Element → List ℕ
name_of x = kind_name x.kind ++ codes "." ++ decimal x.key.entity ++ codes "." ++ decimal x.key.channel

-- ---- values

-- the bytes of an element's control
abbrev pub width_of : ElementKind → ℕ
width_of x = (facts_of (control_shown x)).width

-- gains are signed
abbrev pub is_gain : ElementKind → Bool
is_gain x = (facts_of (control_shown x)).signed

-- a value lies in so many bytes: with a sign from -2^(8 * width - 1) to 2^(8 * width - 1) - 1, without one from 0 to 2^(8 * width) - 1
abbrev pub lies_in : Bool → ℕ → ℤ → Bool
lies_in true width (pos n) = nat_lt n (2 ^ (8 * width - 1))
lies_in true width (negsuc n) = nat_lt n (2 ^ (8 * width - 1))
lies_in false width (pos n) = nat_lt n (2 ^ (8 * width))
lies_in false width (negsuc n) = false

-- a value fits an element: it lies in the bytes of its control, and in four with a sign (profile: a frequency is less than 2147483648)
abbrev pub fits_element : ElementKind → ℤ → Bool
fits_element x v = lies_in (is_gain x) (width_of x) v && lies_in true 4 v
