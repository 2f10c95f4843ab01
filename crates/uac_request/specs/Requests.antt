-- Requests to controls and interfaces (Audio Class 2.0, 5.2; USB 2.0, 9.4), and what the device answers. The rules Q1 to Q12, by which a
-- request is stalled, are this profile's; the first that is broken is told.
use Rattle.std.specs.Prelude.{◌≡◌, ◌<◌, ℕ, ◌+◌, ◌-◌, ◌*◌, ◌/◌, ◌%◌, ◌^◌, ◌==◌, ◌&&◌, ◌||◌, not, nat_le, nat_lt, Bool, true, false}
use Rattle.std.specs.Prelude.{if◌then◌else◌, ℤ, pos, negsuc, List, [], ◌∷◌, ◌++◌, map, flat_map, length, get_or, take, sum, Option, Some}
use Rattle.std.specs.Prelude.{None, drop, is_some, unwrap_or}
use Rattle.std.specs.List.{find, filter_map, list_any}
use Rattle.std.specs.Option.{option_and_then, option_map, option_map_or}
use Rattle.std.specs.Ordering.{int_eq}
use Rattle.byteorder.specs.Endian.{little_bytes, little_number}
pub use Rattle.uac_grammar_rules.specs.Grammar.{least}
use Rattle.uac_entities.specs.EntityInterfaces.{entity_by_id}
use Rattle.uac_entities.specs.declared.entity.Entity.{Entity}
use Rattle.uac_entities.specs.declared.entity.EntityKind.{EntityKind}
use Rattle.uac_entities.specs.declared.stream.Setting.{Setting}
use Rattle.uac_entities.specs.declared.stream.StreamInterface.{StreamInterface}
use Rattle.uac_topology_rules.specs.Links.{is_clock}
use Rattle.uac_topology.specs.Function.{FunctionFields, interface_in}
use Rattle.uac_store.specs.declared.keys.Key.{Key}
use Rattle.uac_store.specs.declared.keys.Range.{Range}
use Rattle.uac_store.specs.declared.controls.Control.{Control}
use Rattle.uac_store.specs.declared.controls.Control.TheVariants as control
use Rattle.uac_store.specs.declared.controls.Spread.{Spread}
use Rattle.uac_store.specs.declared.controls.Spread.TheVariants as spread
use Rattle.uac_store.specs.ControlTable.{at_selector, control_of, facts_at, facts_of, is_settable, spread_of}
use Rattle.uac_store.specs.StoreControls.{count_of}
use Rattle.uac_store.specs.Keyed.{key_of, value_of, with_value}
use Rattle.uac_store.specs.Rates.{rate_of}
use Rattle.uac_store.specs.Selectors.{AS_ACT_ALT_SETTING_CONTROL, AS_VAL_ALT_SETTINGS_CONTROL}
use Rattle.uac_store.specs.StoreValues.{ranges_of, is_legal}
use Rattle.uac_request.specs.declared.controls.StreamControl.{StreamControl}
use Rattle.uac_request.specs.declared.controls.StreamControl.TheVariants as stream_control
use Rattle.uac_request.specs.declared.setup.Setup.{Setup}
use Rattle.uac_request.specs.declared.reply.Answer.{Answer}
use Rattle.uac_request.specs.declared.reply.Answer.TheVariants as told
use Rattle.uac_alt.specs.declared.settings.InterfaceSetting.{InterfaceSetting}
use Rattle.uac_alt.specs.AltSettings.{setting_of, with_setting, is_running}
use Rattle.uac_alt.specs.AltStreams.{stream_of}

-- ---- the request

-- the setup packet of eight bytes: numbers of two bytes have the low one first (USB 2.0, 9.3)
abbrev pub setup_of : List ℕ → Setup
setup_of bytes =
    record {
      request_type = get_or bytes 0 0;
      request = get_or bytes 1 0;
      value = little_number 2 (drop 2 bytes);
      index = little_number 2 (drop 4 bytes);
      length = little_number 2 (drop 6 bytes);
    }

-- the requests, by bmRequestType and bRequest (Audio Class 2.0, A.14; USB 2.0, 9.4)
abbrev pub is_request : ℕ → ℕ → Setup → Bool
is_request type number p = p.request_type == type && p.request == number

abbrev pub gets_cur : Setup → Bool
gets_cur p = is_request 161 1 p

abbrev pub gets_range : Setup → Bool
gets_range p = is_request 161 2 p

abbrev pub sets_cur : Setup → Bool
sets_cur p = is_request 33 1 p

abbrev pub gets_descriptor : Setup → Bool
gets_descriptor p = is_request 128 6 p

abbrev pub gets_interface : Setup → Bool
gets_interface p = is_request 129 10 p

abbrev pub sets_interface : Setup → Bool
sets_interface p = is_request 1 11 p

-- the requests to a control, and those to an interface
abbrev pub is_to_control : Setup → Bool
is_to_control p = gets_cur p || gets_range p || sets_cur p

abbrev pub is_to_interface : Setup → Bool
is_to_interface p = gets_interface p || sets_interface p

-- the requests that get bytes
abbrev pub is_get : Setup → Bool
is_get p = gets_cur p || gets_range p || gets_descriptor p || gets_interface p

-- a request to a control names its selector and channel in wValue, its entity and the interface in wIndex (5.2.2)
abbrev pub high : ℕ → ℕ
high n = n / 256

abbrev pub low : ℕ → ℕ
low n = n % 256

-- ---- what answers

-- what keeps a request's control: an entity, or a streaming interface
pub data Owner : Type 0 where
  by_entity : Entity → Owner
  by_streaming_interface : StreamInterface → Owner

-- the function has this interface
abbrev pub has_interface : FunctionFields → ℕ → Bool
has_interface function number = number == function.control_interface || is_some (interface_in function number)

-- what keeps the controls that wIndex names: on the control interface the entity, on a streaming interface that, where no entity is named
unfoldable pub owner_of : FunctionFields → ℕ → Option Owner
owner_of function index =
    if low index == function.control_interface then option_map by_entity (entity_by_id function.entities (high index))
    else if high index == 0 then option_map by_streaming_interface (interface_in function (low index))
    else None

-- the bytes of the control with a selector; none where there is none
abbrev pub entity_width : EntityKind → ℕ → Option ℕ
entity_width k selector = option_map (λ f. f.width) (facts_at k selector)

-- an interface with more than eight settings has a second byte of them
abbrev pub map_bytes : StreamInterface → ℕ
map_bytes s = if nat_le (length s.settings) 8 then 1 else 2

-- the controls of a streaming interface by their selectors (A.17.11), of those that this profile has
abbrev pub stream_controls : List (ℕ × StreamControl)
stream_controls =
    (AS_ACT_ALT_SETTING_CONTROL, stream_control.ActiveSetting) ∷ (AS_VAL_ALT_SETTINGS_CONTROL, stream_control.ValidSettings) ∷ []

-- the control of a streaming interface that a selector names
abbrev pub stream_control_of : ℕ → Option StreamControl
stream_control_of selector = at_selector stream_controls selector

-- how many bytes a streaming interface's control has: one for its active setting; for its valid settings that of their number and the map's
abbrev pub stream_control_width : StreamControl → StreamInterface → ℕ
stream_control_width stream_control.ActiveSetting s = 1
stream_control_width stream_control.ValidSettings s = 1 + map_bytes s

-- the bytes of the control with a selector; none where there is none
abbrev pub stream_width : StreamInterface → ℕ → Option ℕ
stream_width s selector = option_map (λ c. stream_control_width c s) (stream_control_of selector)

abbrev pub width_of : Owner → ℕ → Option ℕ
width_of (by_entity e) selector = entity_width e.kind selector
width_of (by_streaming_interface s) selector = stream_width s selector

-- the control with a selector answers RANGE (5.2.1)
abbrev pub entity_range : EntityKind → ℕ → Bool
entity_range k selector = option_map_or (λ f. f.ranged) (facts_at k selector) false

abbrev pub has_range : Owner → ℕ → Bool
has_range (by_entity e) selector = entity_range e.kind selector
has_range (by_streaming_interface s) selector = false

-- which control word holds a channel's control: a feature and an effect have one for each channel, the master's first
-- (4.7.2.8, 4.7.2.10)
abbrev pub controls_word_of : Spread → ℕ → ℕ
controls_word_of spread.Whole channel = 0
controls_word_of spread.Channels channel = channel
controls_word_of spread.Nodes channel = 0

-- the place of a control's two bits in its word: by selector, but for a terminal's connector, which stands second (4.7.2)
abbrev pub entity_bits : Entity → ℕ → ℕ → ℕ
entity_bits e selector channel = get_or e.controls (controls_word_of (spread_of e.kind) channel) 0 / 4 ^ (selector - 1) % 4

-- the two bits of a streaming interface's control in its word: the lowest are the active setting's, the next the valid settings' (4.9.2)
abbrev pub stream_control_bits : StreamControl → ℕ → ℕ
stream_control_bits stream_control.ActiveSetting word = word % 4
stream_control_bits stream_control.ValidSettings word = word / 4 % 4

-- the presence of an interface's controls is told by its first general block; without one both are absent
abbrev pub stream_word : StreamInterface → ℕ
stream_word s = option_map_or (λ g. g.controls) (find (λ g. true) (filter_map (λ t. t.general) s.settings)) 0

-- the bits of the control with a selector; 00 where there is none
abbrev pub stream_bits : StreamInterface → ℕ → ℕ
stream_bits s selector = option_map_or (λ c. stream_control_bits c (stream_word s)) (stream_control_of selector) 0

-- a node's bit among those of its mixer, the most significant bit of the first byte being the first: 1 where it can be set (profile)
abbrev pub node_bit : List ℕ → ℕ → ℕ
node_bit bytes node = get_or bytes (node / 8) 0 / 2 ^ (7 - node % 8) % 2

-- how many channels, or nodes, a control has
abbrev pub owner_count : List Entity → Owner → ℕ
owner_count entities (by_entity e) = count_of entities e
owner_count entities (by_streaming_interface s) = 1

abbrev pub is_in_range : List Entity → Owner → ℕ → Bool
is_in_range entities owner channel = nat_lt channel (owner_count entities owner)

-- the control is declared: its bits aren't 00, and every node of a mixer is
abbrev pub is_declared_by : Spread → Entity → ℕ → ℕ → Bool
is_declared_by spread.Whole e selector channel = not (entity_bits e selector channel == 0)
is_declared_by spread.Channels e selector channel = not (entity_bits e selector channel == 0)
is_declared_by spread.Nodes e selector channel = true

abbrev pub is_declared_on : EntityKind → Entity → ℕ → ℕ → Bool
is_declared_on k e selector channel = is_declared_by (spread_of k) e selector channel

abbrev pub is_declared : Owner → ℕ → ℕ → Bool
is_declared (by_entity e) selector channel = is_declared_on e.kind e selector channel
is_declared (by_streaming_interface s) selector channel = not (stream_bits s selector == 0)

-- the descriptor lets a host set it: its bits are 11, or a node's bit is 1
abbrev pub is_opened_by : Spread → Entity → ℕ → ℕ → Bool
is_opened_by spread.Whole e selector channel = entity_bits e selector channel == 3
is_opened_by spread.Channels e selector channel = entity_bits e selector channel == 3
is_opened_by spread.Nodes e selector channel = node_bit e.mix_bits channel == 1

-- a host may set the control: it is one that a host may ever set, and the descriptor lets it. The validity of a clock and the controls of
-- terminals and interfaces can only be read, whatever their bits say
abbrev pub is_writable_on : EntityKind → Entity → ℕ → ℕ → Bool
is_writable_on k e selector channel = is_settable k selector && is_opened_by (spread_of k) e selector channel

abbrev pub is_writable : Owner → ℕ → ℕ → Bool
is_writable (by_entity e) selector channel = is_writable_on e.kind e selector channel
is_writable (by_streaming_interface s) selector channel = false

-- ---- values as bytes

-- the number that a value is in so many bytes, in two's complement where it is negative
abbrev pub complement : ℕ → ℤ → ℕ
complement width (pos n) = n
complement width (negsuc n) = 256 ^ width - 1 - n

-- a value in so many bytes, the lowest first
unfoldable pub value_bytes : ℕ → ℤ → List ℕ
value_bytes width v = little_bytes width (complement width v)

-- the values that have a place in so many bytes, with a sign or without
abbrev pub IsWithin : Bool → ℕ → ℤ → Type 0
IsWithin true width (pos n) = 2 * n < 256 ^ width
IsWithin true width (negsuc n) = 2 * n < 256 ^ width
IsWithin false width (pos n) = n < 256 ^ width
IsWithin false width (negsuc n) = ⊥

-- whether a control's values are signed, as those of a volume and a node are
abbrev pub is_signed : EntityKind → ℕ → Bool
is_signed k selector = option_map_or (λ f. f.signed) (facts_at k selector) false

-- the value that bytes are, the lowest first
unfoldable pub value_from : Bool → List ℕ → ℤ
value_from signed bytes =
    let n = little_number (length bytes) bytes in
    if signed && nat_le (256 ^ length bytes / 2) n then negsuc (256 ^ length bytes - 1 - n) else pos n

-- ---- the rules

-- what the device keeps that a request may change
pub record RequestState : Type 0 where
  pub controls : List (Key × ℤ)
  pub settings : List InterfaceSetting

-- the rate at which an interface's streams run: that of its terminal's clock, if it has one
abbrev pub rate_at : FunctionFields → List (Key × ℤ) → StreamInterface → Option ℕ
rate_at function controls s = option_and_then (λ e. rate_of function.entities controls e.clock) (entity_by_id function.entities s.terminal)

-- a setting of a streaming interface is valid: it is 0, or can run at the rate now
unfoldable pub is_valid : FunctionFields → List (Key × ℤ) → StreamInterface → ℕ → Bool
is_valid function controls s number =
    number == 0 || option_map_or (λ rate. is_some (stream_of function rate s.number number)) (rate_at function controls s) false

-- the interface has the setting; the control interface has 0 alone
unfoldable pub has_setting : FunctionFields → ℕ → ℕ → Bool
has_setting function interface number =
    if interface == function.control_interface then number == 0
    else option_map_or (λ s. list_any (λ t. t.number == number) s.settings) (interface_in function interface) false

abbrev pub is_empty : List ℕ → Bool
is_empty [] = true
is_empty (byte ∷ bytes) = false

-- the key of the control that wValue and wIndex name
abbrev pub key_named : Setup → Key
key_named p = key_of (high p.index) (high p.value) (low p.value)

-- what bytes that are sent say of a control
abbrev pub sent_value : Owner → ℕ → List ℕ → ℤ
sent_value (by_entity e) selector sent = value_from (is_signed e.kind selector) sent
sent_value (by_streaming_interface s) selector sent = value_from false sent

abbrev pub is_clock_control : Owner → Bool
is_clock_control (by_entity e) = is_clock e.kind
is_clock_control (by_streaming_interface s) = false

-- the bytes of a control; 0 where there is none
abbrev pub bytes_of : Owner → ℕ → ℕ
bytes_of owner selector = unwrap_or (width_of owner selector) 0

-- the control of this key has this value
abbrev pub has_value : List (Key × ℤ) → Key → ℤ → Bool
has_value controls k value = option_map_or (int_eq value) (value_of controls k) false

-- a setting that an interface has is valid; the control interface's is
abbrev pub can_hold : FunctionFields → List (Key × ℤ) → ℕ → ℕ → Bool
can_hold function controls interface setting =
    option_map_or (λ s. is_valid function controls s setting) (interface_in function interface) true

-- what keeps the control that a request names has this
abbrev pub is_so_of : FunctionFields → Setup → (Owner → Bool) → Bool
is_so_of function p test = option_map_or test (owner_of function p.index) false

-- Q1 (Audio Class 2.0, A.14; USB 2.0, 9.4): a request is one of the six
unfoldable pub breaks_q1 : Setup → Bool
breaks_q1 p = not (is_to_control p || (is_to_interface p || gets_descriptor p))

-- Q2 (5.2.2; USB 2.0, 9.4): a request to a control, whose interface is the low byte of wIndex, or to an interface, which is the whole
-- wIndex, names an interface of the function
unfoldable pub breaks_q2 : FunctionFields → Setup → Bool
breaks_q2 function p =
    (is_to_control p && not (has_interface function (low p.index))) || (is_to_interface p && not (has_interface function p.index))

-- Q3 (5.2.2): a request to a control names an entity on the control interface, and on a streaming interface none
unfoldable pub breaks_q3 : FunctionFields → Setup → Bool
breaks_q3 function p = is_to_control p && not (is_some (owner_of function p.index))

-- Q4 (5.2.5, 5.2.6; USB 2.0, 9.4.3): a request to a control names a selector that its kind has, one for ranges a selector that has ranges,
-- and one for a descriptor the configuration, which is the first of its type
unfoldable pub breaks_q4 : FunctionFields → Setup → Bool
breaks_q4 function p =
    (is_to_control p && is_so_of function p (λ o. not (is_some (width_of o (high p.value)))))
    || ((gets_range p && is_so_of function p (λ o. not (has_range o (high p.value)))) || (gets_descriptor p && not (p.value == 512)))

-- Q5 (4.7.2): a request to a control on a channel in range names one that is declared
unfoldable pub breaks_q5 : FunctionFields → Setup → Bool
breaks_q5 function p =
    is_to_control p
    && is_so_of function p (λ o. is_in_range function.entities o (low p.value) && not (is_declared o (high p.value) (low p.value)))

-- Q6 (5.2.2): a request to a control names a channel, or a node, in range
unfoldable pub breaks_q6 : FunctionFields → Setup → Bool
breaks_q6 function p = is_to_control p && is_so_of function p (λ o. not (is_in_range function.entities o (low p.value)))

-- Q7 (4.7.2): a request to set a control names one that a host may set
unfoldable pub breaks_q7 : FunctionFields → Setup → Bool
breaks_q7 function p = sets_cur p && is_so_of function p (λ o. not (is_writable o (high p.value) (low p.value)))

-- Q8 (USB 2.0, 9.3.5): a request that gets comes with no bytes; one to set a control announces as many bytes as the control has, and as
-- many come; one to set an interface announces none, and none come
unfoldable pub breaks_q8 : FunctionFields → Setup → List ℕ → Bool
breaks_q8 function p sent =
    (is_get p && not (is_empty sent))
    || ((sets_cur p && is_so_of function p (λ o. not (p.length == bytes_of o (high p.value) && length sent == bytes_of o (high p.value))))
    || (sets_interface p && not (p.length == 0 && is_empty sent)))

-- Q9 (5.2.1): a request to set a control sends a value that is legal for it
unfoldable pub breaks_q9 : FunctionFields → RequestState → Setup → List ℕ → Bool
breaks_q9 function held p sent =
    sets_cur p
    && is_so_of function p (λ o. not (is_legal function.entities held.controls (key_named p) (sent_value o (high p.value) sent)))

-- Q10 (profile): a request to set a clock's control sends the value that it has, while some interface is in a setting other than 0
unfoldable pub breaks_q10 : FunctionFields → RequestState → Setup → List ℕ → Bool
breaks_q10 function held p sent =
    sets_cur p
    && is_so_of function p (λ o. is_clock_control o
    && (is_running held.settings && not (has_value held.controls (key_named p) (sent_value o (high p.value) sent))))

-- Q11 (USB 2.0, 9.4.10): a request to set an interface names a setting that it has
unfoldable pub breaks_q11 : FunctionFields → Setup → Bool
breaks_q11 function p = sets_interface p && not (has_setting function p.index p.value)

-- Q12 (profile): a request to set an interface names a setting that is valid at the rate that its clock has
unfoldable pub breaks_q12 : FunctionFields → RequestState → Setup → Bool
breaks_q12 function held p = sets_interface p && not (can_hold function held.controls p.index p.value)

-- the first rule that a request breaks
unfoldable pub first_broken : FunctionFields → RequestState → Setup → List ℕ → Option ℕ
first_broken function held p sent =
    least (
    (1, breaks_q1 p)
    ∷ (2, breaks_q2 function p)
    ∷ (3, breaks_q3 function p)
    ∷ (4, breaks_q4 function p)
    ∷ (5, breaks_q5 function p)
    ∷ (6, breaks_q6 function p)
    ∷ (7, breaks_q7 function p)
    ∷ (8, breaks_q8 function p sent)
    ∷ (9, breaks_q9 function held p sent)
    ∷ (10, breaks_q10 function held p sent)
    ∷ (11, breaks_q11 function p)
    ∷ (12, breaks_q12 function held p)
    ∷ [])

-- ---- the answer

-- bytes, a piece of the configuration, that it is done, or the rule by which it is stalled
pub data AnswerFields : Type 0 where
  with_bytes : List ℕ → AnswerFields
  with_descriptor : ℕ → ℕ → AnswerFields
  is_done : AnswerFields
  is_stalled : ℕ → AnswerFields

-- whether the answer is that the request is done
abbrev pub is_done_answer : AnswerFields → Bool
is_done_answer (with_bytes bytes) = false
is_done_answer (with_descriptor from to) = false
is_done_answer is_done = true
is_done_answer (is_stalled rule) = false

-- an answer as what it tells
abbrev pub answer_fields : Answer → AnswerFields
answer_fields (told.Bytes reply) = with_bytes reply.items
answer_fields (told.Descriptor from to) = with_descriptor from to
answer_fields told.Done = is_done
answer_fields (told.Stall rule) = is_stalled rule

-- the value that is kept, in the control's bytes
abbrev pub kept_bytes : List (Key × ℤ) → Key → ℕ → List ℕ
kept_bytes controls k width = value_bytes width (unwrap_or (value_of controls k) (pos 0))

-- a terminal's connector is its cluster (5.2.5.4.2)
abbrev pub connector_bytes : Entity → List ℕ
connector_bytes e = e.cluster.channels ∷ (little_bytes 4 e.cluster.locations ++ e.cluster.names ∷ [])

-- a control's value in bytes: a clock source is always valid (5.2.5.1.2), a terminal's connector is its cluster, and each other control
-- keeps a value
abbrev pub control_bytes : Control → Entity → List (Key × ℤ) → Key → List ℕ
control_bytes control.SamplingFrequency e controls k = kept_bytes controls k (facts_of control.SamplingFrequency).width
control_bytes control.ClockValid e controls k = 1 ∷ []
control_bytes control.ClockSelector e controls k = kept_bytes controls k (facts_of control.ClockSelector).width
control_bytes control.Numerator e controls k = kept_bytes controls k (facts_of control.Numerator).width
control_bytes control.Denominator e controls k = kept_bytes controls k (facts_of control.Denominator).width
control_bytes control.Connector e controls k = connector_bytes e
control_bytes control.MixerNode e controls k = kept_bytes controls k (facts_of control.MixerNode).width
control_bytes control.Selector e controls k = kept_bytes controls k (facts_of control.Selector).width
control_bytes control.Mute e controls k = kept_bytes controls k (facts_of control.Mute).width
control_bytes control.Volume e controls k = kept_bytes controls k (facts_of control.Volume).width
control_bytes control.Enable e controls k = kept_bytes controls k (facts_of control.Enable).width

-- that of the control that a selector names; no bytes where it names none, which Q4 stalls
abbrev pub entity_bytes : EntityKind → Entity → List (Key × ℤ) → Key → List ℕ
entity_bytes k e controls key = option_map_or (λ c. control_bytes c e controls key) (control_of k key.selector) []

-- the bit of a setting by its number, where it is valid
abbrev pub valid_bit : FunctionFields → List (Key × ℤ) → StreamInterface → ℕ → ℕ
valid_bit function controls s number = if is_valid function controls s number then 2 ^ number else 0

abbrev pub valid_sum : FunctionFields → List (Key × ℤ) → StreamInterface → List Setting → ℕ
valid_sum function controls s settings = sum (map (λ t. valid_bit function controls s t.number) settings)

-- the valid settings: the number of bitmap bytes, and a bit for each setting by its number
unfoldable pub valid_bytes : FunctionFields → List (Key × ℤ) → StreamInterface → List ℕ
valid_bytes function controls s =
    map_bytes s ∷ little_bytes (map_bytes s) (valid_sum function controls s s.settings)

-- the value of a streaming interface's control in bytes (5.2.6): its active setting, or its valid settings
abbrev pub stream_control_bytes : StreamControl → FunctionFields → RequestState → StreamInterface → List ℕ
stream_control_bytes stream_control.ActiveSetting function held s = unwrap_or (setting_of held.settings s.number) 0 ∷ []
stream_control_bytes stream_control.ValidSettings function held s = valid_bytes function held.controls s

-- that of the control that a selector names; no bytes where it names none, which Q4 stalls
abbrev pub stream_bytes : FunctionFields → RequestState → StreamInterface → ℕ → List ℕ
stream_bytes function held s selector = option_map_or (λ c. stream_control_bytes c function held s) (stream_control_of selector) []

unfoldable pub cur_bytes : FunctionFields → RequestState → Setup → Owner → List ℕ
cur_bytes function held p (by_entity e) = entity_bytes e.kind e held.controls (key_named p)
cur_bytes function held p (by_streaming_interface s) = stream_bytes function held s (high p.value)

abbrev pub one_range_bytes : ℕ → Range → List ℕ
one_range_bytes width r = value_bytes width r.min ++ (value_bytes width r.max ++ value_bytes width r.res)

-- the number of subranges in two bytes, and of each the least value, the greatest and the step (5.2.3)
unfoldable pub range_bytes : ℕ → List Range → List ℕ
range_bytes width ranges =
    little_bytes 2 (length ranges) ++ flat_map (one_range_bytes width) ranges

-- the value of the control that a request names, and its ranges, in bytes
abbrev pub cur_named : FunctionFields → RequestState → Setup → List ℕ
cur_named function held p = option_map_or (cur_bytes function held p) (owner_of function p.index) []

abbrev pub ranges_named : FunctionFields → Setup → List ℕ
ranges_named function p =
    option_map_or (λ o. range_bytes (bytes_of o (high p.value)) (unwrap_or (ranges_of function.entities (key_named p)) []))
    (owner_of function p.index) []

-- what a request that breaks no rule is answered: a control's value or its ranges, and an interface's setting, cut at wLength; the
-- configuration up to wLength; or that it is done
unfoldable pub unbroken_reply : FunctionFields → RequestState → Setup → AnswerFields
unbroken_reply function held p =
    if gets_cur p then with_bytes (take p.length (cur_named function held p))
    else if gets_range p then with_bytes (take p.length (ranges_named function p))
    else if gets_descriptor p then with_descriptor 0 (if nat_le p.length function.total then p.length else function.total)
    else if gets_interface p then with_bytes (take p.length (unwrap_or (setting_of held.settings p.index) 0 ∷ []))
    else is_done

-- the controls with the one that a request names set to what it sends
abbrev pub controls_set : FunctionFields → RequestState → Setup → List ℕ → List (Key × ℤ)
controls_set function held p sent =
    option_map_or (λ o. with_value held.controls (key_named p) (sent_value o (high p.value) sent)) (owner_of function p.index) held.controls

-- what it leaves: a value that is set is held, and so is a setting
unfoldable pub left_by : FunctionFields → RequestState → Setup → List ℕ → RequestState
left_by function held p sent =
    if sets_cur p then record held { controls = controls_set function held p sent }
    else if sets_interface p then record held { settings = with_setting held.settings p.index p.value }
    else held

-- the answer to a request: the rule that it breaks first, where it breaks one
unfoldable pub reply_of : FunctionFields → RequestState → Setup → List ℕ → AnswerFields
reply_of function held p sent = option_map_or is_stalled (first_broken function held p sent) (unbroken_reply function held p)

-- what the device keeps after it: a stalled request changes nothing
unfoldable pub after_request : FunctionFields → RequestState → Setup → List ℕ → RequestState
after_request function held p sent = if is_some (first_broken function held p sent) then held else left_by function held p sent

-- each interface of the function, and no other, has a setting
abbrev pub AreSettingsOf : FunctionFields → List InterfaceSetting → Type 0
AreSettingsOf function settings = (number : ℕ) → is_some (setting_of settings number) ≡ has_interface function number

-- each interface is in setting 0, or in one of a streaming interface that is valid
abbrev pub AreValidSettings : FunctionFields → RequestState → Type 0
AreValidSettings function held =
    (interface setting : ℕ) → setting_of held.settings interface ≡ Some setting
    → (setting == 0 || option_map_or (λ s. is_valid function held.controls s setting) (interface_in function interface) false) ≡ true

-- the controls' values and the settings, as what the device keeps
abbrev pub request_state : List (Key × ℤ) → List InterfaceSetting → RequestState
request_state controls settings = record { controls = controls; settings = settings }
