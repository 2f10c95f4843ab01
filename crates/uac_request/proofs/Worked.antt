-- Worked answers: a headset's, to requests byte by byte.
use Rattle.std.proofs.Common.{◌≡◌, ℕ, ℤ, pos, negsuc, List, [], ◌∷◌, map, drop, get_or, Some, None, unwrap_or, true, false, refl}
use Rattle.std.specs.List.{range_with_len}
use Rattle.byteorder.specs.Endian.{little_number}
use Rattle.uac_entities.specs.declared.entity.Entity.{Entity}
use Rattle.uac_entities.specs.declared.entity.EntityKind.{EntityKind}
use Rattle.uac_entities.specs.declared.entity.EntityKind.TheVariants as kind
use Rattle.uac_entities.specs.declared.stream.Setting.{Setting}
use Rattle.uac_entities.specs.declared.stream.StreamInterface.{StreamInterface}
use Rattle.uac_entities.specs.EntityInterfaces.{channels_of, entity_by_id}
use Rattle.uac_clock.specs.Nominal.{nominal_of, values_of}
use Rattle.uac_gain.specs.Gain.{decibel_gain, raised_gain}
use Rattle.uac_topology.specs.Function.{FunctionFields}
use Rattle.uac_store.specs.Keyed.{key_of, value_of, with_value}
use Rattle.uac_store.specs.StoreControls.{channel_controls, controls_of, count_of, first_channels, has_on, initial_controls, start_of, takes, takes_on}
use Rattle.uac_store.specs.Rates.{rate_of, rate_step, rate_within, source_rate}
use Rattle.uac_store.specs.Selectors.{CS_SAM_FREQ_CONTROL, CS_CLOCK_VALID_CONTROL, CX_CLOCK_SELECTOR_CONTROL, CM_NUMERATOR_CONTROL, CM_DENOMINATOR_CONTROL, TE_CONNECTOR_CONTROL, MU_MIXER_CONTROL, SU_SELECTOR_CONTROL, FU_MUTE_CONTROL, FU_VOLUME_CONTROL, EU_ENABLE_CONTROL}
use Rattle.uac_store.specs.StoreValues.{are_clocked, is_legal, ranges_of}
use Rattle.uac_alt.specs.AltSettings.{initial_settings, setting_of, with_setting}
use Rattle.uac_alt.specs.AltStreams.{can_run, linked_channels, stream_at, stream_of}
use Rattle.uac_request.specs.Requests.{RequestState, AnswerFields, with_bytes, with_descriptor, is_done, is_stalled, after_request, unbroken_reply, breaks_q1, breaks_q2, breaks_q3, breaks_q4, breaks_q5, breaks_q6, breaks_q7, breaks_q8, breaks_q9, breaks_q10, breaks_q11, breaks_q12, cur_bytes, entity_bytes, entity_width, first_broken, has_setting, is_signed, is_valid, left_by, node_bit, owner_of, range_bytes, reply_of, setup_of, valid_bytes, value_bytes, value_from}

abbrev with : ℕ → EntityKind → ℕ → List ℕ → ℕ → ℕ → ℕ → List ℕ → Entity
with id k type sources clock channels locations controls =
    record { id = id; kind = k; terminal_type = type; sources = sources; clock = clock; cluster = record { channels = channels; locations = locations; names = 0 }; controls = controls; mix_bits = []; attributes = 3 }

entities : List Entity
entities =
    with 1 kind.ClockSource 0 [] 0 0 0 (7 ∷ [])
    ∷ with 2 kind.InputTerminal 257 [] 1 2 3 (0 ∷ [])
    ∷ with 3 kind.Feature 0 (2 ∷ []) 0 2 3 (3 ∷ 12 ∷ 12 ∷ [])
    ∷ with 4 kind.OutputTerminal 769 (3 ∷ []) 1 2 3 (0 ∷ [])
    ∷ with 5 kind.InputTerminal 513 [] 1 1 0 (0 ∷ [])
    ∷ with 6 kind.Feature 0 (5 ∷ []) 0 1 0 (3 ∷ 12 ∷ [])
    ∷ with 7 kind.OutputTerminal 257 (6 ∷ []) 1 1 0 (0 ∷ [])
    ∷ []

abbrev idle : Setting
idle = record { number = 0; general = None; format = None; first = None; second = None }

-- the stream to the device, with an endpoint of this size, and the one from it
abbrev out_setting : ℕ → Setting
out_setting size =
    record {
      number = 1;
      general = Some (record { link = 2; controls = 5; format_type = 1; formats = 1; channels = 2; locations = 3; names = 0 });
      format = Some (record { subslot = 3; bits = 24 });
      first = Some (record { address = 1; attributes = 5; max_packet = size; interval = 1 });
      second = Some (record { address = 129; attributes = 17; max_packet = 4; interval = 4 });
    }

abbrev in_setting : Setting
in_setting =
    record {
      number = 1;
      general = Some (record { link = 7; controls = 5; format_type = 1; formats = 1; channels = 1; locations = 0; names = 0 });
      format = Some (record { subslot = 2; bits = 16 });
      first = Some (record { address = 130; attributes = 5; max_packet = 50; interval = 1 });
      second = None;
    }

headset : ℕ → FunctionFields
headset size =
    record {
      entities = entities;
      domains = 1 ∷ [];
      streams = record { number = 1; terminal = 2; out = true; settings = idle ∷ out_setting size ∷ [] } ∷ record { number = 2; terminal = 7; out = false; settings = idle ∷ in_setting ∷ [] } ∷ [];
      control_interface = 0;
      total = 275;
    }

-- ---- the answers, by request and rule

at_start : RequestState
at_start = record { controls = initial_controls entities; settings = initial_settings (headset 150) }

first : List ℕ → List ℕ → AnswerFields
first bytes sent = reply_of (headset 150) at_start (setup_of bytes) sent

-- the first three rules
no_request : first (192 ∷ 0 ∷ 0 ∷ 0 ∷ 0 ∷ 0 ∷ 0 ∷ 0 ∷ []) [] ≡ is_stalled 1
unfolding first reply_of first_broken breaks_q1 breaks_q2 breaks_q3 breaks_q4 breaks_q5 breaks_q6 breaks_q7 breaks_q8 breaks_q9 breaks_q10 breaks_q11 breaks_q12
no_request = refl

no_interface : first (161 ∷ 1 ∷ 1 ∷ 2 ∷ 9 ∷ 3 ∷ 2 ∷ 0 ∷ []) [] ≡ is_stalled 2
unfolding first reply_of headset first_broken breaks_q1 breaks_q2 breaks_q3 breaks_q4 breaks_q5 breaks_q6 breaks_q7 breaks_q8 breaks_q9 breaks_q10 breaks_q11 breaks_q12
no_interface = refl

no_entity : first (161 ∷ 1 ∷ 1 ∷ 2 ∷ 0 ∷ 9 ∷ 2 ∷ 0 ∷ []) [] ≡ is_stalled 3
unfolding first reply_of headset owner_of entities entity_by_id first_broken breaks_q1 breaks_q2 breaks_q3 breaks_q4 breaks_q5 breaks_q6 breaks_q7 breaks_q8 breaks_q9 breaks_q10 breaks_q11 breaks_q12
no_entity = refl

-- a mute has no range
no_range : first (161 ∷ 2 ∷ 0 ∷ 1 ∷ 0 ∷ 3 ∷ 2 ∷ 0 ∷ []) [] ≡ is_stalled 4
unfolding first reply_of headset owner_of entities entity_by_id count_of first_broken breaks_q1 breaks_q2 breaks_q3 breaks_q4 breaks_q5 breaks_q6 breaks_q7 breaks_q8 breaks_q9 breaks_q10 breaks_q11 breaks_q12
no_range = refl

-- the master's volume isn't declared, and there is no third channel
undeclared : first (161 ∷ 1 ∷ 0 ∷ 2 ∷ 0 ∷ 3 ∷ 2 ∷ 0 ∷ []) [] ≡ is_stalled 5
unfolding first reply_of headset owner_of entities entity_by_id count_of first_broken breaks_q1 breaks_q2 breaks_q3 breaks_q4 breaks_q5 breaks_q6 breaks_q7 breaks_q8 breaks_q9 breaks_q10 breaks_q11 breaks_q12
undeclared = refl

past_the_channels : first (161 ∷ 1 ∷ 3 ∷ 2 ∷ 0 ∷ 3 ∷ 2 ∷ 0 ∷ []) [] ≡ is_stalled 6
unfolding first reply_of headset owner_of entities entity_by_id count_of first_broken breaks_q1 breaks_q2 breaks_q3 breaks_q4 breaks_q5 breaks_q6 breaks_q7 breaks_q8 breaks_q9 breaks_q10 breaks_q11 breaks_q12
past_the_channels = refl

-- a clock's validity can't be set, and a volume has two bytes
read_only : first (33 ∷ 1 ∷ 0 ∷ 2 ∷ 0 ∷ 1 ∷ 1 ∷ 0 ∷ []) (1 ∷ []) ≡ is_stalled 7
unfolding first reply_of headset owner_of entities entity_by_id count_of first_broken breaks_q1 breaks_q2 breaks_q3 breaks_q4 breaks_q5 breaks_q6 breaks_q7 breaks_q8 breaks_q9 breaks_q10 breaks_q11 breaks_q12
read_only = refl

one_byte : first (33 ∷ 1 ∷ 1 ∷ 2 ∷ 0 ∷ 3 ∷ 2 ∷ 0 ∷ []) (0 ∷ []) ≡ is_stalled 8
unfolding first reply_of headset owner_of entities entity_by_id count_of first_broken breaks_q1 breaks_q2 breaks_q3 breaks_q4 breaks_q5 breaks_q6 breaks_q7 breaks_q8 breaks_q9 breaks_q10 breaks_q11 breaks_q12
one_byte = refl

-- the range of a volume, cut at the length that is asked for
range_cut : first (161 ∷ 2 ∷ 1 ∷ 2 ∷ 0 ∷ 3 ∷ 2 ∷ 0 ∷ []) [] ≡ with_bytes (2 ∷ 0 ∷ [])
unfolding first reply_of headset owner_of entities entity_by_id count_of unbroken_reply range_bytes ranges_of has_on value_bytes first_broken breaks_q1 breaks_q2 breaks_q3 breaks_q4 breaks_q5 breaks_q6 breaks_q7 breaks_q8 breaks_q9 breaks_q10 breaks_q11 breaks_q12
range_cut = refl

range_half : first (161 ∷ 2 ∷ 1 ∷ 2 ∷ 0 ∷ 3 ∷ 8 ∷ 0 ∷ []) [] ≡ with_bytes (2 ∷ 0 ∷ 0 ∷ 160 ∷ 0 ∷ 223 ∷ 0 ∷ 1 ∷ [])
unfolding first reply_of headset owner_of entities entity_by_id count_of unbroken_reply range_bytes ranges_of has_on value_bytes first_broken breaks_q1 breaks_q2 breaks_q3 breaks_q4 breaks_q5 breaks_q6 breaks_q7 breaks_q8 breaks_q9 breaks_q10 breaks_q11 breaks_q12
range_half = refl

range_whole : first (161 ∷ 2 ∷ 1 ∷ 2 ∷ 0 ∷ 3 ∷ 14 ∷ 0 ∷ []) []
    ≡ with_bytes (2 ∷ 0 ∷ 0 ∷ 160 ∷ 0 ∷ 223 ∷ 0 ∷ 1 ∷ 0 ∷ 224 ∷ 0 ∷ 12 ∷ 128 ∷ 0 ∷ [])
unfolding first reply_of headset owner_of entities entity_by_id count_of unbroken_reply range_bytes ranges_of has_on value_bytes first_broken breaks_q1 breaks_q2 breaks_q3 breaks_q4 breaks_q5 breaks_q6 breaks_q7 breaks_q8 breaks_q9 breaks_q10 breaks_q11 breaks_q12
range_whole = refl

-- a setting's map and the active setting of interface 1
valid_settings : first (161 ∷ 1 ∷ 0 ∷ 2 ∷ 1 ∷ 0 ∷ 2 ∷ 0 ∷ []) [] ≡ with_bytes (1 ∷ 3 ∷ [])
unfolding first at_start reply_of headset owner_of entities entity_by_id unbroken_reply cur_bytes valid_bytes is_valid stream_of stream_at can_run linked_channels channels_of rate_of rate_within rate_step source_rate value_of initial_controls controls_of channel_controls first_channels count_of start_of nominal_of values_of first_broken breaks_q1 breaks_q2 breaks_q3 breaks_q4 breaks_q5 breaks_q6 breaks_q7 breaks_q8 breaks_q9 breaks_q10 breaks_q11 breaks_q12
valid_settings = refl

active_setting : first (161 ∷ 1 ∷ 0 ∷ 1 ∷ 1 ∷ 0 ∷ 1 ∷ 0 ∷ []) [] ≡ with_bytes (0 ∷ [])
unfolding first at_start reply_of headset owner_of entities entity_by_id unbroken_reply cur_bytes setting_of initial_settings first_broken breaks_q1 breaks_q2 breaks_q3 breaks_q4 breaks_q5 breaks_q6 breaks_q7 breaks_q8 breaks_q9 breaks_q10 breaks_q11 breaks_q12
active_setting = refl

-- the configuration's first nine bytes, and the setting of interface 1
descriptor : first (128 ∷ 6 ∷ 0 ∷ 2 ∷ 0 ∷ 0 ∷ 9 ∷ 0 ∷ []) [] ≡ with_descriptor 0 9
unfolding first reply_of headset unbroken_reply first_broken breaks_q1 breaks_q2 breaks_q3 breaks_q4 breaks_q5 breaks_q6 breaks_q7 breaks_q8 breaks_q9 breaks_q10 breaks_q11 breaks_q12
descriptor = refl

interface : first (129 ∷ 10 ∷ 0 ∷ 0 ∷ 1 ∷ 0 ∷ 1 ∷ 0 ∷ []) [] ≡ with_bytes (0 ∷ [])
unfolding first at_start reply_of headset unbroken_reply setting_of initial_settings first_broken breaks_q1 breaks_q2 breaks_q3 breaks_q4 breaks_q5 breaks_q6 breaks_q7 breaks_q8 breaks_q9 breaks_q10 breaks_q11 breaks_q12
interface = refl

-- a volume between two steps isn't legal, half a decibel and silence are
between_steps : first (33 ∷ 1 ∷ 1 ∷ 2 ∷ 0 ∷ 3 ∷ 2 ∷ 0 ∷ []) (64 ∷ 0 ∷ []) ≡ is_stalled 9
unfolding first at_start reply_of headset owner_of entities entity_by_id count_of value_from is_legal takes takes_on decibel_gain first_broken breaks_q1 breaks_q2 breaks_q3 breaks_q4 breaks_q5 breaks_q6 breaks_q7 breaks_q8 breaks_q9 breaks_q10 breaks_q11 breaks_q12
between_steps = refl

half_a_decibel : first (33 ∷ 1 ∷ 1 ∷ 2 ∷ 0 ∷ 3 ∷ 2 ∷ 0 ∷ []) (128 ∷ 0 ∷ []) ≡ is_done
unfolding first at_start reply_of headset owner_of entities entity_by_id count_of value_from is_legal takes takes_on decibel_gain raised_gain unbroken_reply first_broken breaks_q1 breaks_q2 breaks_q3 breaks_q4 breaks_q5 breaks_q6 breaks_q7 breaks_q8 breaks_q9 breaks_q10 breaks_q11 breaks_q12
half_a_decibel = refl

silenced : first (33 ∷ 1 ∷ 1 ∷ 2 ∷ 0 ∷ 3 ∷ 2 ∷ 0 ∷ []) (0 ∷ 128 ∷ []) ≡ is_done
unfolding first at_start reply_of headset owner_of entities entity_by_id count_of value_from is_legal takes takes_on decibel_gain unbroken_reply first_broken breaks_q1 breaks_q2 breaks_q3 breaks_q4 breaks_q5 breaks_q6 breaks_q7 breaks_q8 breaks_q9 breaks_q10 breaks_q11 breaks_q12
silenced = refl

-- a setting that isn't there, and one that is
no_setting : first (1 ∷ 11 ∷ 2 ∷ 0 ∷ 1 ∷ 0 ∷ 0 ∷ 0 ∷ []) [] ≡ is_stalled 11
unfolding first reply_of headset has_setting first_broken breaks_q1 breaks_q2 breaks_q3 breaks_q4 breaks_q5 breaks_q6 breaks_q7 breaks_q8 breaks_q9 breaks_q10 breaks_q11 breaks_q12
no_setting = refl

started : RequestState
started = after_request (headset 150) at_start (setup_of (1 ∷ 11 ∷ 1 ∷ 0 ∷ 1 ∷ 0 ∷ 0 ∷ 0 ∷ [])) []

runs : setting_of started.settings 1 ≡ Some 1
unfolding started after_request at_start headset has_setting is_valid stream_of stream_at can_run linked_channels channels_of entities entity_by_id rate_of rate_within rate_step source_rate value_of initial_controls controls_of channel_controls first_channels count_of start_of nominal_of values_of left_by setting_of with_setting initial_settings first_broken breaks_q1 breaks_q2 breaks_q3 breaks_q4 breaks_q5 breaks_q6 breaks_q7 breaks_q8 breaks_q9 breaks_q10 breaks_q11 breaks_q12
runs = refl

-- while it runs, its clock's rate can't change
rate_held : reply_of (headset 150) started (setup_of (33 ∷ 1 ∷ 0 ∷ 1 ∷ 0 ∷ 1 ∷ 4 ∷ 0 ∷ [])) (68 ∷ 172 ∷ 0 ∷ 0 ∷ []) ≡ is_stalled 10
unfolding reply_of started after_request at_start headset has_setting is_valid stream_of stream_at can_run linked_channels channels_of entities entity_by_id owner_of value_from is_legal takes takes_on are_clocked with_value rate_of rate_within rate_step source_rate value_of initial_controls controls_of channel_controls first_channels count_of start_of nominal_of values_of left_by setting_of with_setting initial_settings first_broken breaks_q1 breaks_q2 breaks_q3 breaks_q4 breaks_q5 breaks_q6 breaks_q7 breaks_q8 breaks_q9 breaks_q10 breaks_q11 breaks_q12
rate_held = refl

-- an endpoint of 144 bytes is too small at 192,000 Hz
fast : RequestState
fast = after_request (headset 144) at_start (setup_of (33 ∷ 1 ∷ 0 ∷ 1 ∷ 0 ∷ 1 ∷ 4 ∷ 0 ∷ [])) (0 ∷ 238 ∷ 2 ∷ 0 ∷ [])

too_small : reply_of (headset 144) fast (setup_of (1 ∷ 11 ∷ 1 ∷ 0 ∷ 1 ∷ 0 ∷ 0 ∷ 0 ∷ [])) [] ≡ is_stalled 12
unfolding reply_of fast after_request at_start headset has_setting is_valid stream_of stream_at can_run linked_channels channels_of entities entity_by_id owner_of value_from is_legal takes takes_on are_clocked with_value rate_of rate_within rate_step source_rate value_of initial_controls controls_of channel_controls first_channels count_of start_of nominal_of values_of left_by setting_of with_setting initial_settings first_broken breaks_q1 breaks_q2 breaks_q3 breaks_q4 breaks_q5 breaks_q6 breaks_q7 breaks_q8 breaks_q9 breaks_q10 breaks_q11 breaks_q12
too_small = refl

-- ---- values as bytes, both ways

-- a value of a kind's control in its bytes, and the value that bytes are to it
abbrev sent_as : EntityKind → ℕ → ℤ → List ℕ
sent_as k selector v = value_bytes (unwrap_or (entity_width k selector) 0) v

abbrev read_as : EntityKind → ℕ → List ℕ → ℤ
read_as k selector bytes = value_from (is_signed k selector) bytes

-- a frequency of 48,000 Hz
frequency_out : sent_as kind.ClockSource CS_SAM_FREQ_CONTROL (pos 48000) ≡ 128 ∷ 187 ∷ 0 ∷ 0 ∷ []
unfolding value_bytes
frequency_out = refl

frequency_in : read_as kind.ClockSource CS_SAM_FREQ_CONTROL (128 ∷ 187 ∷ 0 ∷ 0 ∷ []) ≡ pos 48000
unfolding value_from
frequency_in = refl

-- a clock's validity is always 1
validity_told : (e : Entity) → entity_bytes kind.ClockSource e [] (key_of 1 CS_CLOCK_VALID_CONTROL 0) ≡ 1 ∷ []
validity_told e = refl

validity_out : sent_as kind.ClockSource CS_CLOCK_VALID_CONTROL (pos 1) ≡ 1 ∷ []
unfolding value_bytes
validity_out = refl

validity_in : read_as kind.ClockSource CS_CLOCK_VALID_CONTROL (1 ∷ []) ≡ pos 1
unfolding value_from
validity_in = refl

-- a clock's second pin, a numerator of 8 and a denominator of 3
clock_pin_out : sent_as kind.ClockSelector CX_CLOCK_SELECTOR_CONTROL (pos 2) ≡ 2 ∷ []
unfolding value_bytes
clock_pin_out = refl

clock_pin_in : read_as kind.ClockSelector CX_CLOCK_SELECTOR_CONTROL (2 ∷ []) ≡ pos 2
unfolding value_from
clock_pin_in = refl

numerator_out : sent_as kind.ClockMultiplier CM_NUMERATOR_CONTROL (pos 8) ≡ 8 ∷ 0 ∷ []
unfolding value_bytes
numerator_out = refl

numerator_in : read_as kind.ClockMultiplier CM_NUMERATOR_CONTROL (8 ∷ 0 ∷ []) ≡ pos 8
unfolding value_from
numerator_in = refl

denominator_out : sent_as kind.ClockMultiplier CM_DENOMINATOR_CONTROL (pos 3) ≡ 3 ∷ 0 ∷ []
unfolding value_bytes
denominator_out = refl

denominator_in : read_as kind.ClockMultiplier CM_DENOMINATOR_CONTROL (3 ∷ 0 ∷ []) ≡ pos 3
unfolding value_from
denominator_in = refl

-- a terminal's connector is its cluster: eight channels, their locations 0x063F, low byte first, and the names from string 5 on
connector : List ℕ
connector = 8 ∷ 63 ∷ 6 ∷ 0 ∷ 0 ∷ 5 ∷ []

abbrev eight : Entity
eight = record (with 2 kind.InputTerminal 513 [] 1 8 1599 (4 ∷ [])) { cluster = record { channels = 8; locations = 1599; names = 5 } }

connector_out : entity_bytes kind.InputTerminal eight [] (key_of 2 TE_CONNECTOR_CONTROL 0) ≡ connector
unfolding connector
connector_out = refl

connector_in : (get_or connector 0 0 ≡ 8) × (little_number 4 (drop 1 connector) ≡ 1599) × (get_or connector 5 0 ≡ 5)
unfolding connector
connector_in = (refl, refl, refl)

-- a silent node, and one of -1 dB
silent_node_out : sent_as kind.Mixer MU_MIXER_CONTROL (negsuc 32767) ≡ 0 ∷ 128 ∷ []
unfolding value_bytes
silent_node_out = refl

silent_node_in : read_as kind.Mixer MU_MIXER_CONTROL (0 ∷ 128 ∷ []) ≡ negsuc 32767
unfolding value_from
silent_node_in = refl

low_node_in : read_as kind.Mixer MU_MIXER_CONTROL (0 ∷ 255 ∷ []) ≡ negsuc 255
unfolding value_from
low_node_in = refl

-- a pin, a mute, a volume of -6 dB and one of 0.5 dB, and an enable
pin_out : sent_as kind.Selector SU_SELECTOR_CONTROL (pos 3) ≡ 3 ∷ []
unfolding value_bytes
pin_out = refl

pin_in : read_as kind.Selector SU_SELECTOR_CONTROL (3 ∷ []) ≡ pos 3
unfolding value_from
pin_in = refl

mute_out : sent_as kind.Feature FU_MUTE_CONTROL (pos 1) ≡ 1 ∷ []
unfolding value_bytes
mute_out = refl

mute_in : read_as kind.Feature FU_MUTE_CONTROL (1 ∷ []) ≡ pos 1
unfolding value_from
mute_in = refl

volume_out : sent_as kind.Feature FU_VOLUME_CONTROL (negsuc 1535) ≡ 0 ∷ 250 ∷ []
unfolding value_bytes
volume_out = refl

volume_in : read_as kind.Feature FU_VOLUME_CONTROL (0 ∷ 250 ∷ []) ≡ negsuc 1535
unfolding value_from
volume_in = refl

raised_volume_in : read_as kind.Feature FU_VOLUME_CONTROL (128 ∷ 0 ∷ []) ≡ pos 128
unfolding value_from
raised_volume_in = refl

enable_out : sent_as kind.Effect EU_ENABLE_CONTROL (pos 1) ≡ 1 ∷ []
unfolding value_bytes
enable_out = refl

enable_in : read_as kind.Effect EU_ENABLE_CONTROL (1 ∷ []) ≡ pos 1
unfolding value_from
enable_in = refl

-- ---- bitmaps

-- of the bytes FF 80 the first nine nodes are set
nodes : map (node_bit (255 ∷ 128 ∷ [])) (range_with_len 0 11) ≡ 1 ∷ 1 ∷ 1 ∷ 1 ∷ 1 ∷ 1 ∷ 1 ∷ 1 ∷ 1 ∷ 0 ∷ 0 ∷ []
nodes = refl

abbrev numbered : ℕ → Setting
numbered number = record idle { number = number }

-- of nine settings 0, 1 and 8 are valid: two bytes of bits, the low one first
nine_settings : StreamInterface
nine_settings =
    record {
      number = 1;
      terminal = 2;
      out = true;
      settings = idle ∷ out_setting 150 ∷ numbered 2 ∷ numbered 3 ∷ numbered 4 ∷ numbered 5 ∷ numbered 6 ∷ numbered 7 ∷ (record (out_setting 150) { number = 8 }) ∷ [];
    }

two_byte_map : valid_bytes (record (headset 150) { streams = nine_settings ∷ [] }) (initial_controls entities) nine_settings ≡ 2 ∷ 3 ∷ 1 ∷ []
unfolding nine_settings valid_bytes is_valid stream_of stream_at can_run linked_channels channels_of headset entities entity_by_id rate_of rate_within rate_step source_rate value_of initial_controls controls_of channel_controls first_channels count_of start_of nominal_of values_of
two_byte_map = refl
