-- Worked examples: a headset with a front panel (the document on controls tells them line by line).
use Rattle.std.proofs.Common.{◌≡◌, ℕ, ℤ, pos, negsuc, List, [], ◌∷◌, map, Option, Some, None, true, false, refl}
use Rattle.uac_entities.specs.declared.entity.Entity.{Entity}
use Rattle.uac_entities.specs.declared.entity.EntityKind.{EntityKind}
use Rattle.uac_entities.specs.declared.entity.EntityKind.TheVariants as kind
use Rattle.uac_entities.specs.declared.stream.Setting.{Setting}
use Rattle.uac_entities.specs.EntityInterfaces.{entity_by_id}
use Rattle.uac_topology.specs.Function.{FunctionFields}
use Rattle.uac_store.specs.declared.keys.Key.{Key}
use Rattle.uac_store.specs.Keyed.{key_of, value_of, with_value}
use Rattle.uac_store.specs.StoreControls.{channel_controls, controls_of, count_of, first_channels, has_on, initial_controls, start_of, takes, takes_on}
use Rattle.uac_store.specs.StoreValues.{is_legal}
use Rattle.uac_request.specs.Requests.{after_request, unbroken_reply, breaks_q1, breaks_q2, breaks_q3, breaks_q4, breaks_q5, breaks_q6, breaks_q7, breaks_q8, breaks_q9, breaks_q10, breaks_q11, breaks_q12, cur_bytes, first_broken, left_by, owner_of, reply_of, value_bytes, value_from}
use Rattle.uac_request.specs.RequestElements as keyed
use Rattle.uac_mixer.specs.MixerElements.{element_list, entity_elements, control_elements, name_of}
use Rattle.uac_mixer.specs.ViewTransfers.{is_for, value_after, view_after}
use Rattle.uac_mixer.specs.ViewWorld.{known_view}
use Rattle.uac_mixer.specs.declared.element.Element.{Element}
use Rattle.uac_mixer.specs.declared.kinds.ElementKind.TheVariants as shown
use Rattle.uac_transcript.specs.Transcript.{element_has_value, says_view, was_broken}
use Rattle.uac_status.specs.Messages.{message_of}
use Rattle.uac_status.specs.Knobs.{with_pending, knob_changes, knob_rests, knob_stalls}
use Rattle.uac_status.specs.Panels.{PanelWorld, panel_start, panel_transfer, panel_outcome, panel_breaking, turned, followed, all_followed}
use Rattle.uac_status.specs.PanelLines.{PanelLine, says_line, says_message, says_none, all_told, following_told}

abbrev with : ℕ → EntityKind → ℕ → List ℕ → ℕ → ℕ → ℕ → List ℕ → Entity
with id k type sources clock channels locations controls =
    record { id = id; kind = k; terminal_type = type; sources = sources; clock = clock; cluster = record { channels = channels; locations = locations; names = 0 }; controls = controls; mix_bits = []; attributes = 3 }

entities : List Entity
entities =
    with 1 kind.ClockSource 0 [] 0 0 0 (7 ∷ [])
    ∷ with 2 kind.InputTerminal 257 [] 1 2 3 (0 ∷ [])
    ∷ with 3 kind.Feature 0 (2 ∷ []) 0 2 3 (3 ∷ 12 ∷ 12 ∷ [])
    ∷ with 4 kind.OutputTerminal 769 (3 ∷ []) 1 2 3 (0 ∷ [])
    ∷ with 5 kind.InputTerminal 513 [] 1 1 0 (0 ∷ [])
    ∷ with 6 kind.Feature 0 (5 ∷ []) 0 1 0 (3 ∷ 12 ∷ [])
    ∷ with 7 kind.OutputTerminal 257 (6 ∷ []) 1 1 0 (0 ∷ [])
    ∷ []

abbrev idle : Setting
idle = record { number = 0; general = None; format = None; first = None; second = None }

-- the stream to the device, with an endpoint of this size, and the one from it
abbrev out_setting : ℕ → Setting
out_setting size =
    record {
      number = 1;
      general = Some (record { link = 2; controls = 5; format_type = 1; formats = 1; channels = 2; locations = 3; names = 0 });
      format = Some (record { subslot = 3; bits = 24 });
      first = Some (record { address = 1; attributes = 5; max_packet = size; interval = 1 });
      second = Some (record { address = 129; attributes = 17; max_packet = 4; interval = 4 });
    }

abbrev in_setting : Setting
in_setting =
    record {
      number = 1;
      general = Some (record { link = 7; controls = 5; format_type = 1; formats = 1; channels = 1; locations = 0; names = 0 });
      format = Some (record { subslot = 2; bits = 16 });
      first = Some (record { address = 130; attributes = 5; max_packet = 50; interval = 1 });
      second = None;
    }

headset : ℕ → FunctionFields
headset size =
    record {
      entities = entities;
      domains = 1 ∷ [];
      streams = record { number = 1; terminal = 2; out = true; settings = idle ∷ out_setting size ∷ [] } ∷ record { number = 2; terminal = 7; out = false; settings = idle ∷ in_setting ∷ [] } ∷ [];
      control_interface = 0;
      total = 275;
    }

-- ---- the panel

abbrev at_start : PanelWorld
at_start = panel_start (headset 150)

-- rate.1.0, mute.3.0, volume.3.1, volume.3.2, mute.6.0 and volume.6.1
known_of : PanelWorld → List (Option ℤ)
known_of w = map (λ x. x.value) w.view.elements

abbrev master_mute : Key
master_mute = key_of 3 1 0

abbrev left_volume : Key
left_volume = key_of 3 2 1

follow_all : PanelWorld → PanelWorld
follow_all w = all_followed w.pending w

follow_told : PanelWorld → List PanelLine
follow_told w = following_told w.pending w

-- the two elements, as a view has them that doesn't know their values
abbrev mute_element : Element
mute_element = record { key = master_mute; kind = shown.Mute; writable = true; value = None }

abbrev volume_element : Element
volume_element = record { key = left_volume; kind = shown.Volume; writable = true; value = None }

all_known : known_of at_start ≡ Some (pos 48000) ∷ Some (pos 0) ∷ Some (pos 0) ∷ Some (pos 0) ∷ Some (pos 0) ∷ Some (pos 0) ∷ []
unfolding known_of panel_start known_view element_list entity_elements control_elements headset entities turned followed all_followed all_told panel_breaking panel_transfer view_after value_after is_for with_pending keyed.set_of keyed.get_of reply_of unbroken_reply after_request first_broken owner_of entity_by_id count_of has_on initial_controls controls_of channel_controls first_channels start_of takes takes_on value_bytes value_from value_of is_legal cur_bytes left_by with_value breaks_q1 breaks_q2 breaks_q3 breaks_q4 breaks_q5 breaks_q6 breaks_q7 breaks_q8 breaks_q9 breaks_q10 breaks_q11 breaks_q12
all_known = refl

-- a knob is turned: that changes the control, a message waits, and the host still knows the old value
abbrev one_turned : PanelWorld
one_turned = turned left_volume (negsuc 2559) at_start

changes : panel_outcome left_volume (negsuc 2559) at_start ≡ knob_changes
unfolding panel_start known_view element_list entity_elements control_elements headset entities turned followed all_followed all_told panel_breaking panel_transfer view_after value_after is_for with_pending keyed.set_of keyed.get_of reply_of unbroken_reply after_request first_broken owner_of entity_by_id count_of has_on initial_controls controls_of channel_controls first_channels start_of takes takes_on value_bytes value_from value_of is_legal cur_bytes left_by with_value breaks_q1 breaks_q2 breaks_q3 breaks_q4 breaks_q5 breaks_q6 breaks_q7 breaks_q8 breaks_q9 breaks_q10 breaks_q11 breaks_q12
changes = refl

waits : map (message_of 0) one_turned.pending ≡ (0 ∷ 1 ∷ 1 ∷ 2 ∷ 0 ∷ 3 ∷ []) ∷ []
unfolding panel_start known_view element_list entity_elements control_elements headset entities turned followed all_followed all_told panel_breaking panel_transfer view_after value_after is_for with_pending keyed.set_of keyed.get_of reply_of unbroken_reply after_request first_broken owner_of entity_by_id count_of has_on initial_controls controls_of channel_controls first_channels start_of takes takes_on value_bytes value_from value_of is_legal cur_bytes left_by with_value breaks_q1 breaks_q2 breaks_q3 breaks_q4 breaks_q5 breaks_q6 breaks_q7 breaks_q8 breaks_q9 breaks_q10 breaks_q11 breaks_q12
waits = refl

still_0 : known_of one_turned ≡ Some (pos 48000) ∷ Some (pos 0) ∷ Some (pos 0) ∷ Some (pos 0) ∷ Some (pos 0) ∷ Some (pos 0) ∷ []
unfolding known_of panel_start known_view element_list entity_elements control_elements headset entities turned followed all_followed all_told panel_breaking panel_transfer view_after value_after is_for with_pending keyed.set_of keyed.get_of reply_of unbroken_reply after_request first_broken owner_of entity_by_id count_of has_on initial_controls controls_of channel_controls first_channels start_of takes takes_on value_bytes value_from value_of is_legal cur_bytes left_by with_value breaks_q1 breaks_q2 breaks_q3 breaks_q4 breaks_q5 breaks_q6 breaks_q7 breaks_q8 breaks_q9 breaks_q10 breaks_q11 breaks_q12
still_0 = refl

-- the message is followed: the host knows the value
told_it : follow_told one_turned ≡ says_message (0 ∷ 1 ∷ 1 ∷ 2 ∷ 0 ∷ 3 ∷ []) ∷ says_line (says_view (element_has_value (name_of volume_element) (negsuc 2559))) ∷ []
unfolding name_of follow_told panel_start known_view element_list entity_elements control_elements headset entities turned followed all_followed all_told panel_breaking panel_transfer view_after value_after is_for with_pending keyed.set_of keyed.get_of reply_of unbroken_reply after_request first_broken owner_of entity_by_id count_of has_on initial_controls controls_of channel_controls first_channels start_of takes takes_on value_bytes value_from value_of is_legal cur_bytes left_by with_value breaks_q1 breaks_q2 breaks_q3 breaks_q4 breaks_q5 breaks_q6 breaks_q7 breaks_q8 breaks_q9 breaks_q10 breaks_q11 breaks_q12
told_it = refl

knows_it : known_of (follow_all one_turned) ≡ Some (pos 48000) ∷ Some (pos 0) ∷ Some (negsuc 2559) ∷ Some (pos 0) ∷ Some (pos 0) ∷ Some (pos 0) ∷ []
unfolding known_of follow_all panel_start known_view element_list entity_elements control_elements headset entities turned followed all_followed all_told panel_breaking panel_transfer view_after value_after is_for with_pending keyed.set_of keyed.get_of reply_of unbroken_reply after_request first_broken owner_of entity_by_id count_of has_on initial_controls controls_of channel_controls first_channels start_of takes takes_on value_bytes value_from value_of is_legal cur_bytes left_by with_value breaks_q1 breaks_q2 breaks_q3 breaks_q4 breaks_q5 breaks_q6 breaks_q7 breaks_q8 breaks_q9 breaks_q10 breaks_q11 breaks_q12
knows_it = refl

-- the same value again makes no message, and one that is off the grid is stalled
rests : panel_outcome left_volume (negsuc 2559) one_turned ≡ knob_rests
unfolding panel_start known_view element_list entity_elements control_elements headset entities turned followed all_followed all_told panel_breaking panel_transfer view_after value_after is_for with_pending keyed.set_of keyed.get_of reply_of unbroken_reply after_request first_broken owner_of entity_by_id count_of has_on initial_controls controls_of channel_controls first_channels start_of takes takes_on value_bytes value_from value_of is_legal cur_bytes left_by with_value breaks_q1 breaks_q2 breaks_q3 breaks_q4 breaks_q5 breaks_q6 breaks_q7 breaks_q8 breaks_q9 breaks_q10 breaks_q11 breaks_q12
rests = refl

stalls : panel_outcome left_volume (pos 1) one_turned ≡ knob_stalls 9
unfolding panel_start known_view element_list entity_elements control_elements headset entities turned followed all_followed all_told panel_breaking panel_transfer view_after value_after is_for with_pending keyed.set_of keyed.get_of reply_of unbroken_reply after_request first_broken owner_of entity_by_id count_of has_on initial_controls controls_of channel_controls first_channels start_of takes takes_on value_bytes value_from value_of is_legal cur_bytes left_by with_value breaks_q1 breaks_q2 breaks_q3 breaks_q4 breaks_q5 breaks_q6 breaks_q7 breaks_q8 breaks_q9 breaks_q10 breaks_q11 breaks_q12
stalls = refl

-- two knobs, of which one is turned twice: its message waits once. A message whose transfer broke is kept, and nothing follows it
abbrev three_turned : PanelWorld
three_turned = turned master_mute (pos 1) (turned left_volume (negsuc 255) (turned left_volume (negsuc 2559) at_start))

abbrev broke_once : PanelWorld
broke_once = follow_all (panel_breaking false three_turned)

broke_told : follow_told (panel_breaking false three_turned) ≡ says_message (0 ∷ 1 ∷ 1 ∷ 2 ∷ 0 ∷ 3 ∷ []) ∷ says_line (says_view was_broken) ∷ []
unfolding follow_told panel_start known_view element_list entity_elements control_elements headset entities turned followed all_followed all_told panel_breaking panel_transfer view_after value_after is_for with_pending keyed.set_of keyed.get_of reply_of unbroken_reply after_request first_broken owner_of entity_by_id count_of has_on initial_controls controls_of channel_controls first_channels start_of takes takes_on value_bytes value_from value_of is_legal cur_bytes left_by with_value breaks_q1 breaks_q2 breaks_q3 breaks_q4 breaks_q5 breaks_q6 breaks_q7 breaks_q8 breaks_q9 breaks_q10 breaks_q11 breaks_q12
broke_told = refl

kept_messages : map (message_of 0) broke_once.pending ≡ (0 ∷ 1 ∷ 1 ∷ 2 ∷ 0 ∷ 3 ∷ []) ∷ (0 ∷ 1 ∷ 0 ∷ 1 ∷ 0 ∷ 3 ∷ []) ∷ []
unfolding follow_all panel_start known_view element_list entity_elements control_elements headset entities turned followed all_followed all_told panel_breaking panel_transfer view_after value_after is_for with_pending keyed.set_of keyed.get_of reply_of unbroken_reply after_request first_broken owner_of entity_by_id count_of has_on initial_controls controls_of channel_controls first_channels start_of takes takes_on value_bytes value_from value_of is_legal cur_bytes left_by with_value breaks_q1 breaks_q2 breaks_q3 breaks_q4 breaks_q5 breaks_q6 breaks_q7 breaks_q8 breaks_q9 breaks_q10 breaks_q11 breaks_q12
kept_messages = refl

both_told : follow_told broke_once
    ≡ says_message (0 ∷ 1 ∷ 1 ∷ 2 ∷ 0 ∷ 3 ∷ []) ∷ says_line (says_view (element_has_value (name_of volume_element) (negsuc 255)))
    ∷ says_message (0 ∷ 1 ∷ 0 ∷ 1 ∷ 0 ∷ 3 ∷ []) ∷ says_line (says_view (element_has_value (name_of mute_element) (pos 1))) ∷ []
unfolding name_of follow_told follow_all panel_start known_view element_list entity_elements control_elements headset entities turned followed all_followed all_told panel_breaking panel_transfer view_after value_after is_for with_pending keyed.set_of keyed.get_of reply_of unbroken_reply after_request first_broken owner_of entity_by_id count_of has_on initial_controls controls_of channel_controls first_channels start_of takes takes_on value_bytes value_from value_of is_legal cur_bytes left_by with_value breaks_q1 breaks_q2 breaks_q3 breaks_q4 breaks_q5 breaks_q6 breaks_q7 breaks_q8 breaks_q9 breaks_q10 breaks_q11 breaks_q12
both_told = refl

knows_both : known_of (follow_all broke_once) ≡ Some (pos 48000) ∷ Some (pos 1) ∷ Some (negsuc 255) ∷ Some (pos 0) ∷ Some (pos 0) ∷ Some (pos 0) ∷ []
unfolding known_of follow_all panel_start known_view element_list entity_elements control_elements headset entities turned followed all_followed all_told panel_breaking panel_transfer view_after value_after is_for with_pending keyed.set_of keyed.get_of reply_of unbroken_reply after_request first_broken owner_of entity_by_id count_of has_on initial_controls controls_of channel_controls first_channels start_of takes takes_on value_bytes value_from value_of is_legal cur_bytes left_by with_value breaks_q1 breaks_q2 breaks_q3 breaks_q4 breaks_q5 breaks_q6 breaks_q7 breaks_q8 breaks_q9 breaks_q10 breaks_q11 breaks_q12
knows_both = refl

none_left : follow_told (follow_all broke_once) ≡ says_none ∷ []
unfolding follow_told follow_all panel_start known_view element_list entity_elements control_elements headset entities turned followed all_followed all_told panel_breaking panel_transfer view_after value_after is_for with_pending keyed.set_of keyed.get_of reply_of unbroken_reply after_request first_broken owner_of entity_by_id count_of has_on initial_controls controls_of channel_controls first_channels start_of takes takes_on value_bytes value_from value_of is_legal cur_bytes left_by with_value breaks_q1 breaks_q2 breaks_q3 breaks_q4 breaks_q5 breaks_q6 breaks_q7 breaks_q8 breaks_q9 breaks_q10 breaks_q11 breaks_q12
none_left = refl
