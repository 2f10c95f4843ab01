-- Worked rows: what lines tell of the elements of a small device, a feature of two channels after an input terminal.
use Rattle.std.proofs.Common.{◌≡◌, refl, ℕ, true, false, ℤ, pos, negsuc, List, [], ◌∷◌, ◌++◌, map, Option, None, Some, Result, Ok}
use Rattle.uac_entities.specs.declared.entity.Entity.{Entity}
use Rattle.uac_entities.specs.declared.entity.EntityKind.{EntityKind}
use Rattle.uac_entities.specs.declared.entity.EntityKind.TheVariants as kind
use Rattle.uac_topology.specs.Function.{FunctionFields}
use Rattle.uac_mixer.specs.declared.element.Element.{Element}
use Rattle.uac_mixer.specs.declared.kinds.ElementKind.TheVariants as shown
use Rattle.uac_script.specs.Phrase.{Phrase, break_line, control_line}
use Rattle.uac_running.specs.RunningWorld.{RunningWorld, at_start}
use Rattle.uac_rows.specs.BusWorld.{running, step}
use Rattle.uac_entities.specs.EntityInterfaces.{entity_by_id}
use Rattle.uac_store.specs.StoreControls.{channel_controls, controls_of, count_of, first_channels, has_on, initial_controls, start_of, takes, takes_on}
use Rattle.uac_store.specs.Keyed.{value_of, with_value}
use Rattle.uac_store.specs.StoreValues.{is_legal, ranges_of}
use Rattle.uac_request.specs.Requests.{unbroken_reply, breaks_q1, breaks_q2, breaks_q3, breaks_q4, breaks_q5, breaks_q6, breaks_q7, breaks_q8, breaks_q9, breaks_q10, breaks_q11, breaks_q12, after_request, cur_bytes, first_broken, left_by, owner_of, reply_of, value_bytes, value_from}
use Rattle.uac_device.specs.DeviceWorld.{after_control, fresh}
use Rattle.uac_mixer.specs.ViewTransfers.{is_for, value_after, view_after}
use Rattle.uac_running.specs.RunningTransfers.{comes_back, transfer, after_transfer, with_break}
use Rattle.uac_rows.specs.After.{after}
use Rattle.uac_promises.specs.Unknown.{elements_in, reveals, knowledge_after}

abbrev with : ℕ → EntityKind → List ℕ → List ℕ → Entity
with id k sources words =
    record {
      id = id;
      kind = k;
      terminal_type = 257;
      sources = sources;
      clock = 0;
      cluster = record { channels = 2; locations = 3; names = 0 };
      controls = words;
      mix_bits = [];
      attributes = 0;
    }

device : FunctionFields
device =
    record {
      entities = with 2 kind.InputTerminal [] (0 ∷ []) ∷ with 3 kind.Feature (2 ∷ []) (3 ∷ 12 ∷ 12 ∷ []) ∷ [];
      domains = [];
      streams = [];
      control_interface = 0;
      total = 9;
    }

volume : Element
volume = record { key = record { entity = 3; selector = 2; channel = 1 }; kind = shown.Volume; writable = true; value = Some (pos 0) }

mute : Element
mute = record { key = record { entity = 3; selector = 1; channel = 0 }; kind = shown.Mute; writable = true; value = Some (pos 0) }

world : RunningWorld
world = record (at_start [] device []) { view = record { elements = volume ∷ mute ∷ [] } }

-- the volume of the first channel is set to -10 dB, and one byte of it is got, and both
set_it : Result Phrase ℕ
set_it = Ok (control_line (33 ∷ 1 ∷ 1 ∷ 2 ∷ 0 ∷ 3 ∷ 2 ∷ 0 ∷ []) (0 ∷ 246 ∷ []))

get_one : Result Phrase ℕ
get_one = Ok (control_line (161 ∷ 1 ∷ 1 ∷ 2 ∷ 0 ∷ 3 ∷ 1 ∷ 0 ∷ []) [])

get_both : Result Phrase ℕ
get_both = Ok (control_line (161 ∷ 1 ∷ 1 ∷ 2 ∷ 0 ∷ 3 ∷ 2 ∷ 0 ∷ []) [])

break : Result Phrase ℕ
break = Ok (break_line true)

-- a set that broke, though the device acted
broken : List (Result Phrase ℕ)
broken = break ∷ set_it ∷ []

values_following : List (Result Phrase ℕ) → List (Option ℤ)
values_following lines = map (λ x. x.value) (elements_in (after lines (running world)).world)

-- the broken set tells that the value is unknown, the get of one byte nothing, that of both bytes that it is known; so does a set that is
-- done; and a break that is spent on a get tells nothing. Of the mute nothing was told.
told : (knowledge_after broken (running world) volume ≡ false ∷ [])
    × (knowledge_after (broken ++ get_one ∷ []) (running world) volume ≡ false ∷ [])
    × (knowledge_after (broken ++ get_one ∷ get_both ∷ []) (running world) volume ≡ false ∷ true ∷ [])
    × (knowledge_after (broken ++ set_it ∷ []) (running world) volume ≡ false ∷ true ∷ [])
    × (knowledge_after (break ∷ get_both ∷ []) (running world) volume ≡ [])
    × (knowledge_after (broken ++ get_one ∷ get_both ∷ []) (running world) mute ≡ [])
unfolding knowledge_after after broken break set_it get_one get_both values_following world device volume mute at_start step transfer after_transfer reveals is_for comes_back with_break reply_of first_broken breaks_q1 breaks_q2 breaks_q3 breaks_q4 breaks_q5 breaks_q6 breaks_q7 breaks_q8 breaks_q9 breaks_q10 breaks_q11 breaks_q12 owner_of entity_by_id count_of fresh after_control unbroken_reply cur_bytes value_bytes value_of initial_controls controls_of channel_controls first_channels start_of has_on ranges_of is_legal value_from view_after value_after after_request with_value left_by takes takes_on
told = (refl, refl, refl, refl, refl, refl)

-- and the view's values, the volume's first
values : (values_following broken ≡ None ∷ Some (pos 0) ∷ [])
    × (values_following (broken ++ get_one ∷ []) ≡ None ∷ Some (pos 0) ∷ [])
    × (values_following (broken ++ get_one ∷ get_both ∷ []) ≡ Some (negsuc 2559) ∷ Some (pos 0) ∷ [])
    × (values_following (broken ++ set_it ∷ []) ≡ Some (negsuc 2559) ∷ Some (pos 0) ∷ [])
    × (values_following (break ∷ get_both ∷ []) ≡ Some (pos 0) ∷ Some (pos 0) ∷ [])
unfolding knowledge_after after broken break set_it get_one get_both values_following world device volume mute at_start step transfer after_transfer reveals is_for comes_back with_break reply_of first_broken breaks_q1 breaks_q2 breaks_q3 breaks_q4 breaks_q5 breaks_q6 breaks_q7 breaks_q8 breaks_q9 breaks_q10 breaks_q11 breaks_q12 owner_of entity_by_id count_of fresh after_control unbroken_reply cur_bytes value_bytes value_of initial_controls controls_of channel_controls first_channels start_of has_on ranges_of is_legal value_from view_after value_after after_request with_value left_by takes takes_on
values = (refl, refl, refl, refl, refl)
