-- Descriptors read by the rules by hand: a headset, and what becomes of it where it is edited.
use Rattle.std.proofs.Common.{◌≡◌, ℕ, List, [], ◌∷◌, ◌++◌, Option, None, Some, get_or, set, take, drop, insert, flat_map, refl}
use Rattle.uac_grammar_rules.specs.Grammar.{
  first_fault,
  grammar,
  start,
  rule_at_end,
  rule_broken,
  state_after,
  comes_again,
  lists_unknown,
  lacks_association,
  is_out_of_order,
  is_refused,
  passes_total,
  passes_list,
  ends_list_early,
  is_in_turn,
}
use Rattle.uac_grammar_rules.specs.Fault.{GrammarFault, faults_from}
use Rattle.uac_grammar_rules.specs.Cutting.{chop, chop_within}
use Rattle.uac_grammar_rules.specs.Values.{has_wrong_value, is_no_format, is_no_high_speed}
use Rattle.uac_grammar_rules.specs.BlockRole.{
  interface_context,
  interface_role,
  whole_role,
  is_device,
  has_unknown_subtype,
}
use Rattle.uac_descriptor.specs.Classes.{is_audio_association, is_control_interface, is_streaming_interface}
use Rattle.uac_descriptor.specs.BlockParsing.{block_of, fields, is_whole, has_length}
use Rattle.uac_descriptor.specs.LayoutRows.{row_of, row_in}
use Rattle.uac_descriptor.proofs.Headset.{device, configuration, association, control, header, feature, idle_out, format_out, hid, headset}

-- the first fault, with all that it is computed by
verdict : List ℕ → Option GrammarFault
unfolding first_fault grammar start rule_at_end rule_broken state_after comes_again lists_unknown lacks_association is_out_of_order is_refused passes_total passes_list ends_list_early is_in_turn faults_from chop chop_within has_wrong_value is_no_format is_no_high_speed is_audio_association is_control_interface is_streaming_interface interface_context interface_role whole_role is_device has_unknown_subtype block_of fields is_whole has_length row_of row_in
verdict bytes = first_fault bytes

abbrev bytes_of : List (List ℕ) → List ℕ
bytes_of rows = flat_map (λ row. row) rows

-- byte i of row n becomes v
abbrev edit : ℕ → ℕ → ℕ → List (List ℕ) → List (List ℕ)
edit n i v rows = set rows n (set (get_or rows n []) i v)

-- the two bytes of the configuration's total
abbrev with_total : ℕ → ℕ → List (List ℕ) → List (List ℕ)
with_total low high rows = edit 1 2 low (edit 1 3 high rows)

abbrev fault : ℕ → ℕ → Option GrammarFault
fault rule place = Some (record { rule = rule; at = place })

-- the headset has no fault
whole : verdict (bytes_of headset) ≡ None
unfolding verdict
whole = refl

-- no bytes: the configuration is missing
no_bytes : verdict ([]) ≡ fault 1 0
unfolding verdict
no_bytes = refl

-- after the device descriptor the configuration is missing
device_alone : verdict (bytes_of (take 1 headset)) ≡ fault 1 18
unfolding verdict
device_alone = refl

-- the total is one byte more than there are
total_differs : verdict (bytes_of (with_total 20 1 headset)) ≡ fault 5 293
unfolding verdict
total_differs = refl

-- the total has the configuration alone, and the next block passes it
total_passed : verdict (bytes_of (with_total 9 0 headset)) ≡ fault 5 27
unfolding verdict
total_passed = refl

-- the total ends within the last block
total_passed_last : verdict (bytes_of (with_total 18 1 headset)) ≡ fault 5 286
unfolding verdict
total_passed_last = refl

-- the last block runs past the end
last_byte_missing : verdict (take 292 (bytes_of headset)) ≡ fault 1 286
unfolding verdict
last_byte_missing = refl

-- bits 10 for mute in the word of the master of feature 3
mute_bits_10 : verdict (bytes_of (edit 7 5 2 headset)) ≡ fault 4 78
unfolding verdict
mute_bits_10 = refl

-- feature 3 has another type, so the list of entities ends before the total of the header
list_ends_early : verdict (bytes_of (edit 7 1 48 headset)) ≡ fault 5 78
unfolding verdict
list_ends_early = refl

-- the format has another type, and no endpoint may follow that
endpoint_after_other : verdict (bytes_of (edit 15 1 48 headset)) ≡ fault 6 191
unfolding verdict
endpoint_after_other = refl

-- a mixer of two pins, with two bytes of bits and with one
abbrev mixer_of_two_bytes : List ℕ
mixer_of_two_bytes = 17 ∷ 36 ∷ 4 ∷ 8 ∷ 2 ∷ 2 ∷ 6 ∷ 3 ∷ 0 ∷ 0 ∷ 0 ∷ 0 ∷ 0 ∷ 255 ∷ 128 ∷ 0 ∷ 0 ∷ []

abbrev mixer_of_one_byte : List ℕ
mixer_of_one_byte = 16 ∷ 36 ∷ 4 ∷ 8 ∷ 2 ∷ 2 ∷ 6 ∷ 3 ∷ 0 ∷ 0 ∷ 0 ∷ 0 ∷ 0 ∷ 255 ∷ 0 ∷ 0 ∷ []

-- the longer mixer at the end of the entities
two_bytes : verdict (bytes_of (with_total 36 1 (edit 4 6 124 (insert headset 12 mixer_of_two_bytes)))) ≡ None
unfolding verdict
two_bytes = refl

-- the shorter one
one_byte : verdict (bytes_of (with_total 35 1 (edit 4 6 123 (insert headset 12 mixer_of_one_byte)))) ≡ None
unfolding verdict
one_byte = refl

-- a second Type I format in one setting
second_format : verdict (bytes_of (insert headset 16 format_out)) ≡ fault 6 191
unfolding verdict
second_format = refl

-- a class block of another subtype after an endpoint
class_endpoint_of_other_subtype : verdict (bytes_of (edit 17 2 2 headset)) ≡ fault 6 198
unfolding verdict
class_endpoint_of_other_subtype = refl

-- setting 2 after setting 0
setting_skipped : verdict (bytes_of (edit 13 3 2 headset)) ≡ fault 6 160
unfolding verdict
setting_skipped = refl

-- setting 1 of interface 3 after setting 0 of interface 1
setting_of_another : verdict (bytes_of (edit 13 2 3 headset)) ≡ fault 6 160
unfolding verdict
setting_of_another = refl

-- a streaming interface with the number of the control interface
number_of_control : verdict (bytes_of (edit 12 2 0 headset)) ≡ fault 6 151
unfolding verdict
number_of_control = refl

-- a streaming interface with the number of an earlier one
number_again : verdict (bytes_of (edit 19 2 1 headset)) ≡ fault 6 213
unfolding verdict
number_again = refl

-- the association of another function
abbrev foreign_association : List ℕ
foreign_association = 8 ∷ 11 ∷ 1 ∷ 1 ∷ 3 ∷ 0 ∷ 0 ∷ 0 ∷ []

-- a block of a type that audio has no rule for
abbrev other : List ℕ
other = 3 ∷ 48 ∷ 0 ∷ []

-- an association between two settings is no interface
association_between : verdict (bytes_of (with_total 27 1 (insert headset 13 foreign_association))) ≡ None
unfolding verdict
association_between = refl

-- another interface between two settings
interface_between : verdict (bytes_of (insert headset 13 hid)) ≡ fault 6 169
unfolding verdict
interface_between = refl

-- a second audio association
second_association : verdict (bytes_of (insert headset 12 association)) ≡ fault 9 151
unfolding verdict
second_association = refl

-- a second control interface
second_control : verdict (bytes_of (set headset 25 control)) ≡ fault 9 268
unfolding verdict
second_control = refl

-- a class block of an unknown subtype in the list of entities
unknown_subtype : verdict (bytes_of (edit 5 2 8 headset)) ≡ fault 8 53
unfolding verdict
unknown_subtype = refl

-- such a block after the list
unknown_after_list : verdict (bytes_of (insert (insert headset 12 (3 ∷ 36 ∷ 8 ∷ [])) 12 other)) ≡ fault 6 154
unfolding verdict
unknown_after_list = refl

-- a streaming interface before the audio association
early_stream : verdict (bytes_of (insert headset 2 idle_out)) ≡ fault 7 27
unfolding verdict
early_stream = refl

-- a block between the audio association and the control interface
block_between : verdict (bytes_of (insert headset 3 other)) ≡ fault 7 35
unfolding verdict
block_between = refl

-- the input ends before the audio association
association_missing : verdict (bytes_of (with_total 9 0 (take 2 headset))) ≡ fault 7 27
unfolding verdict
association_missing = refl

-- the input ends after the control interface
header_missing : verdict (bytes_of (with_total 26 0 (take 4 headset))) ≡ fault 6 44
unfolding verdict
header_missing = refl

-- the last entity ends past the total of the header
list_passes : verdict (bytes_of (edit 4 6 106 headset)) ≡ fault 5 139
unfolding verdict
list_passes = refl

-- the entities end before the total of the header
list_stops_short : verdict (bytes_of (edit 4 6 108 headset)) ≡ fault 5 151
unfolding verdict
list_stops_short = refl

-- an audio association after another interface does not end that, but the control interface may follow
association_in_foreign : verdict (bytes_of (with_total 44 1 (take 2 headset ++ drop 25 headset ++ drop 2 headset))) ≡ None
unfolding verdict
association_in_foreign = refl

-- an endpoint of another length in front of every interface
short_endpoint_in_front : verdict (bytes_of (insert headset 2 (6 ∷ 5 ∷ 0 ∷ 0 ∷ 0 ∷ 0 ∷ []))) ≡ fault 3 27
unfolding verdict
short_endpoint_in_front = refl

-- the same in an interface of another function is kept whole
short_endpoint_in_foreign : verdict (bytes_of (with_total 25 1 (headset ++ (6 ∷ 5 ∷ 0 ∷ 0 ∷ 0 ∷ 0 ∷ []) ∷ []))) ≡ None
unfolding verdict
short_endpoint_in_foreign = refl

-- an isochronous endpoint with interval 0
period_of_0 : verdict (bytes_of (edit 16 6 0 headset)) ≡ fault 4 191
unfolding verdict
period_of_0 = refl

-- a length of 1
length_1 : verdict (bytes_of (edit 26 0 1 headset)) ≡ fault 2 277
unfolding verdict
length_1 = refl

-- one byte alone
lone_byte : verdict (bytes_of (headset ++ (9 ∷ []) ∷ [])) ≡ fault 1 293
unfolding verdict
lone_byte = refl
