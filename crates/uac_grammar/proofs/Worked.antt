-- What bytes show, read by hand and computed by the checker.
use Rattle.std.proofs.Common.{◌≡◌, ℕ, List, [], ◌∷◌, Option, None, Some, refl}
use Rattle.uac_descriptor.specs.BlockParsing.{block_of, fields, is_whole, has_length}
use Rattle.uac_descriptor.specs.LayoutRows.{row_of, row_in}
use Rattle.uac_grammar_rules.specs.Cutting.{chop, chop_within}
use Rattle.uac_grammar_rules.specs.Fault.{faults_from}
use Rattle.uac_grammar_rules.specs.Grammar.{first_fault, grammar, start, rule_at_end, rule_broken, state_after, comes_again, lists_unknown, lacks_association, is_out_of_order, is_refused, passes_total, passes_list, ends_list_early, is_in_turn}
use Rattle.uac_grammar_rules.specs.BlockRole.{whole_role, is_device, has_unknown_subtype}
use Rattle.uac_grammar_rules.specs.Values.{has_wrong_value, is_no_high_speed}
use Rattle.uac_grammar.specs.Stop.{first_stop, shown_stop}
use Rattle.uac_grammar.specs.declared.fault.ReadStop.{ReadStop}
use Rattle.uac_grammar.specs.declared.fault.ReadStop.TheVariants.{Fault}

-- the stops, with all that they are computed by
shown : List ℕ → Option ReadStop
unfolding first_fault grammar start rule_at_end rule_broken state_after comes_again lists_unknown lacks_association is_out_of_order is_refused passes_total passes_list ends_list_early is_in_turn faults_from chop chop_within has_wrong_value is_no_high_speed whole_role is_device has_unknown_subtype block_of fields is_whole has_length row_of row_in
shown bytes = shown_stop bytes

first : List ℕ → Option ReadStop
unfolding first_fault grammar start rule_at_end rule_broken state_after comes_again lists_unknown lacks_association is_out_of_order is_refused passes_total passes_list ends_list_early is_in_turn faults_from chop chop_within has_wrong_value is_no_high_speed whole_role is_device has_unknown_subtype block_of fields is_whole has_length row_of row_in
first bytes = first_stop bytes

abbrev fault : ℕ → ℕ → Option ReadStop
fault rule place = Some (Fault (record { rule = rule; at = place }))

-- nothing at all is a fault, but more bytes can change it
no_bytes : first [] ≡ fault 1 0
unfolding first
no_bytes = refl

no_bytes_shown : shown [] ≡ None
unfolding shown
no_bytes_shown = refl

-- so is one byte alone, of whatever value
one_byte : shown (1 ∷ []) ≡ None
unfolding shown
one_byte = refl

-- a length of 1 is shown by the byte after it
length_one : shown (1 ∷ 2 ∷ []) ≡ fault 2 0
unfolding shown
length_one = refl

-- an endpoint where the configuration is due is shown by its last byte
endpoint_cut_off : shown (7 ∷ 5 ∷ 1 ∷ 5 ∷ 150 ∷ 0 ∷ []) ≡ None
unfolding shown
endpoint_cut_off = refl

endpoint_first : shown (7 ∷ 5 ∷ 1 ∷ 5 ∷ 150 ∷ 0 ∷ 1 ∷ []) ≡ fault 6 0
unfolding shown
endpoint_first = refl

-- and an endpoint of another length is told by the lesser rule
endpoint_of_six : shown (6 ∷ 5 ∷ 1 ∷ 5 ∷ 150 ∷ 0 ∷ []) ≡ fault 3 0
unfolding shown
endpoint_of_six = refl
