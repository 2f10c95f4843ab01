-- Descriptors of generated scripts: their bytes are the blocks that they were made of, and break no rule of the grammar.
use Rattle.std.proofs.Common.{◌≡◌, ℕ, ◌+◌, ◌<◌, ◌≤◌, true, length, None, refl}
use Rattle.std.specs.Prelude.{nat_le, nat_lt}
use Rattle.std.specs.List.{list_all}
use Rattle.std.proofs.lemmas.Bool.{leb-true}
use Rattle.uac_descriptor.specs.Classes.{is_audio_association, is_control_interface, is_streaming_interface}
use Rattle.uac_descriptor.specs.BlockParsing.{block_of, fields, is_whole, has_length}
use Rattle.uac_descriptor.specs.LayoutRows.{row_of, row_in}
use Rattle.uac_descriptor.specs.Spelling.{spelling}
use Rattle.uac_grammar_rules.specs.Grammar.{first_fault, grammar, start, rule_at_end, rule_broken, state_after, comes_again, lists_unknown, lacks_association, is_out_of_order, is_refused, passes_total, passes_list, ends_list_early, is_in_turn}
use Rattle.uac_grammar_rules.specs.Fault.{faults_from}
use Rattle.uac_grammar_rules.specs.Cutting.{chop, chop_within}
use Rattle.uac_grammar_rules.specs.Values.{has_wrong_value, is_no_format, is_no_high_speed}
use Rattle.uac_grammar_rules.specs.BlockRole.{interface_context, interface_role, whole_role, is_device, has_unknown_subtype}
use Rattle.uac_gen.specs.GeneratedDescriptor.{descriptor_of}
use Rattle.uac_promises.proofs.ListRangeLemmas.{of_thirty}

pub none_faulty : (d : ℕ) → d < 30 → first_fault (descriptor_of (1 + d)) ≡ None
unfolding first_fault grammar start rule_at_end rule_broken state_after comes_again lists_unknown lacks_association is_out_of_order is_refused passes_total passes_list ends_list_early is_in_turn faults_from chop chop_within has_wrong_value is_no_format is_no_high_speed is_audio_association is_control_interface is_streaming_interface interface_context interface_role whole_role is_device has_unknown_subtype block_of fields is_whole has_length row_of row_in descriptor_of spelling
none_faulty d below = of_thirty (λ d. first_fault (descriptor_of (1 + d))) (λ d. None) refl d below

pub all_bytes : (d : ℕ) → d < 30 → list_all (λ b. nat_lt b 256) (descriptor_of (1 + d)) ≡ true
unfolding descriptor_of spelling
all_bytes d below = of_thirty (λ d. list_all (λ b. nat_lt b 256) (descriptor_of (1 + d))) (λ d. true) refl d below

-- they are a thousand bytes at most
pub all_short : (d : ℕ) → d < 30 → length (descriptor_of (1 + d)) ≤ 1000
unfolding descriptor_of spelling
all_short d below =
    leb-true (length (descriptor_of (1 + d))) 1000
    (of_thirty (λ d. nat_le (length (descriptor_of (1 + d))) 1000) (λ d. true) refl d below)
