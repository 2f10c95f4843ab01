use Rattle.std.proofs.Common.{◌≡◌, ◌≤◌, ◌+◌, ◌*◌, ◌++◌, true, map, length}
use Rattle.std.specs.List.{list_all}
use Rattle.uac_lines.specs.Words.{words_left, bytes_left}
use Rattle.uac_lines.specs.ScriptNumerals.{is_number, value_of}
use Rattle.uac_lines.specs.Ranges.{is_in_32_bits}
use Rattle.uac_script.proofs.lists.samples.Given as goal

abbrev pub invariant-loop-word : goal.invariant-loop-word
invariant-loop-word l = record {
  so_far : map value_of (words_left l.fn.words.rest) ≡ l.samples.items ++ map value_of (words_left l.words.rest);
  in_range : list_all is_in_32_bits l.samples.items ≡ true;
  numbers : list_all is_number (words_left l.words.rest) ≡ true;
  room : 2 * length l.samples.items + bytes_left l.words.rest ≤ 4096;
}

abbrev pub decreases-loop-word : goal.decreases-loop-word
decreases-loop-word l = bytes_left l.words.rest
