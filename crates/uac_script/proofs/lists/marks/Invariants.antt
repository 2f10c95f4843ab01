use Rattle.std.proofs.Common.{◌≡◌, ◌≤◌, ◌++◌, true, map, length}
use Rattle.std.specs.List.{list_all}
use Rattle.uac_lines.specs.Words.{words_left, bytes_left}
use Rattle.uac_script.specs.LineParsing.{is_mark, mark_of}
use Rattle.uac_script.specs.Line.{phrase_mark}
use Rattle.uac_lines.specs.Ranges.{is_id}
use Rattle.uac_script.proofs.lists.marks.Given as goal

abbrev pub invariant-loop-word : goal.invariant-loop-word
invariant-loop-word l = record {
  so_far : map mark_of (words_left l.fn.words.rest) ≡ map phrase_mark l.marks.items ++ map mark_of (words_left l.words.rest);
  in_range : list_all (λ loss. is_id loss.interface) (map phrase_mark l.marks.items) ≡ true;
  marks : list_all is_mark (words_left l.words.rest) ≡ true;
  room : length l.marks.items ≤ 24;
}

abbrev pub decreases-loop-word : goal.decreases-loop-word
decreases-loop-word l = bytes_left l.words.rest
