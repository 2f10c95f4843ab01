use Rattle.std.proofs.Common.{◌≡◌}
use Rattle.std.specs.List.{list_all}
use Rattle.uac_lines.specs.Words.{words_left, bytes_left}
use Rattle.uac_script.specs.LineParsing.{is_mark}
use Rattle.uac_script.proofs.lists.are_marks.Given as goal

abbrev pub invariant-loop-word : goal.invariant-loop-word
invariant-loop-word l = list_all is_mark (words_left l.fn.words.rest) ≡ list_all is_mark (words_left l.words.rest)

abbrev pub decreases-loop-word : goal.decreases-loop-word
decreases-loop-word l = bytes_left l.words.rest
