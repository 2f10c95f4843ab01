-- Profile: the lines that are left of a generated script, by the line that it writes next.
use Rattle.std.specs.Prelude.{ℕ, ◌-◌, ◌*◌, List, [], ◌∷◌, ◌++◌, map, codes}
use Rattle.std.specs.List.{range_with_len}
use Rattle.uac_gen.specs.declared.next_line.NextLine.{NextLine}
use Rattle.uac_gen.specs.declared.next_line.NextLine.TheVariants as next
use Rattle.uac_gen.specs.Generator.{feed_line, feed_count, lines_after_descriptor, rate_line, setting_script_line, tone_line, run_line}
use Rattle.uac_gen.specs.Generator.{unpacked_lines}
use Rattle.uac_gen.specs.Generator.{rest_line, groups}

-- so many groups from x on, and the report
abbrev pub from_groups : ℕ → ℕ → List (List ℕ)
from_groups count x = groups count x ++ codes "q" ∷ []

abbrev pub lines_left : ℕ → ℕ → List ℕ → ℕ → NextLine → List (List ℕ)
lines_left number hertz bytes x (next.Feed fed) =
    map (feed_line bytes) (range_with_len fed (feed_count bytes - fed)) ++ lines_after_descriptor number hertz x
lines_left number hertz bytes x next.Rate = rate_line hertz ∷ setting_script_line ∷ tone_line number ∷ from_groups 250 x
lines_left number hertz bytes x next.Setting = setting_script_line ∷ tone_line number ∷ from_groups 250 x
lines_left number hertz bytes x next.Tone = tone_line number ∷ from_groups 250 x
lines_left number hertz bytes x (next.Deviation count) = from_groups count x
lines_left number hertz bytes x (next.FeedbackLosses group) =
    run_line (8 * group.eights) (codes " f1")
    ∷ (unpacked_lines group.lost ++ rest_line group.eights group.lost ∷ from_groups group.following x)
lines_left number hertz bytes x (next.Unpacked group) =
    run_line 1 (codes " o1") ∷ rest_line group.eights group.lost ∷ from_groups group.following x
lines_left number hertz bytes x (next.Rest group) = rest_line group.eights group.lost ∷ from_groups group.following x
lines_left number hertz bytes x next.End = []
