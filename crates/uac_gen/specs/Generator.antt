-- Profile: the script that a number generates, line by line, each without its newline.
use Rattle.std.specs.Prelude.{ℕ, zero, suc, ◌+◌, ◌-◌, ◌*◌, ◌/◌, ◌%◌, ◌==◌, Bool, if◌then◌else◌, List, [], ◌∷◌, ◌++◌, map, length, take}
use Rattle.std.specs.Prelude.{drop, slice_index, codes, decimal, pos, ◌-ℤ◌}
use Rattle.std.specs.List.{range_with_len}
use Rattle.std.specs.Int.{to_le_bytes, w32}
use Rattle.hex.specs.Hex.{encode_lower}
use Rattle.uac_clock.specs.Nominal.{twelve_rates}
use Rattle.uac_edges.specs.Numerals.{numeral}
use Rattle.uac_gen.specs.GeneratedDescriptor.{descriptor_of}

-- x moves on, from the number that is given
abbrev pub next_x : ℕ → ℕ
next_x x = (1664525 * x + 1013904223) % 4294967296

-- what is drawn at x, one of so many numbers from 0
abbrev pub draw : ℕ → ℕ → ℕ
draw numbers x = x / 65536 % numbers

-- ---- the descriptor, in lines of 64 bytes, the last perhaps shorter

abbrev pub feed_line : List ℕ → ℕ → List ℕ
feed_line bytes index = codes "d " ++ encode_lower (take 64 (drop (64 * index) bytes))

abbrev pub feed_count : List ℕ → ℕ
feed_count bytes = (length bytes + 63) / 64

abbrev pub feed_lines : List ℕ → List (List ℕ)
feed_lines bytes = map (feed_line bytes) (range_with_len 0 (feed_count bytes))

-- ---- the clock's rate, the stream's setting and its tone

abbrev pub rate_line : ℕ → List ℕ
rate_line hertz = codes "c 2101000100010400 " ++ encode_lower (to_le_bytes w32 hertz)

abbrev pub setting_script_line : List ℕ
setting_script_line = codes "c 010b010001000000"

abbrev pub tone_line : ℕ → List ℕ
tone_line number = codes "t 1 noise " ++ decimal number

-- ---- a group: 32 microframes under one deviation of the clock

abbrev pub run_line : ℕ → List ℕ → List ℕ
run_line count mark = codes "m " ++ decimal count ++ mark

-- the deviation, of -1000 to 1000
abbrev pub deviation_line : ℕ → List ℕ
deviation_line drawn = codes "k 1 " ++ numeral (pos drawn -ℤ pos 1000)

-- eight times so many microframes that lose their feedback
abbrev pub feedback_loss_lines : ℕ → List (List ℕ)
feedback_loss_lines eights = if eights == 0 then [] else run_line (8 * eights) (codes " f1") ∷ []

-- one microframe, perhaps, without the packet
abbrev pub unpacked_lines : Bool → List (List ℕ)
unpacked_lines lost = if lost then run_line 1 (codes " o1") ∷ [] else []

-- what is left of 32 microframes
abbrev pub rest_line : ℕ → Bool → List ℕ
rest_line eights lost = run_line ((if lost then 31 else 32) - 8 * eights) []

abbrev pub group_lines : ℕ → ℕ → Bool → List (List ℕ)
group_lines drawn eights lost = deviation_line drawn ∷ (feedback_loss_lines eights ++ (unpacked_lines lost ++ rest_line eights lost ∷ []))

-- so many groups, each by three draws, from x on
unfoldable pub groups : ℕ → ℕ → List (List ℕ)
groups zero x = []
groups (suc count) x =
    let first = next_x x in
    let second = next_x first in
    let third = next_x second in
    group_lines (draw 2001 first) (draw 4 second) (draw 2 third == 1) ++ groups count third

-- ---- the whole script: the first draw picks the rate, the second the number of units

abbrev pub lines_after_descriptor : ℕ → ℕ → ℕ → List (List ℕ)
lines_after_descriptor number hertz x = codes "g" ∷ rate_line hertz ∷ setting_script_line ∷ tone_line number
    ∷ (groups 250 x ++ codes "q" ∷ [])

unfoldable pub generated_lines : ℕ → List (List ℕ)
generated_lines number =
    let first = next_x number in
    let second = next_x first in
    feed_lines (descriptor_of (1 + draw 30 second)) ++ lines_after_descriptor number (slice_index twelve_rates (draw 12 first)) second
