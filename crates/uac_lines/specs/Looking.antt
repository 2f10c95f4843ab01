-- Profile: what a look at the unread bytes answers, in the words of the lines.
use Rattle.std.specs.Prelude.{◌≡◌, ℕ, ◌+◌, ◌<◌, ◌≤◌, ◌==◌, List, length, take, drop}
use Rattle.std.specs.List.{position_or_len}
use Rattle.uac_lines.specs.ScriptLines.{head_of, line, long, past, unended, most_of_line}
use Rattle.uac_lines.specs.declared.lines.front.Front.{Front}
use Rattle.uac_lines.specs.declared.lines.front.Front.TheVariants as front

-- where the first newline stands, or the length where none does
abbrev pub line_end : List ℕ → ℕ
line_end bytes = position_or_len (λ b. b == 10) bytes

-- what stands first in these bytes, of which so many count
abbrev pub ShowsFront : ℕ → List ℕ → Front → Type 0
ShowsFront spare bytes (front.Line size) =
    (head_of spare bytes ≡ line (take size bytes) (drop (size + 1) bytes)) × (size < length bytes) × (size < spare) × (size ≤ most_of_line)
ShowsFront spare bytes front.Long = head_of spare bytes ≡ long
ShowsFront spare bytes front.Past = head_of spare bytes ≡ past
ShowsFront spare bytes (front.Open size) =
    (head_of spare bytes ≡ unended bytes) × (size ≡ length bytes) × (size ≤ spare) × (size ≤ most_of_line) × (line_end bytes ≡ size)
