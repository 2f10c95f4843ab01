-- A line that was read, as what it says.
use Rattle.std.specs.Prelude.{ℕ, Bool, true, false, Result, Ok, Err}
use Rattle.uac_script.specs.Lent.{lent_phrase}
use Rattle.uac_script.specs.Phrase.{Phrase, nothing_line, bytes_line, go_line, control_line, get_line, set_line, show_line, break_line}
use Rattle.uac_script.specs.Phrase.{append_line, track_line, jack_line, deviate_line, microframes_line, detail_line, report_line}
use Rattle.uac_status.specs.declared.reading.DeskLine.{DeskLine}
use Rattle.uac_status.specs.declared.reading.DeskLine.TheVariants as lines
use Rattle.uac_status.specs.DeskPhrases.{DeskPhrase, follow_line, table_line, turn_line}

abbrev pub desk_phrase : DeskLine → DeskPhrase
desk_phrase (lines.Table line) = table_line (lent_phrase line)
desk_phrase (lines.Turn name value) = turn_line name.now value
desk_phrase lines.Follow = follow_line

abbrev pub desk_line_result : Result DeskLine ℕ → Result DeskPhrase ℕ
desk_line_result (Ok line) = Ok (desk_phrase line)
desk_line_result (Err rule) = Err rule

-- the line is the descriptor's end
abbrev pub is_end_line : Phrase → Bool
is_end_line nothing_line = false
is_end_line (bytes_line bytes) = false
is_end_line go_line = true
is_end_line (control_line setup sent) = false
is_end_line (get_line name) = false
is_end_line (set_line name value) = false
is_end_line (show_line name) = false
is_end_line (break_line after) = false
is_end_line (append_line number samples) = false
is_end_line (track_line number tone) = false
is_end_line (jack_line terminal tone) = false
is_end_line (deviate_line domain ppm) = false
is_end_line (microframes_line count marks) = false
is_end_line (detail_line level) = false
is_end_line report_line = false

abbrev pub is_end : DeskPhrase → Bool
is_end (table_line phrase) = is_end_line phrase
is_end (turn_line name value) = false
is_end follow_line = false
