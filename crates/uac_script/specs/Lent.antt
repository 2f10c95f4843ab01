-- Profile: what a line says whose long parts lie elsewhere.
use Rattle.std.specs.Prelude.{◌≡◌, ◌≤◌, ℕ, true, length, map, pos, Result, Ok, Err}
use Rattle.uac_script.specs.declared.lent.LentLine.{LentLine}
use Rattle.uac_script.specs.declared.lent.LentLine.TheVariants.{Nothing, Bytes, Go, Control, Get, Set, Show, Break, Append, Track, Jack}
use Rattle.uac_script.specs.declared.lent.LentLine.TheVariants.{Deviate, Run, Detail, Report}
use Rattle.uac_script.specs.Phrase.{Phrase, nothing_line, bytes_line, go_line, control_line, get_line, set_line, show_line, break_line}
use Rattle.uac_script.specs.Phrase.{append_line, track_line, jack_line, deviate_line, microframes_line}
use Rattle.uac_script.specs.Phrase.{detail_line, report_line, is_in_range}
use Rattle.uac_script.specs.Line.{phrase_tone_of, phrase_mark, HasNoEmptyPart}

-- the line that a value stands for
abbrev pub lent_phrase : LentLine → Phrase
lent_phrase Nothing = nothing_line
lent_phrase (Bytes bytes) = bytes_line bytes.now
lent_phrase Go = go_line
lent_phrase (Control setup sent) = control_line setup sent.now
lent_phrase (Get name) = get_line name.now
lent_phrase (Set name value) = set_line name.now value
lent_phrase (Show name) = show_line name.now
lent_phrase (Break after) = break_line after
lent_phrase (Append interface samples) = append_line (pos interface) samples.now
lent_phrase (Track interface tone) = track_line (pos interface) (phrase_tone_of tone)
lent_phrase (Jack terminal tone) = jack_line (pos terminal) (phrase_tone_of tone)
lent_phrase (Deviate domain ppm) = deviate_line (pos domain) ppm
lent_phrase (Run count marks) = microframes_line (pos count) (map phrase_mark marks.now)
lent_phrase (Detail level) = detail_line (pos level)
lent_phrase Report = report_line

-- a value's phrase in place of the value
abbrev pub lent_phrase_result : Result LentLine ℕ → Result Phrase ℕ
lent_phrase_result (Ok line) = Ok (lent_phrase line)
lent_phrase_result (Err rule) = Err rule

-- the long parts have room in a value of `Line`; a line that has no long part always fits
abbrev pub Fits : LentLine → Type 0
Fits Nothing = Unit {0}
Fits (Bytes bytes) = length bytes.now ≤ 2048
Fits Go = Unit {0}
Fits (Control setup sent) = length sent.now ≤ 2048
Fits (Get name) = length name.now ≤ 4096
Fits (Set name value) = length name.now ≤ 4096
Fits (Show name) = length name.now ≤ 4096
Fits (Break after) = Unit {0}
Fits (Append interface samples) = length samples.now ≤ 2048
Fits (Track interface tone) = Unit {0}
Fits (Jack terminal tone) = Unit {0}
Fits (Deviate domain ppm) = Unit {0}
Fits (Run count marks) = length marks.now ≤ 24
Fits (Detail level) = Unit {0}
Fits Report = Unit {0}

-- a line that `LentLine::read` gives: each number in its range, no part empty
abbrev pub IsLentInRange : LentLine → Type 0
IsLentInRange line = (is_in_range (lent_phrase line) ≡ true) × HasNoEmptyPart (lent_phrase line)
