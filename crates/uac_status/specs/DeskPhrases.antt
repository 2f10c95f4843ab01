-- What a line of a panel's script says: a line of the table of lines, or one of two more (profile).
use Rattle.std.specs.Prelude.{◌≡◌, ◌≢◌, ℕ, ◌||◌, Bool, true, false, if◌then◌else◌, ℤ, List, [], ◌∷◌, codes, Option, None, Result, Ok, Err, ◌⊎◌}
use Rattle.std.specs.Option.{option_map, option_and_then}
use Rattle.std.specs.Str.{bytes_eq}
use Rattle.uac_edges.specs.Numerals.{numeral}
use Rattle.uac_lines.specs.Ranges.{is_in_32_bits}
use Rattle.uac_lines.specs.ScriptNumerals.{is_number, value_of}
use Rattle.uac_lines.specs.WordParsing.{pair_of}
use Rattle.uac_lines.specs.Words.{Word, words_of, is_idle}
use Rattle.uac_script.specs.Phrase.{Phrase, nothing_line, go_line, is_in_range}
use Rattle.uac_script.specs.Line.{SpellsLine, begins_known}
use Rattle.uac_script.specs.LineParsing.{answer_of, name_in, verdict_by, when_empty}

-- a line of the table of lines; `w NAME VALUE`, which turns the knob of an element; `n`, which follows the messages that wait
pub data DeskPhrase : Type 0 where
  table_line : Phrase → DeskPhrase
  turn_line : Word → ℤ → DeskPhrase
  follow_line : DeskPhrase

-- the descriptor's end
abbrev pub go_phrase : DeskPhrase
go_phrase = table_line go_line

-- ---- how a line is spelt

-- the text spells the line
abbrev pub SpellsDeskLine : List ℕ → DeskPhrase → Type 0
SpellsDeskLine text (table_line phrase) = SpellsLine text phrase
SpellsDeskLine text (turn_line name value) = (words_of text ≡ codes "w" ∷ name ∷ numeral value ∷ []) × (name ≢ [])
SpellsDeskLine text follow_line = words_of text ≡ codes "n" ∷ []

-- the first word is one of the table's, or `w` or `n`
abbrev pub begins_more : List Word → Bool
begins_more [] = false
begins_more (word ∷ words) = bytes_eq word (codes "w") || bytes_eq word (codes "n")

abbrev pub begins_desk_line : List Word → Bool
begins_desk_line words = begins_more words || begins_known words

-- each number of the line lies in its range
abbrev pub is_desk_line_in_range : DeskPhrase → Bool
is_desk_line_in_range (table_line phrase) = is_in_range phrase
is_desk_line_in_range (turn_line name value) = is_in_32_bits value
is_desk_line_in_range follow_line = true

-- ---- what a text says

-- rule S4: the text is a line, but for a number out of its range
abbrev pub IsDeskOutOfRange : List ℕ → Type 0
IsDeskOutOfRange text = (phrase : DeskPhrase) × SpellsDeskLine text phrase × (is_desk_line_in_range phrase ≡ false)

-- rule S3: the first word is known, and the text is no line
abbrev pub IsDeskMisspelt : List ℕ → Type 0
IsDeskMisspelt text =
    (is_idle text ≡ false) × (begins_desk_line (words_of text) ≡ true) × ((phrase : DeskPhrase) → ¬ SpellsDeskLine text phrase)

-- rule S2: the first word isn't known
abbrev pub IsDeskUnknown : List ℕ → Type 0
IsDeskUnknown text = (is_idle text ≡ false) × (begins_desk_line (words_of text) ≡ false)

-- what a text says: the line that it spells, each number in its range, or the first of rules S2 to S4 that it breaks
abbrev pub DeskSays : List ℕ → Result DeskPhrase ℕ → Type 0
DeskSays text (Ok phrase) = SpellsDeskLine text phrase × (is_desk_line_in_range phrase ≡ true)
DeskSays text (Err rule) =
    ((rule ≡ 2) × IsDeskUnknown text) ⊎ ((rule ≡ 3) × IsDeskMisspelt text) ⊎ ((rule ≡ 4) × IsDeskOutOfRange text)

-- ---- what a text says, as a function of it

-- `w` as it is read from the words after it
abbrev pub turn_line_of : Word × Word → Option DeskPhrase
turn_line_of (name, number) = if is_number number then option_map (λ word. turn_line word (value_of number)) (name_in name) else None

abbrev pub desk_verdict : Option DeskPhrase → Result DeskPhrase ℕ
desk_verdict row = verdict_by is_desk_line_in_range row

abbrev pub table_said : Result Phrase ℕ → Result DeskPhrase ℕ
table_said (Ok phrase) = Ok (table_line phrase)
table_said (Err rule) = Err rule

abbrev pub desk_answer_of : List Word → Result DeskPhrase ℕ
desk_answer_of [] = Err 2
desk_answer_of (word ∷ words) =
    if bytes_eq word (codes "w") then desk_verdict (option_and_then turn_line_of (pair_of words))
    else if bytes_eq word (codes "n") then desk_verdict (when_empty follow_line words)
    else table_said (answer_of (word ∷ words))

unfoldable pub desk_answer : List ℕ → Result DeskPhrase ℕ
desk_answer text = if is_idle text then Ok (table_line nothing_line) else desk_answer_of (words_of text)

-- ---- the law

-- the text says this, and nothing else
pub record DeskSaysThis (text : List ℕ) : Type 0 where
  pub says : DeskSays text (desk_answer text)
  pub no_other : (other : Result DeskPhrase ℕ) → DeskSays text other → other ≡ desk_answer text

-- each text says one thing, by the table of lines and the two more alone
abbrev pub DeskSaysOnce : Type 0
DeskSaysOnce = (text : List ℕ) → DeskSaysThis text
