-- Profile: the lines of the script, one case for each row of their table.
use Rattle.std.specs.Prelude.{◌≡◌, ◌≢◌, ℕ, ◌==◌, Bool, true, false, if◌then◌else◌, List, [], ◌∷◌, map, length, codes, pos, Some, Result, Ok}
use Rattle.std.specs.Prelude.{Err, ◌⊎◌}
use Rattle.std.specs.List.{list_any}
use Rattle.uac_pcm.specs.declared.tones.Tone.{Tone}
use Rattle.uac_pcm.specs.declared.tones.Tone.TheVariants.{Silent, Ramp, Noise}
use Rattle.uac_script.specs.declared.line.MarkKind.{MarkKind}
use Rattle.uac_script.specs.declared.line.MarkKind.TheVariants.{Out, In, Feedback}
use Rattle.uac_script.specs.declared.line.Mark.{Mark}
use Rattle.uac_script.specs.declared.line.Line.{Line}
use Rattle.uac_script.specs.declared.line.Line.TheVariants.{Nothing, Bytes, Go, Control, Get, Set, Show, Break, Append, Track, Jack}
use Rattle.uac_script.specs.declared.line.Line.TheVariants.{Deviate, Run, Detail, Report}
use Rattle.uac_lines.specs.Words.{Word, words_of, is_idle, hex_of}
use Rattle.uac_edges.specs.Numerals.{numeral}
use Rattle.uac_script.specs.Phrase.{PhraseTone, silent, ramp_tone, noise_tone, PhraseMark}
use Rattle.uac_script.specs.Phrase.{Phrase, nothing_line, bytes_line, go_line, control_line, get_line, set_line, show_line, break_line}
use Rattle.uac_script.specs.Phrase.{append_line, track_line, jack_line, deviate_line, microframes_line, detail_line, report_line}
use Rattle.uac_script.specs.Phrase.{is_in_range}

-- ---- how a line is spelt

-- the words of a tone, after the id that it is for
abbrev pub tone_words : PhraseTone → List Word
tone_words silent = codes "none" ∷ []
tone_words (ramp_tone start step) = codes "ramp" ∷ numeral start ∷ numeral step ∷ []
tone_words (noise_tone seed) = codes "noise" ∷ numeral seed ∷ []

abbrev pub letter_of_mark : MarkKind → ℕ
letter_of_mark Out = 111
letter_of_mark In = 105
letter_of_mark Feedback = 102

-- a mark: `o`, `i` or `f` and the interface's number, in one word
abbrev pub mark_word : PhraseMark → Word
mark_word mark = letter_of_mark mark.kind ∷ numeral mark.interface

-- the words make the line: each case is a row of the table of lines
abbrev pub IsRow : List Word → Phrase → Type 0
IsRow words nothing_line = ⊥
IsRow words (bytes_line bytes) = (digits : Word) × (words ≡ codes "d" ∷ digits ∷ []) × (hex_of digits ≡ Some bytes)
IsRow words go_line = words ≡ codes "g" ∷ []
IsRow words (control_line setup sent) = (head : Word) × (hex_of head ≡ Some setup) × (length setup ≡ 8)
    × (((words ≡ codes "c" ∷ head ∷ []) × (sent ≡ []))
    ⊎ ((digits : Word) × (words ≡ codes "c" ∷ head ∷ digits ∷ []) × (hex_of digits ≡ Some sent)))
IsRow words (get_line name) = (words ≡ codes "h" ∷ codes "get" ∷ name ∷ []) × (name ≢ [])
IsRow words (set_line name value) = (words ≡ codes "h" ∷ codes "set" ∷ name ∷ numeral value ∷ []) × (name ≢ [])
IsRow words (show_line name) = (words ≡ codes "h" ∷ codes "show" ∷ name ∷ []) × (name ≢ [])
IsRow words (break_line after) = words ≡ codes "b" ∷ (if after then codes "after" else codes "before") ∷ []
IsRow words (append_line interface samples) = (words ≡ codes "a" ∷ numeral interface ∷ map numeral samples) × (samples ≢ [])
IsRow words (track_line interface tone) = words ≡ codes "t" ∷ numeral interface ∷ tone_words tone
IsRow words (jack_line terminal tone) = words ≡ codes "j" ∷ numeral terminal ∷ tone_words tone
IsRow words (deviate_line domain ppm) = words ≡ codes "k" ∷ numeral domain ∷ numeral ppm ∷ []
IsRow words (microframes_line count marks) = words ≡ codes "m" ∷ numeral count ∷ map mark_word marks
IsRow words (detail_line level) = words ≡ codes "v" ∷ numeral level ∷ []
IsRow words report_line = words ≡ codes "q" ∷ []

-- the text spells the line: it does nothing and the line is the idle one, or its words make the line
abbrev pub SpellsLine : List ℕ → Phrase → Type 0
SpellsLine text phrase = ((is_idle text ≡ true) × (phrase ≡ nothing_line)) ⊎ IsRow (words_of text) phrase

-- the first words of the table of lines, each of one letter
abbrev pub letters : List ℕ
letters = codes "dgchbatjkmvq"

-- the word is one of these
abbrev pub is_letter : Word → Bool
is_letter [] = false
is_letter (c ∷ []) = list_any (λ letter. c == letter) letters
is_letter (c ∷ next ∷ rest) = false

abbrev pub begins_known : List Word → Bool
begins_known [] = false
begins_known (word ∷ words) = is_letter word

-- ---- what a value of the type says

abbrev pub phrase_tone_of : Tone → PhraseTone
phrase_tone_of Silent = silent
phrase_tone_of (Ramp start step) = ramp_tone start step
phrase_tone_of (Noise seed) = noise_tone (pos seed)

abbrev pub phrase_mark : Mark → PhraseMark
phrase_mark mark = record { kind = mark.kind; interface = pos mark.interface }

-- the line that a value stands for; two values that stand for one line are the same
abbrev pub phrase_of : Line → Phrase
phrase_of Nothing = nothing_line
phrase_of (Bytes bytes) = bytes_line bytes.items
phrase_of Go = go_line
phrase_of (Control setup sent) = control_line setup sent.items
phrase_of (Get name) = get_line name.items
phrase_of (Set name value) = set_line name.items value
phrase_of (Show name) = show_line name.items
phrase_of (Break after) = break_line after
phrase_of (Append interface samples) = append_line (pos interface) samples.items
phrase_of (Track interface tone) = track_line (pos interface) (phrase_tone_of tone)
phrase_of (Jack terminal tone) = jack_line (pos terminal) (phrase_tone_of tone)
phrase_of (Deviate domain ppm) = deviate_line (pos domain) ppm
phrase_of (Run count marks) = microframes_line (pos count) (map phrase_mark marks.items)
phrase_of (Detail level) = detail_line (pos level)
phrase_of Report = report_line

-- what a line has besides the ranges of its numbers: bytes of `d`, names and samples that aren't empty; nothing is asked of the others
abbrev pub HasNoEmptyPart : Phrase → Type 0
HasNoEmptyPart nothing_line = Unit {0}
HasNoEmptyPart (bytes_line bytes) = bytes ≢ []
HasNoEmptyPart go_line = Unit {0}
HasNoEmptyPart (control_line setup sent) = Unit {0}
HasNoEmptyPart (get_line name) = name ≢ []
HasNoEmptyPart (set_line name value) = name ≢ []
HasNoEmptyPart (show_line name) = name ≢ []
HasNoEmptyPart (break_line after) = Unit {0}
HasNoEmptyPart (append_line interface samples) = samples ≢ []
HasNoEmptyPart (track_line interface tone) = Unit {0}
HasNoEmptyPart (jack_line terminal tone) = Unit {0}
HasNoEmptyPart (deviate_line domain ppm) = Unit {0}
HasNoEmptyPart (microframes_line count marks) = Unit {0}
HasNoEmptyPart (detail_line level) = Unit {0}
HasNoEmptyPart report_line = Unit {0}

-- a line that `Line::read` gives: each number in its range, no part empty
abbrev pub IsLineInRange : Line → Type 0
IsLineInRange line = (is_in_range (phrase_of line) ≡ true) × HasNoEmptyPart (phrase_of line)

-- ---- what a text says

-- rule S4: the text is a line, but for a number out of its range
abbrev pub IsOutOfRange : List ℕ → Type 0
IsOutOfRange text = (phrase : Phrase) × SpellsLine text phrase × (is_in_range phrase ≡ false)

-- rule S3: the first word is known, and the text is no line
abbrev pub IsMisspelt : List ℕ → Type 0
IsMisspelt text = (is_idle text ≡ false) × (begins_known (words_of text) ≡ true) × ((phrase : Phrase) → ¬ SpellsLine text phrase)

-- rule S2: the first word isn't known
abbrev pub IsUnknown : List ℕ → Type 0
IsUnknown text = (is_idle text ≡ false) × (begins_known (words_of text) ≡ false)

-- what a text says: the line that it spells, each number in its range, or the first of rules S2 to S4 that it breaks
abbrev pub Says : List ℕ → Result Phrase ℕ → Type 0
Says text (Ok phrase) = SpellsLine text phrase × (is_in_range phrase ≡ true)
Says text (Err rule) = ((rule ≡ 2) × IsUnknown text) ⊎ ((rule ≡ 3) × IsMisspelt text) ⊎ ((rule ≡ 4) × IsOutOfRange text)
