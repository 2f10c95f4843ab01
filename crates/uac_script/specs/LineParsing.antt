-- Profile: the table of lines, parsed from the words after the first one. `proofs/LineLemmas.antt` shows that it reads exactly what
-- `SpellsLine` spells.
use Rattle.std.specs.Prelude.{ℕ, ◌==◌, ◌&&◌, Bool, true, false, if◌then◌else◌, List, [], ◌∷◌, map, length, slice_index, codes, ℤ, pos}
use Rattle.std.specs.Prelude.{Option, Some, None, is_some, unwrap_or, Result, Ok, Err}
use Rattle.std.specs.List.{list_all}
use Rattle.std.specs.Option.{option_map, option_and_then}
use Rattle.std.specs.Str.{bytes_eq}
use Rattle.uac_script.specs.declared.line.MarkKind.{MarkKind}
use Rattle.uac_script.specs.declared.line.MarkKind.TheVariants.{Out, In, Feedback}
use Rattle.uac_script.specs.declared.line.Line.{Line}
use Rattle.uac_lines.specs.Words.{Word, words_of, is_idle, hex_of}
use Rattle.uac_lines.specs.WordParsing.{only_of, pair_of, setup_bytes_in}
use Rattle.uac_lines.specs.ScriptNumerals.{is_number, value_of}
use Rattle.uac_lines.specs.Ranges.{is_id, is_in_32_bits}
use Rattle.uac_script.specs.Phrase.{PhraseTone, silent, ramp_tone, noise_tone, PhraseMark}
use Rattle.uac_script.specs.Phrase.{Phrase, nothing_line, bytes_line, go_line, control_line, get_line, set_line, show_line, break_line}
use Rattle.uac_script.specs.Phrase.{append_line, track_line, jack_line, deviate_line, microframes_line, detail_line, report_line}
use Rattle.uac_script.specs.Phrase.{is_tone_in_range}
use Rattle.uac_script.specs.Phrase.{is_in_range}
use Rattle.uac_script.specs.Line.{phrase_of}

-- this, where no word is left
abbrev pub when_empty : {A : Type 0} → A → List Word → Option A
when_empty x [] = Some x
when_empty x (word ∷ words) = None

-- a name: any word but the empty one
abbrev pub name_in : Word → Option Word
name_in [] = None
name_in (c ∷ name) = Some (c ∷ name)

abbrev pub from_number : {A : Type 0} → (ℤ → A) → Word → Option A
from_number f word = if is_number word then Some (f (value_of word)) else None

abbrev pub bytes_line_of : List Word → Option Phrase
bytes_line_of words = option_and_then (λ word. option_map bytes_line (hex_of word)) (only_of words)

-- the bytes sent: none, or one word of them
abbrev pub sent_of : List Word → Option (List ℕ)
sent_of [] = Some []
sent_of (word ∷ words) = option_and_then hex_of (only_of (word ∷ words))

abbrev pub control_line_of : List Word → Option Phrase
control_line_of [] = None
control_line_of (word ∷ words) = option_and_then (λ setup. option_map (control_line setup) (sent_of words)) (setup_bytes_in word)

abbrev pub set_line_of : Word × Word → Option Phrase
set_line_of (name, numeral) = if is_number numeral then option_map (λ word. set_line word (value_of numeral)) (name_in name) else None

abbrev pub element_line_of : List Word → Option Phrase
element_line_of [] = None
element_line_of (verb ∷ words) =
    if bytes_eq verb (codes "get") then option_map get_line (option_and_then name_in (only_of words))
    else if bytes_eq verb (codes "set") then option_and_then set_line_of (pair_of words)
    else if bytes_eq verb (codes "show") then option_map show_line (option_and_then name_in (only_of words))
    else None

abbrev pub break_line_at : Word → Option Phrase
break_line_at word =
    if bytes_eq word (codes "before") then Some (break_line false)
    else if bytes_eq word (codes "after") then Some (break_line true)
    else None

abbrev pub break_line_of : List Word → Option Phrase
break_line_of words = option_and_then break_line_at (only_of words)

abbrev pub append_line_of : List Word → Option Phrase
append_line_of [] = None
append_line_of (word ∷ []) = None
append_line_of (word ∷ sample ∷ samples) =
    if is_number word && list_all is_number (sample ∷ samples) then Some (append_line (value_of word) (map value_of (sample ∷ samples)))
    else None

abbrev pub ramp_of : Word × Word → Option PhraseTone
ramp_of (start, step) = if is_number start && is_number step then Some (ramp_tone (value_of start) (value_of step)) else None

abbrev pub tone_read : List Word → Option PhraseTone
tone_read [] = None
tone_read (kind ∷ words) =
    if bytes_eq kind (codes "none") then when_empty silent words
    else if bytes_eq kind (codes "ramp") then option_and_then ramp_of (pair_of words)
    else if bytes_eq kind (codes "noise") then option_and_then (from_number noise_tone) (only_of words)
    else None

-- an id and its tone
abbrev pub signal_of : List Word → Option (ℤ × PhraseTone)
signal_of [] = None
signal_of (word ∷ words) = if is_number word then option_map (λ tone. (value_of word, tone)) (tone_read words) else None

abbrev pub track_line_of : List Word → Option Phrase
track_line_of words = option_map (λ signal. track_line signal.0 signal.1) (signal_of words)

abbrev pub jack_line_of : List Word → Option Phrase
jack_line_of words = option_map (λ signal. jack_line signal.0 signal.1) (signal_of words)

abbrev pub deviation_of : Word × Word → Option Phrase
deviation_of (domain, ppm) = if is_number domain && is_number ppm then Some (deviate_line (value_of domain) (value_of ppm)) else None

abbrev pub deviate_line_of : List Word → Option Phrase
deviate_line_of words = option_and_then deviation_of (pair_of words)

abbrev pub mark_kind_of : ℕ → Option MarkKind
mark_kind_of letter = if letter == 111 then Some Out else if letter == 105 then Some In else if letter == 102 then Some Feedback else None

-- a mark: the letter of a kind, and a number
abbrev pub is_mark : Word → Bool
is_mark [] = false
is_mark (letter ∷ word) = is_some (mark_kind_of letter) && is_number word

abbrev pub mark_of : Word → PhraseMark
mark_of [] = record { kind = Out; interface = pos 0 }
mark_of (letter ∷ word) = record { kind = unwrap_or (mark_kind_of letter) Out; interface = value_of word }

abbrev pub microframes_line_of : List Word → Option Phrase
microframes_line_of [] = None
microframes_line_of (word ∷ words) = if is_number word
    && list_all is_mark words then Some (microframes_line (value_of word) (map mark_of words)) else None

abbrev pub detail_line_of : List Word → Option Phrase
detail_line_of words = option_and_then (from_number detail_line) (only_of words)

-- the row of this letter, read from the words after it; no row has another letter
abbrev pub row_of : ℕ → List Word → Option (Option Phrase)
row_of letter words =
    if letter == 100 then Some (bytes_line_of words)
    else if letter == 103 then Some (when_empty go_line words)
    else if letter == 99 then Some (control_line_of words)
    else if letter == 104 then Some (element_line_of words)
    else if letter == 98 then Some (break_line_of words)
    else if letter == 97 then Some (append_line_of words)
    else if letter == 116 then Some (track_line_of words)
    else if letter == 106 then Some (jack_line_of words)
    else if letter == 107 then Some (deviate_line_of words)
    else if letter == 109 then Some (microframes_line_of words)
    else if letter == 118 then Some (detail_line_of words)
    else if letter == 113 then Some (when_empty report_line words)
    else None

-- what is spelt is misspelt, out of range, or itself
abbrev pub verdict_by : {A : Type 0} → (A → Bool) → Option A → Result A ℕ
verdict_by is_right None = Err 3
verdict_by is_right (Some x) = if is_right x then Ok x else Err 4

abbrev pub verdict_of : Option Phrase → Result Phrase ℕ
verdict_of row = verdict_by is_in_range row

abbrev pub tone_verdict : Option PhraseTone → Result PhraseTone ℕ
tone_verdict tone = verdict_by is_tone_in_range tone

abbrev pub signal_verdict : Option (ℤ × PhraseTone) → Result (ℤ × PhraseTone) ℕ
signal_verdict signal = verdict_by (λ s. is_id s.0 && is_tone_in_range s.1) signal

abbrev pub row_verdict : Option (Option Phrase) → Result Phrase ℕ
row_verdict None = Err 2
row_verdict (Some row) = verdict_of row

-- what the words of a line answer: the first one is a letter
abbrev pub answer_of : List Word → Result Phrase ℕ
answer_of [] = Err 2
answer_of (word ∷ words) = if length word == 1 then row_verdict (row_of (slice_index word 0) words) else Err 2

-- what a text is answered: the line that it says, or the first of rules S2 to S4 that it breaks
unfoldable pub answer : List ℕ → Result Phrase ℕ
answer text = if is_idle text then Ok nothing_line else answer_of (words_of text)

-- a value's phrase in place of the value
abbrev pub phrase_result : Result Line ℕ → Result Phrase ℕ
phrase_result (Ok line) = Ok (phrase_of line)
phrase_result (Err rule) = Err rule

-- the samples of these words: each in range, or nothing
abbrev pub samples_of : List Word → Option (List ℤ)
samples_of words = if list_all is_in_32_bits (map value_of words) then Some (map value_of words) else None
