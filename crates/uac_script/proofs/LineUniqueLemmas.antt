-- What the definitions of the grammar rest on: the words of a text, one line for a text, one value for a line.
use Rattle.std.proofs.Common.{◌≡◌, ◌≢◌, ℕ, ◌<◌, Bool, true, not, List, [], ◌∷◌, ◌++◌, map, length, Some, Ok, eqb, ℤ, pos, negsuc, inl, inr, sym, ap, ◌∙◌, refl, arith}
use Rattle.std.specs.List.{onto_first, join_with_byte, list_all}
use Rattle.std.specs.Result.{result_ok}
use Rattle.std.proofs.lemmas.List.Splits.{join_with_byte-slice_split, slice_split-cons_no}
use Rattle.std.proofs.lemmas.Bool.{and_parts, not-true, false≢true}
use Rattle.std.proofs.lemmas.Option.{same_Some}
use Rattle.hex.specs.Hex.{decode_of, encode_lower, encode_upper, encode_with, lower_digits, upper_digits, IsBytes}
use Rattle.hex.proofs.HexLemmas.{decode_of-encode_lower, decode_of-encode_upper, length-encode_with}
use Rattle.uac_pcm.specs.declared.tones.Tone.{Tone}
use Rattle.uac_pcm.specs.declared.tones.Tone.TheVariants.{Silent, Ramp, Noise}
use Rattle.uac_script.specs.declared.line.Mark.{Mark}
use Rattle.uac_script.specs.declared.line.Line.{Line}
use Rattle.uac_script.specs.declared.line.Line.TheVariants.{Nothing, Bytes, Go, Control, Get, Set, Show, Break, Append, Track, Jack, Deviate, Run, Detail, Report}
use Rattle.uac_lines.specs.Words.{Word, words_of, hex_of}
use Rattle.uac_script.specs.Phrase.{PhraseTone, silent, ramp_tone, noise_tone, PhraseMark, Phrase, nothing_line, bytes_line, go_line, control_line, get_line, set_line, show_line, break_line, append_line, track_line, jack_line, deviate_line, microframes_line, detail_line, report_line}
use Rattle.uac_script.specs.Line.{SpellsLine, phrase_of, phrase_tone_of, phrase_mark}
use Rattle.uac_script.specs.LineParsing.{row_of}
use Rattle.uac_script.proofs.LineLemmas.{IsRead, row_complete}
use Rattle.uac_script.proofs.LineParsingLemmas.{answers}

-- ---- the words of a text are the only words without a space that give it back when they are joined by one space each

abbrev pub has_no_space : Word → Bool
has_no_space word = list_all (λ c. not (eqb c 32)) word

pub join-words_of : (text : List ℕ) → join_with_byte 32 (words_of text) ≡ text
join-words_of text = join_with_byte-slice_split 32 text

word_then : (word : Word) (rest : List ℕ) → has_no_space word ≡ true → words_of (word ++ 32 ∷ rest) ≡ word ∷ words_of rest
word_then [] rest h = refl
word_then (c ∷ word) rest h =
    let parts = and_parts (not (eqb c 32)) (has_no_space word) h in
    slice_split-cons_no (λ b. eqb b 32) c (word ++ 32 ∷ rest) (not-true _ parts.0) ∙ ap (onto_first c) (word_then word rest parts.1)

word_alone : (word : Word) → has_no_space word ≡ true → words_of word ≡ word ∷ []
word_alone [] h = refl
word_alone (c ∷ word) h =
    let parts = and_parts (not (eqb c 32)) (has_no_space word) h in
    slice_split-cons_no (λ b. eqb b 32) c word (not-true _ parts.0) ∙ ap (onto_first c) (word_alone word parts.1)

pub words_of-join : (word : Word) (words : List Word) → list_all has_no_space (word ∷ words) ≡ true → words_of (join_with_byte 32 (word ∷ words)) ≡ word ∷ words
words_of-join word [] h = word_alone word (and_parts (has_no_space word) _ h).0
words_of-join word (next ∷ words) h =
    let parts = and_parts (has_no_space word) (list_all has_no_space (next ∷ words)) h in
    word_then word (join_with_byte 32 (next ∷ words)) parts.0 ∙ ap (λ ws. word ∷ ws) (words_of-join next words parts.1)

-- ---- HEX of either case spells the bytes that it was made of

hex_from : (text bytes : List ℕ) → text ≢ [] → decode_of text ≡ Ok bytes → hex_of text ≡ Some bytes
hex_from [] bytes there h = absurd (there refl)
hex_from (c ∷ rest) bytes there h = ap result_ok h

not_empty : (text : List ℕ) → 0 < length text → text ≢ []
not_empty [] h = absurd (omega arith)
not_empty (c ∷ rest) h = λ e. cc

twice : (digits : List ℕ) (b : ℕ) (bytes : List ℕ) → 0 < length (encode_with digits (b ∷ bytes))
twice digits b bytes = rw length-encode_with (omega arith)

pub hex_of-encode_lower : (b : ℕ) (bytes : List ℕ) → IsBytes (b ∷ bytes) → hex_of (encode_lower (b ∷ bytes)) ≡ Some (b ∷ bytes)
hex_of-encode_lower b bytes h = hex_from _ _ (not_empty _ (twice lower_digits b bytes)) (decode_of-encode_lower (b ∷ bytes) h)

pub hex_of-encode_upper : (b : ℕ) (bytes : List ℕ) → IsBytes (b ∷ bytes) → hex_of (encode_upper (b ∷ bytes)) ≡ Some (b ∷ bytes)
hex_of-encode_upper b bytes h = hex_from _ _ (not_empty _ (twice upper_digits b bytes)) (decode_of-encode_upper (b ∷ bytes) h)

-- ---- a text spells one line at most

read_once : (words : List Word) (p q : Phrase) → IsRead words p → IsRead words q → p ≡ q
read_once words p q a b =
    let same = sym a.words-is ∙ b.words-is in
    let letter : a.letter ≡ b.letter = cc in
    let following : a.following ≡ b.following = cc in
    same_Some _ _ (same_Some _ _ (sym a.row-is ∙ ap (λ l. row_of l a.following) letter ∙ ap (row_of b.letter) following ∙ b.row-is))

pub one_line : (text : List ℕ) (p q : Phrase) → SpellsLine text p → SpellsLine text q → p ≡ q
one_line text p q (inl a) (inl b) = a.1 ∙ sym b.1
one_line text p q (inl a) (inr b) = absurd (false≢true (sym (answers text q b).not_idle ∙ a.0))
one_line text p q (inr a) (inl b) = absurd (false≢true (sym (answers text p a).not_idle ∙ b.0))
one_line text p q (inr a) (inr b) = read_once (words_of text) p q (row_complete (words_of text) p a) (row_complete (words_of text) q b)

-- ---- two values that stand for one line are the same

size : ℤ → ℕ
size (pos n) = n
size (negsuc n) = 0

tone_back : PhraseTone → Tone
tone_back silent = Silent
tone_back (ramp_tone start step) = Ramp start step
tone_back (noise_tone seed) = Noise (size seed)

mark_back : PhraseMark → Mark
mark_back loss = record { kind = loss.kind; interface = size loss.interface }

line_back : Phrase → Line
line_back nothing_line = Nothing
line_back (bytes_line bytes) = Bytes (record { items = bytes })
line_back go_line = Go
line_back (control_line setup sent) = Control setup (record { items = sent })
line_back (get_line name) = Get (record { items = name })
line_back (set_line name value) = Set (record { items = name }) value
line_back (show_line name) = Show (record { items = name })
line_back (break_line after) = Break after
line_back (append_line interface samples) = Append (size interface) (record { items = samples })
line_back (track_line interface tone) = Track (size interface) (tone_back tone)
line_back (jack_line terminal tone) = Jack (size terminal) (tone_back tone)
line_back (deviate_line domain ppm) = Deviate (size domain) ppm
line_back (microframes_line count losses) = Run (size count) (record { items = map mark_back losses })
line_back (detail_line level) = Detail (size level)
line_back report_line = Report

tone_same : (tone : Tone) → tone_back (phrase_tone_of tone) ≡ tone
unfolding tone_back size
tone_same Silent = refl
tone_same (Ramp start step) = refl
tone_same (Noise seed) = refl

marks_same : (marks : List Mark) → map mark_back (map phrase_mark marks) ≡ marks
unfolding mark_back size
marks_same [] = refl
marks_same (mark ∷ marks) = ap (λ ms. mark ∷ ms) (marks_same marks)

marks_with : ℕ → List Mark → Line
marks_with count marks = Run count (record { items = marks })

line_same : (line : Line) → line_back (phrase_of line) ≡ line
unfolding line_back size marks_with
line_same Nothing = refl
line_same (Bytes bytes) = refl
line_same Go = refl
line_same (Control setup sent) = refl
line_same (Get name) = refl
line_same (Set name value) = refl
line_same (Show name) = refl
line_same (Break after) = refl
line_same (Append interface samples) = refl
line_same (Track interface tone) = ap (Track interface) (tone_same tone)
line_same (Jack terminal tone) = ap (Jack terminal) (tone_same tone)
line_same (Deviate domain ppm) = refl
line_same (Run count marks) = ap (marks_with count) (marks_same marks.items)
line_same (Detail level) = refl
line_same Report = refl

pub same_line : (a b : Line) → phrase_of a ≡ phrase_of b → a ≡ b
same_line a b h = sym (line_same a) ∙ ap line_back h ∙ line_same b
