-- The table of lines, read and spelt: `row_of` reads exactly what `IsRow` allows.
use Rattle.std.proofs.Common.{◌≡◌, ◌≢◌, ℕ, Bool, true, false, cond, ◌&&◌, ◌||◌, List, [], ◌∷◌, map, length, Option, Some, None, is_some, unwrap_or, ℤ, eqb, ◌⊎◌, inl, inr, sym, ap, ◌∙◌, refl, subst, codes}
use Rattle.std.specs.List.{list_all, list_any}
use Rattle.std.specs.Option.{option_map, option_and_then}
use Rattle.std.specs.Str.{bytes_eq}
use Rattle.std.proofs.lemmas.Slice.Eq.{bytes_eq-Decides}
use Rattle.std.proofs.lemmas.Bool.{and_parts, and_from, eqb-true, eq-eqb, cond-true, false≢true}
use Rattle.std.proofs.lemmas.Option.{cond_some, same_Some}
use Rattle.uac_script.specs.declared.line.MarkKind.{MarkKind}
use Rattle.uac_script.specs.declared.line.MarkKind.TheVariants.{Out, In, Feedback}
use Rattle.uac_lines.specs.Words.{Word, hex_of}
use Rattle.uac_lines.specs.WordParsing.{only_of, pair_of, setup_bytes_in}
use Rattle.uac_edges.specs.Numerals.{numeral}
use Rattle.uac_lines.specs.ScriptNumerals.{is_number, value_of}
use Rattle.uac_script.specs.Phrase.{PhraseTone, silent, ramp_tone, noise_tone, PhraseMark, Phrase, nothing_line, bytes_line, go_line, control_line, get_line, set_line, show_line, break_line, append_line, track_line, jack_line, deviate_line, microframes_line, detail_line, report_line}
use Rattle.uac_script.specs.Line.{IsRow, tone_words, letter_of_mark, mark_word, letters}
use Rattle.uac_script.specs.LineParsing.{when_empty, name_in, from_number, bytes_line_of, sent_of, control_line_of, set_line_of, element_line_of, break_line_at, break_line_of, append_line_of, ramp_of, tone_read, signal_of, track_line_of, jack_line_of, deviation_of, deviate_line_of, mark_kind_of, is_mark, mark_of, microframes_line_of, detail_line_of, row_of}
use Rattle.uac_lines.proofs.ScriptNumeralsUniqueLemmas.{is_number-numeral, value_of-numeral, numeral-value_of}

-- ---- what a step of reading needs to give something

then_some : {A B : Type 0} (f : A → Option B) (o : Option A) (y : B) → option_and_then f o ≡ Some y → (x : A) × (o ≡ Some x) × (f x ≡ Some y)
then_some f None y h = cc
then_some f (Some x) y h = (x, refl, h)

map_some : {A B : Type 0} (f : A → B) (o : Option A) (y : B) → option_map f o ≡ Some y → (x : A) × (o ≡ Some x) × (f x ≡ y)
map_some f None y h = cc
map_some f (Some x) y h = (x, refl, cc)

empty_some : {A : Type 0} (x y : A) (words : List Word) → when_empty x words ≡ Some y → (words ≡ []) × (x ≡ y)
empty_some x y [] h = (refl, cc)
empty_some x y (word ∷ words) h = cc

only_some : (words : List Word) (word : Word) → only_of words ≡ Some word → words ≡ word ∷ []
only_some [] word h = cc
only_some (first ∷ []) word h = cc
only_some (first ∷ next ∷ words) word h = cc

pair_some : (words : List Word) (pair : Word × Word) → pair_of words ≡ Some pair → words ≡ pair.0 ∷ pair.1 ∷ []
pair_some [] pair h = cc
pair_some (first ∷ []) pair h = cc
pair_some (first ∷ next ∷ []) pair h = ap (λ (p : Word × Word). p.0 ∷ p.1 ∷ []) (same_Some _ _ h)
pair_some (first ∷ next ∷ third ∷ words) pair h = cc

name_some : (word name : Word) → name_in word ≡ Some name → (word ≡ name) × (name ≢ [])
name_some [] name h = cc
name_some (c ∷ word) name h = let e = same_Some _ _ h in (e, λ empty. cc)

-- one test of a row of tests
chosen : {A : Type 0} {P : Type 0} (b : Bool) (x y z : A) → cond b x y ≡ z → (b ≡ true → x ≡ z → P) → (b ≡ false → y ≡ z → P) → P
chosen true x y z h so otherwise = so refl h
chosen false x y z h so otherwise = otherwise refl h

same_word : (word other : Word) → bytes_eq word other ≡ true → word ≡ other
same_word word other h = (bytes_eq-Decides word other).0 h

-- ---- each row: what is read is a row of the table

Allows : ℕ → List Word → Phrase → Type 0
Allows letter words phrase = IsRow ((letter ∷ []) ∷ words) phrase

feeds_sound : (words : List Word) (p : Phrase) → bytes_line_of words ≡ Some p → Allows 100 words p
unfolding Allows
feeds_sound words p h =
    let o = then_some (λ word. option_map bytes_line (hex_of word)) (only_of words) p h in
    let m = map_some bytes_line (hex_of o.0) p o.2 in
    subst (λ q. IsRow ((100 ∷ []) ∷ words) q) m.2 (o.0, ap (λ ws. (100 ∷ []) ∷ ws) (only_some words o.0 o.1), m.1)

alone_sound : (letter : ℕ) (words : List Word) (alone p : Phrase) → IsRow ((letter ∷ []) ∷ []) alone → when_empty alone words ≡ Some p → Allows letter words p
unfolding Allows
alone_sound letter words alone p row h =
    let e = empty_some alone p words h in
    subst (λ q. IsRow ((letter ∷ []) ∷ words) q) e.1 (subst (λ ws. IsRow ((letter ∷ []) ∷ ws) alone) (sym e.0) row)

setup_some : (word : Word) (setup : List ℕ) → setup_bytes_in word ≡ Some setup → (hex_of word ≡ Some setup) × (length setup ≡ 8)
setup_some word setup h =
    let t = then_some (λ bytes. cond (eqb (length bytes) 8) (Some bytes) None) (hex_of word) setup h in
    let parts = cond_some (eqb (length t.0) 8) t.0 setup t.2 in
    (t.1 ∙ ap (λ x. Some x) parts.1, ap length (sym parts.1) ∙ eqb-true _ _ parts.0)

sent_some : (head : Word) (words : List Word) (sent : List ℕ) → sent_of words ≡ Some sent
    → (((codes "c" ∷ head ∷ words) ≡ (codes "c" ∷ head ∷ [])) × (sent ≡ [])) ⊎ ((digits : Word) × ((codes "c" ∷ head ∷ words) ≡ (codes "c" ∷ head ∷ digits ∷ [])) × (hex_of digits ≡ Some sent))
sent_some head [] sent h = inl (refl, sym (same_Some _ _ h))
sent_some head (word ∷ words) sent h =
    let o = then_some hex_of (only_of (word ∷ words)) sent h in
    inr (o.0, ap (λ ws. codes "c" ∷ head ∷ ws) (only_some (word ∷ words) o.0 o.1), o.2)

controls_sound : (words : List Word) (p : Phrase) → control_line_of words ≡ Some p → Allows 99 words p
unfolding Allows
controls_sound [] p h = cc
controls_sound (head ∷ words) p h =
    let t = then_some (λ setup. option_map (control_line setup) (sent_of words)) (setup_bytes_in head) p h in
    let m = map_some (control_line t.0) (sent_of words) p t.2 in
    let s = setup_some head t.0 t.1 in
    subst (λ q. IsRow ((99 ∷ []) ∷ head ∷ words) q) m.2 (head, s.0, s.1, sent_some head words m.0 m.1)

breaks_sound : (words : List Word) (p : Phrase) → break_line_of words ≡ Some p → Allows 98 words p
unfolding Allows
breaks_sound words p h =
    let o = then_some break_line_at (only_of words) p h in
    let e = only_some words o.0 o.1 in
    chosen (bytes_eq o.0 (codes "before")) (Some (break_line false)) _ (Some p) o.2 (λ t x. subst (λ q. IsRow ((98 ∷ []) ∷ words) q) (same_Some _ _ x) (ap (λ ws. (98 ∷ []) ∷ ws) (e ∙ ap (λ w. w ∷ []) (same_word o.0 _ t))))
    (λ t x. let parts = cond_some (bytes_eq o.0 (codes "after")) (break_line true) p x in subst (λ q. IsRow ((98 ∷ []) ∷ words) q) parts.1 (ap (λ ws. (98 ∷ []) ∷ ws) (e ∙ ap (λ w. w ∷ []) (same_word o.0 _ parts.0))))

deviates_sound : (words : List Word) (p : Phrase) → deviate_line_of words ≡ Some p → Allows 107 words p
unfolding Allows
deviates_sound words p h =
    let t = then_some deviation_of (pair_of words) p h in
    let e = pair_some words t.0 t.1 in
    let parts = cond_some (is_number t.0.0 && is_number t.0.1) (deviate_line (value_of t.0.0) (value_of t.0.1)) p t.2 in
    let numbers = and_parts (is_number t.0.0) (is_number t.0.1) parts.0 in
    subst (λ q. IsRow ((107 ∷ []) ∷ words) q) parts.1 (ap (λ ws. (107 ∷ []) ∷ ws) (e ∙ ap (λ w. w ∷ t.0.1 ∷ []) (numeral-value_of t.0.0 numbers.0) ∙ ap (λ w. numeral (value_of t.0.0) ∷ w ∷ []) (numeral-value_of t.0.1 numbers.1)))

details_sound : (words : List Word) (p : Phrase) → detail_line_of words ≡ Some p → Allows 118 words p
unfolding Allows
details_sound words p h =
    let t = then_some (from_number detail_line) (only_of words) p h in
    let parts = cond_some (is_number t.0) (detail_line (value_of t.0)) p t.2 in
    subst (λ q. IsRow ((118 ∷ []) ∷ words) q) parts.1 (ap (λ ws. (118 ∷ []) ∷ ws) (only_some words t.0 t.1 ∙ ap (λ w. w ∷ []) (numeral-value_of t.0 parts.0)))

named_some : (words : List Word) (name : Word) → option_and_then name_in (only_of words) ≡ Some name → (words ≡ name ∷ []) × (name ≢ [])
named_some words name h =
    let t = then_some name_in (only_of words) name h in
    let n = name_some t.0 name t.2 in
    (only_some words t.0 t.1 ∙ ap (λ w. w ∷ []) n.0, n.1)

gets_sound : (verb : Word) (words : List Word) (p : Phrase) → verb ≡ codes "get" → option_map get_line (option_and_then name_in (only_of words)) ≡ Some p → Allows 104 (verb ∷ words) p
unfolding Allows
gets_sound verb words p same h =
    let m = map_some get_line (option_and_then name_in (only_of words)) p h in
    let n = named_some words m.0 m.1 in
    subst (λ q. IsRow ((104 ∷ []) ∷ verb ∷ words) q) m.2 (ap (λ w. (104 ∷ []) ∷ w ∷ words) same ∙ ap (λ ws. (104 ∷ []) ∷ codes "get" ∷ ws) n.0, n.1)

shows_sound : (verb : Word) (words : List Word) (p : Phrase) → verb ≡ codes "show" → option_map show_line (option_and_then name_in (only_of words)) ≡ Some p → Allows 104 (verb ∷ words) p
unfolding Allows
shows_sound verb words p same h =
    let m = map_some show_line (option_and_then name_in (only_of words)) p h in
    let n = named_some words m.0 m.1 in
    subst (λ q. IsRow ((104 ∷ []) ∷ verb ∷ words) q) m.2 (ap (λ w. (104 ∷ []) ∷ w ∷ words) same ∙ ap (λ ws. (104 ∷ []) ∷ codes "show" ∷ ws) n.0, n.1)

sets_sound : (verb : Word) (words : List Word) (p : Phrase) → verb ≡ codes "set" → option_and_then set_line_of (pair_of words) ≡ Some p → Allows 104 (verb ∷ words) p
unfolding Allows
sets_sound verb words p same h =
    let t = then_some set_line_of (pair_of words) p h in
    chosen (is_number t.0.1) (option_map (λ word. set_line word (value_of t.0.1)) (name_in t.0.0)) None (Some p) t.2
    (λ number x.
    let m = map_some (λ word. set_line word (value_of t.0.1)) (name_in t.0.0) p x in
    let n = name_some t.0.0 m.0 m.1 in
    subst (λ q. IsRow ((104 ∷ []) ∷ verb ∷ words) q) m.2 (
      ap (λ w. (104 ∷ []) ∷ w ∷ words) same
          ∙ ap (λ ws. (104 ∷ []) ∷ codes "set" ∷ ws) (pair_some words t.0 t.1 ∙ ap (λ w. w ∷ t.0.1 ∷ []) n.0 ∙ ap (λ w. m.0 ∷ w ∷ []) (numeral-value_of t.0.1 number)),
      n.1,
    ))
    (λ _ x. cc)

element_sound : (words : List Word) (p : Phrase) → element_line_of words ≡ Some p → Allows 104 words p
element_sound [] p h = cc
element_sound (verb ∷ words) p h =
    chosen (bytes_eq verb (codes "get")) (option_map get_line (option_and_then name_in (only_of words))) _ (Some p) h
    (λ t x. gets_sound verb words p (same_word verb _ t) x)
    (λ _ g. chosen (bytes_eq verb (codes "set")) (option_and_then set_line_of (pair_of words)) _ (Some p) g
    (λ t x. sets_sound verb words p (same_word verb _ t) x)
    (λ _ g. chosen (bytes_eq verb (codes "show")) (option_map show_line (option_and_then name_in (only_of words))) None (Some p) g
    (λ t x. shows_sound verb words p (same_word verb _ t) x)
    (λ _ x. cc)))

all_numerals : (words : List Word) → list_all is_number words ≡ true → words ≡ map numeral (map value_of words)
all_numerals [] h = refl
all_numerals (word ∷ words) h =
    let parts = and_parts (is_number word) _ h in
    ap (λ w. w ∷ words) (numeral-value_of word parts.0) ∙ ap (λ ws. numeral (value_of word) ∷ ws) (all_numerals words parts.1)

appends_sound : (words : List Word) (p : Phrase) → append_line_of words ≡ Some p → Allows 97 words p
unfolding Allows
appends_sound [] p h = cc
appends_sound (word ∷ []) p h = cc
appends_sound (word ∷ sample ∷ samples) p h =
    let parts = cond_some (is_number word && list_all is_number (sample ∷ samples)) (append_line (value_of word) (map value_of (sample ∷ samples))) p h in
    let numbers = and_parts (is_number word) _ parts.0 in
    subst (λ q. IsRow ((97 ∷ []) ∷ word ∷ sample ∷ samples) q) parts.1 (
      ap (λ w. (97 ∷ []) ∷ w ∷ sample ∷ samples) (numeral-value_of word numbers.0) ∙ ap (λ ws. (97 ∷ []) ∷ numeral (value_of word) ∷ ws) (all_numerals (sample ∷ samples) numbers.1),
      λ empty. cc,
    )

ramp_sound : (words : List Word) (v : PhraseTone) → option_and_then ramp_of (pair_of words) ≡ Some v → codes "ramp" ∷ words ≡ tone_words v
ramp_sound words v h =
    let t = then_some ramp_of (pair_of words) v h in
    let parts = cond_some (is_number t.0.0 && is_number t.0.1) (ramp_tone (value_of t.0.0) (value_of t.0.1)) v t.2 in
    let numbers = and_parts (is_number t.0.0) (is_number t.0.1) parts.0 in
    ap (λ ws. codes "ramp" ∷ ws) (pair_some words t.0 t.1 ∙ ap (λ w. w ∷ t.0.1 ∷ []) (numeral-value_of t.0.0 numbers.0) ∙ ap (λ w. numeral (value_of t.0.0) ∷ w ∷ []) (numeral-value_of t.0.1 numbers.1))
    ∙ ap tone_words parts.1

noise_sound : (words : List Word) (v : PhraseTone) → option_and_then (from_number noise_tone) (only_of words) ≡ Some v → codes "noise" ∷ words ≡ tone_words v
noise_sound words v h =
    let t = then_some (from_number noise_tone) (only_of words) v h in
    let parts = cond_some (is_number t.0) (noise_tone (value_of t.0)) v t.2 in
    ap (λ ws. codes "noise" ∷ ws) (only_some words t.0 t.1 ∙ ap (λ w. w ∷ []) (numeral-value_of t.0 parts.0)) ∙ ap tone_words parts.1

silent_sound : (words : List Word) (v : PhraseTone) → when_empty silent words ≡ Some v → codes "none" ∷ words ≡ tone_words v
silent_sound words v h = let e = empty_some silent v words h in ap (λ ws. codes "none" ∷ ws) e.0 ∙ ap tone_words e.1

voice_sound : (words : List Word) (v : PhraseTone) → tone_read words ≡ Some v → words ≡ tone_words v
voice_sound [] v h = cc
voice_sound (kind ∷ words) v h =
    chosen (bytes_eq kind (codes "none")) (when_empty silent words) _ (Some v) h
    (λ t x. ap (λ w. w ∷ words) (same_word kind _ t) ∙ silent_sound words v x)
    (λ _ g. chosen (bytes_eq kind (codes "ramp")) (option_and_then ramp_of (pair_of words)) _ (Some v) g
    (λ t x. ap (λ w. w ∷ words) (same_word kind _ t) ∙ ramp_sound words v x)
    (λ _ g. chosen (bytes_eq kind (codes "noise")) (option_and_then (from_number noise_tone) (only_of words)) None (Some v) g
    (λ t x. ap (λ w. w ∷ words) (same_word kind _ t) ∙ noise_sound words v x)
    (λ _ x. cc)))

signal_sound : (words : List Word) (signal : ℤ × PhraseTone) → signal_of words ≡ Some signal → words ≡ numeral signal.0 ∷ tone_words signal.1
signal_sound [] signal h = cc
signal_sound (word ∷ words) signal h =
    chosen (is_number word) (option_map (λ tone. (value_of word, tone)) (tone_read words)) None (Some signal) h
    (λ number x.
    let m = map_some (λ tone. (value_of word, tone)) (tone_read words) signal x in
    ap (λ w. w ∷ words) (numeral-value_of word number) ∙ ap (λ ws. numeral (value_of word) ∷ ws) (voice_sound words m.0 m.1) ∙ ap (λ (s : ℤ × PhraseTone). numeral s.0 ∷ tone_words s.1) m.2)
    (λ _ x. cc)

tracks_sound : (words : List Word) (p : Phrase) → track_line_of words ≡ Some p → Allows 116 words p
unfolding Allows
tracks_sound words p h =
    let m = map_some (λ (signal : ℤ × PhraseTone). track_line signal.0 signal.1) (signal_of words) p h in
    subst (λ q. IsRow ((116 ∷ []) ∷ words) q) m.2 (ap (λ ws. (116 ∷ []) ∷ ws) (signal_sound words m.0 m.1))

jacks_sound : (words : List Word) (p : Phrase) → jack_line_of words ≡ Some p → Allows 106 words p
unfolding Allows
jacks_sound words p h =
    let m = map_some (λ (signal : ℤ × PhraseTone). jack_line signal.0 signal.1) (signal_of words) p h in
    subst (λ q. IsRow ((106 ∷ []) ∷ words) q) m.2 (ap (λ ws. (106 ∷ []) ∷ ws) (signal_sound words m.0 m.1))

kind_by : Bool → Bool → Bool → Option MarkKind
kind_by out inward report = cond out (Some Out) (cond inward (Some In) (cond report (Some Feedback) None))

kind_tests : (letter : ℕ) (out inward report : Bool) → eqb letter 111 ≡ out → eqb letter 105 ≡ inward → eqb letter 102 ≡ report
    → is_some (kind_by out inward report) ≡ true → letter ≡ letter_of_mark (unwrap_or (kind_by out inward report) Out)
unfolding kind_by
kind_tests letter true inward report a b c h = eqb-true _ _ a
kind_tests letter false true report a b c h = eqb-true _ _ b
kind_tests letter false false true a b c h = eqb-true _ _ c
kind_tests letter false false false a b c h = absurd (false≢true h)

kind_sound : (letter : ℕ) → is_some (mark_kind_of letter) ≡ true → letter ≡ letter_of_mark (unwrap_or (mark_kind_of letter) Out)
unfolding kind_by
kind_sound letter h = kind_tests letter (eqb letter 111) (eqb letter 105) (eqb letter 102) refl refl refl h

mark_sound : (word : Word) → is_mark word ≡ true → word ≡ mark_word (mark_of word)
mark_sound [] h = absurd (false≢true h)
mark_sound (letter ∷ word) h =
    let parts = and_parts (is_some (mark_kind_of letter)) (is_number word) h in
    ap (λ c. c ∷ word) (kind_sound letter parts.0) ∙ ap (λ w. letter_of_mark (unwrap_or (mark_kind_of letter) Out) ∷ w) (numeral-value_of word parts.1)

all_marks : (words : List Word) → list_all is_mark words ≡ true → words ≡ map mark_word (map mark_of words)
all_marks [] h = refl
all_marks (word ∷ words) h =
    let parts = and_parts (is_mark word) _ h in
    ap (λ w. w ∷ words) (mark_sound word parts.0) ∙ ap (λ ws. mark_word (mark_of word) ∷ ws) (all_marks words parts.1)

runs_sound : (words : List Word) (p : Phrase) → microframes_line_of words ≡ Some p → Allows 109 words p
unfolding Allows
runs_sound [] p h = cc
runs_sound (word ∷ words) p h =
    let parts = cond_some (is_number word && list_all is_mark words) (microframes_line (value_of word) (map mark_of words)) p h in
    let spelt = and_parts (is_number word) _ parts.0 in
    subst (λ q. IsRow ((109 ∷ []) ∷ word ∷ words) q) parts.1 (ap (λ w. (109 ∷ []) ∷ w ∷ words) (numeral-value_of word spelt.0) ∙ ap (λ ws. (109 ∷ []) ∷ numeral (value_of word) ∷ ws) (all_marks words spelt.1))

-- ---- the table

row_step : (b : Bool) (row : Option Phrase) (more : Option (Option Phrase)) (p : Phrase) {P : Type 0} → cond b (Some row) more ≡ Some (Some p) → (b ≡ true → row ≡ Some p → P) → (more ≡ Some (Some p) → P) → P
row_step true row more p h so otherwise = so refl (same_Some _ _ h)
row_step false row more p h so otherwise = otherwise h

at_letter : (letter number : ℕ) (words : List Word) (p : Phrase) → eqb letter number ≡ true → Allows number words p → Allows letter words p
unfolding Allows
at_letter letter number words p t row = subst (λ l. IsRow ((l ∷ []) ∷ words) p) (sym (eqb-true _ _ t)) row

pub row_sound : (letter : ℕ) (words : List Word) (p : Phrase) → row_of letter words ≡ Some (Some p) → IsRow ((letter ∷ []) ∷ words) p
unfolding Allows
row_sound letter words p h =
    row_step (eqb letter 100) (bytes_line_of words) _ p h (λ t r. at_letter letter 100 words p t (feeds_sound words p r)) (λ h.
    row_step (eqb letter 103) (when_empty go_line words) _ p h (λ t r. at_letter letter 103 words p t (alone_sound 103 words go_line p refl r)) (λ h.
    row_step (eqb letter 99) (control_line_of words) _ p h (λ t r. at_letter letter 99 words p t (controls_sound words p r)) (λ h.
    row_step (eqb letter 104) (element_line_of words) _ p h (λ t r. at_letter letter 104 words p t (element_sound words p r)) (λ h.
    row_step (eqb letter 98) (break_line_of words) _ p h (λ t r. at_letter letter 98 words p t (breaks_sound words p r)) (λ h.
    row_step (eqb letter 97) (append_line_of words) _ p h (λ t r. at_letter letter 97 words p t (appends_sound words p r)) (λ h.
    row_step (eqb letter 116) (track_line_of words) _ p h (λ t r. at_letter letter 116 words p t (tracks_sound words p r)) (λ h.
    row_step (eqb letter 106) (jack_line_of words) _ p h (λ t r. at_letter letter 106 words p t (jacks_sound words p r)) (λ h.
    row_step (eqb letter 107) (deviate_line_of words) _ p h (λ t r. at_letter letter 107 words p t (deviates_sound words p r)) (λ h.
    row_step (eqb letter 109) (microframes_line_of words) _ p h (λ t r. at_letter letter 109 words p t (runs_sound words p r)) (λ h.
    row_step (eqb letter 118) (detail_line_of words) _ p h (λ t r. at_letter letter 118 words p t (details_sound words p r)) (λ h.
    row_step (eqb letter 113) (when_empty report_line words) None p h (λ t r. at_letter letter 113 words p t (alone_sound 113 words report_line p refl r)) (λ h. cc))))))))))))

-- ---- and each row of the table is read

-- the row of these words, read
pub record IsRead (words : List Word) (p : Phrase) : Type 0 where
  pub letter : ℕ
  pub following : List Word
  pub words-is : words ≡ (letter ∷ []) ∷ following
  pub row-is : row_of letter following ≡ Some (Some p)

numbers_read : (zs : List ℤ) → list_all is_number (map numeral zs) ≡ true
numbers_read [] = refl
numbers_read (z ∷ zs) = and_from _ _ (is_number-numeral z) (numbers_read zs)

values_read : (zs : List ℤ) → map value_of (map numeral zs) ≡ zs
values_read [] = refl
values_read (z ∷ zs) = ap (λ x. x ∷ map value_of (map numeral zs)) (value_of-numeral z) ∙ ap (λ xs. z ∷ xs) (values_read zs)

kind_read : (kind : MarkKind) → mark_kind_of (letter_of_mark kind) ≡ Some kind
kind_read Out = refl
kind_read In = refl
kind_read Feedback = refl

loss_with : MarkKind → ℤ → PhraseMark
loss_with kind z = record { kind = kind; interface = z }

mark_read : (loss : PhraseMark) → (is_mark (mark_word loss) ≡ true) × (mark_of (mark_word loss) ≡ loss)
unfolding loss_with
mark_read loss = (
  and_from _ _ (ap is_some (kind_read loss.kind)) (is_number-numeral loss.interface),
  ap (λ o. loss_with (unwrap_or o Out) (value_of (numeral loss.interface))) (kind_read loss.kind) ∙ ap (loss_with loss.kind) (value_of-numeral loss.interface),
)

marks_read : (losses : List PhraseMark) → list_all is_mark (map mark_word losses) ≡ true
marks_read [] = refl
marks_read (loss ∷ losses) = and_from _ _ (mark_read loss).0 (marks_read losses)

losses_read : (losses : List PhraseMark) → map mark_of (map mark_word losses) ≡ losses
losses_read [] = refl
losses_read (loss ∷ losses) = ap (λ x. x ∷ map mark_of (map mark_word losses)) (mark_read loss).1 ∙ ap (λ xs. loss ∷ xs) (losses_read losses)

name_read : (name : Word) → name ≢ [] → name_in name ≡ Some name
name_read [] h = absurd (h refl)
name_read (c ∷ name) h = refl

voice_read : (v : PhraseTone) → tone_read (tone_words v) ≡ Some v
voice_read silent = refl
voice_read (ramp_tone start step) = simp (is_number-numeral, value_of-numeral)
voice_read (noise_tone seed) = simp (is_number-numeral, value_of-numeral)

signal_read : (z : ℤ) (v : PhraseTone) → signal_of (numeral z ∷ tone_words v) ≡ Some (z, v)
signal_read z v = simp (is_number-numeral, value_of-numeral, voice_read)

appends_read : (z : ℤ) (samples : List ℤ) → samples ≢ [] → append_line_of (numeral z ∷ map numeral samples) ≡ Some (append_line z samples)
appends_read z [] h = absurd (h refl)
appends_read z (sample ∷ samples) h =
    cond-true _ _ _ (and_from _ _ (is_number-numeral z) (numbers_read (sample ∷ samples)))
    ∙ ap (λ v. Some (append_line v (map value_of (map numeral (sample ∷ samples))))) (value_of-numeral z) ∙ ap (λ vs. Some (append_line z vs)) (values_read (sample ∷ samples))

runs_read : (z : ℤ) (losses : List PhraseMark) → microframes_line_of (numeral z ∷ map mark_word losses) ≡ Some (microframes_line z losses)
runs_read z losses = simp (is_number-numeral, value_of-numeral, marks_read, losses_read)

setup_read : (head : Word) (setup : List ℕ) → hex_of head ≡ Some setup → length setup ≡ 8 → setup_bytes_in head ≡ Some setup
setup_read head setup h eight = ap (option_and_then (λ bytes. cond (eqb (length bytes) 8) (Some bytes) None)) h ∙ cond-true _ _ _ (eq-eqb _ 8 eight)

controls_alone : (head : Word) (setup sent : List ℕ) → setup_bytes_in head ≡ Some setup → sent ≡ [] → control_line_of (head ∷ []) ≡ Some (control_line setup sent)
controls_alone head setup sent h none = ap (option_and_then (λ setup. Some (control_line setup []))) h ∙ ap (λ bytes. Some (control_line setup bytes)) (sym none)

controls_sending : (head digits : Word) (setup sent : List ℕ) → setup_bytes_in head ≡ Some setup → hex_of digits ≡ Some sent → control_line_of (head ∷ digits ∷ []) ≡ Some (control_line setup sent)
controls_sending head digits setup sent h bytes = ap (option_and_then (λ setup. option_map (control_line setup) (hex_of digits))) h ∙ ap (option_map (control_line setup)) bytes

pub row_complete : (words : List Word) (p : Phrase) → IsRow words p → IsRead words p
row_complete words nothing_line h = absurd h
row_complete words (bytes_line bytes) h = record { letter = 100; following = h.0 ∷ []; words-is = h.1; row-is = ap (λ o. Some (option_map bytes_line o)) h.2 }
row_complete words go_line h = record { letter = 103; following = []; words-is = h; row-is = refl }
row_complete words (control_line setup sent) h =
    let head = setup_read h.0 setup h.1 h.2 in
    elim h.3 [
      | inl alone ↦ record { letter = 99; following = h.0 ∷ []; words-is = alone.0; row-is = ap (λ o. Some o) (controls_alone h.0 setup sent head alone.1) }
      | inr sending ↦ record { letter = 99; following = h.0 ∷ sending.0 ∷ []; words-is = sending.1; row-is = ap (λ o. Some o) (controls_sending h.0 sending.0 setup sent head sending.2) }
    ]
row_complete words (get_line name) h = record { letter = 104; following = codes "get" ∷ name ∷ []; words-is = h.0; row-is = ap (λ o. Some (option_map get_line o)) (name_read name h.1) }
row_complete words (set_line name value) h = record { letter = 104; following = codes "set" ∷ name ∷ numeral value ∷ []; words-is = h.0; row-is = simp (is_number-numeral, value_of-numeral) (ap (λ o. Some (option_map (λ word. set_line word value) o)) (name_read name h.1)) }
row_complete words (show_line name) h = record { letter = 104; following = codes "show" ∷ name ∷ []; words-is = h.0; row-is = ap (λ o. Some (option_map show_line o)) (name_read name h.1) }
row_complete words (break_line true) h = record { letter = 98; following = codes "after" ∷ []; words-is = h; row-is = refl }
row_complete words (break_line false) h = record { letter = 98; following = codes "before" ∷ []; words-is = h; row-is = refl }
row_complete words (append_line z samples) h = record { letter = 97; following = numeral z ∷ map numeral samples; words-is = h.0; row-is = ap (λ o. Some o) (appends_read z samples h.1) }
row_complete words (track_line z v) h = record { letter = 116; following = numeral z ∷ tone_words v; words-is = h; row-is = ap (λ o. Some (option_map (λ (signal : ℤ × PhraseTone). track_line signal.0 signal.1) o)) (signal_read z v) }
row_complete words (jack_line z v) h = record { letter = 106; following = numeral z ∷ tone_words v; words-is = h; row-is = ap (λ o. Some (option_map (λ (signal : ℤ × PhraseTone). jack_line signal.0 signal.1) o)) (signal_read z v) }
row_complete words (deviate_line y z) h = record { letter = 107; following = numeral y ∷ numeral z ∷ []; words-is = h; row-is = simp (is_number-numeral, value_of-numeral) }
row_complete words (microframes_line z losses) h = record { letter = 109; following = numeral z ∷ map mark_word losses; words-is = h; row-is = ap (λ o. Some o) (runs_read z losses) }
row_complete words (detail_line z) h = record { letter = 118; following = numeral z ∷ []; words-is = h; row-is = simp (is_number-numeral, value_of-numeral) }
row_complete words report_line h = record { letter = 113; following = []; words-is = h; row-is = refl }

-- ---- letters

row_or_none : (b t : Bool) (row : Option Phrase) (more : Option (Option Phrase)) → is_some more ≡ t → is_some (cond b (Some row) more) ≡ (b || t)
row_or_none true t row more h = refl
row_or_none false t row more h = h

-- the letters that have a row are those of the table
pub row_of-letter : (letter : ℕ) (words : List Word) → is_some (row_of letter words) ≡ list_any (λ c. eqb letter c) letters
row_of-letter letter words =
    row_or_none (eqb letter 100) _ _ _ (row_or_none (eqb letter 103) _ _ _ (row_or_none (eqb letter 99) _ _ _ (row_or_none (eqb letter 104) _ _ _
    (row_or_none (eqb letter 98) _ _ _ (row_or_none (eqb letter 97) _ _ _ (row_or_none (eqb letter 116) _ _ _ (row_or_none (eqb letter 106) _ _ _
    (row_or_none (eqb letter 107) _ _ _ (row_or_none (eqb letter 109) _ _ _ (row_or_none (eqb letter 118) _ _ _ (row_or_none (eqb letter 113) _ _ _ refl)))))))))))
