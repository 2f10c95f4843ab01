-- What a text is answered: its line where it spells one in range, and else the first of rules S2 to S4 that it breaks.
use Rattle.std.proofs.Common.{◌≡◌, ◌≢◌, ℕ, ◌<◌, ◌≤◌, Bool, true, false, cond, List, [], ◌∷◌, length, Option, Some, None, is_some, Result, Ok, Err, eqb, inl, inr, sym, ap, ◌∙◌, refl, subst, arith}
use Rattle.std.specs.List.{onto_first}
use Rattle.std.specs.Result.{IfOk, IfErr}
use Rattle.std.proofs.lemmas.Bool.{ne_eqb, false≢true, cond-true, cond-false}
use Rattle.std.proofs.lemmas.Option.{same_Some}
use Rattle.hex.specs.Hex.{decode_of}
use Rattle.hex.specs.declared.error.FromHexError.{FromHexError}
use Rattle.hex.proofs.HexLemmas.{decode_of-ok}
use Rattle.std.specs.Result.{result_ok}
use Rattle.uac_script.specs.declared.line.Line.{Line}
use Rattle.uac_script.specs.declared.lent.LentLine.{LentLine}
use Rattle.uac_lines.specs.Words.{Word, words_of, is_idle, hex_of}
use Rattle.uac_script.specs.Phrase.{Phrase, nothing_line, bytes_line, go_line, control_line, get_line, set_line, show_line, break_line, append_line, track_line, jack_line, deviate_line, microframes_line, detail_line, report_line, is_in_range}
use Rattle.uac_script.specs.Line.{IsRow, SpellsLine, begins_known, phrase_of, HasNoEmptyPart, IsLineInRange, Says, IsOutOfRange, IsMisspelt, IsUnknown}
use Rattle.uac_script.specs.Lent.{lent_phrase, lent_phrase_result, IsLentInRange}
use Rattle.uac_script.specs.LineParsing.{row_of, verdict_of, row_verdict, answer_of, answer, phrase_result}
use Rattle.uac_script.proofs.LineLemmas.{row_sound, row_complete, row_of-letter}

-- ---- the first byte of a text, by its first word

by_space : (b c : ℕ) (parts ws : List Word) (t : Bool) → cond t ([] ∷ parts) (onto_first b parts) ≡ (c ∷ []) ∷ ws → b ≡ c
by_space b c parts ws true h = cc
by_space b c [] ws false h = cc
by_space b c (part ∷ parts) ws false h = cc

first_byte : (text : List ℕ) (c : ℕ) (ws : List Word) → words_of text ≡ (c ∷ []) ∷ ws → is_idle text ≡ eqb c 35
first_byte [] c ws h = cc
first_byte (b ∷ rest) c ws h = ap (λ x. eqb x 35) (by_space b c (words_of rest) ws (eqb b 32) h)

-- ---- a text whose words make a line

not_a_letter : (letter : ℕ) (words : List Word) (p : Phrase) → row_of letter words ≡ Some (Some p) → letter ≡ 35 → ⊥
not_a_letter letter words p h e = let g : row_of 35 words ≡ Some (Some p) = ap (λ l. row_of l words) (sym e) ∙ h in cc

pub record Answers (text : List ℕ) (p : Phrase) : Type 0 where
  pub not_idle : is_idle text ≡ false
  pub known : begins_known (words_of text) ≡ true
  pub answered : answer text ≡ verdict_of (Some p)

pub answers : (text : List ℕ) (p : Phrase) → IsRow (words_of text) p → Answers text p
unfolding answer
answers text p h =
    let r = row_complete (words_of text) p h in
    let quiet : is_idle text ≡ false = first_byte text r.letter r.following r.words-is ∙ ne_eqb r.letter 35 (not_a_letter r.letter r.following p r.row-is) in
    record {
      not_idle = quiet;
      known = ap begins_known r.words-is ∙ sym (row_of-letter r.letter r.following) ∙ ap is_some r.row-is;
      answered = cond-false _ _ _ quiet ∙ ap answer_of r.words-is ∙ ap row_verdict r.row-is;
    }

-- ---- the four kinds of texts

data Case (text : List ℕ) : Type 0 where
  idles : is_idle text ≡ true → answer text ≡ Ok nothing_line → Case text
  unknown : is_idle text ≡ false → begins_known (words_of text) ≡ false → answer text ≡ Err 2 → Case text
  misspelt : is_idle text ≡ false → begins_known (words_of text) ≡ true → answer text ≡ Err 3 → Case text
  spelt : (p : Phrase) → IsRow (words_of text) p → answer text ≡ verdict_of (Some p) → Case text

case_row : (text : List ℕ) (c : ℕ) (ws : List Word) (row : Option (Option Phrase)) → is_idle text ≡ false → words_of text ≡ (c ∷ []) ∷ ws → row_of c ws ≡ row → Case text
unfolding answer
case_row text c ws None quiet h e =
    unknown quiet (ap begins_known h ∙ sym (row_of-letter c ws) ∙ ap is_some e) (cond-false _ _ _ quiet ∙ ap answer_of h ∙ ap row_verdict e)
case_row text c ws (Some None) quiet h e =
    misspelt quiet (ap begins_known h ∙ sym (row_of-letter c ws) ∙ ap is_some e) (cond-false _ _ _ quiet ∙ ap answer_of h ∙ ap row_verdict e)
case_row text c ws (Some (Some p)) quiet h e =
    spelt p (subst (λ words. IsRow words p) (sym h) (row_sound c ws p e)) (cond-false _ _ _ quiet ∙ ap answer_of h ∙ ap row_verdict e)

case_words : (text : List ℕ) (words : List Word) → is_idle text ≡ false → words_of text ≡ words → Case text
unfolding answer
case_words text [] quiet h = unknown quiet (ap begins_known h) (cond-false _ _ _ quiet ∙ ap answer_of h)
case_words text ([] ∷ ws) quiet h = unknown quiet (ap begins_known h) (cond-false _ _ _ quiet ∙ ap answer_of h)
case_words text ((c ∷ []) ∷ ws) quiet h = case_row text c ws (row_of c ws) quiet h refl
case_words text ((c ∷ d ∷ rest) ∷ ws) quiet h =
    unknown quiet (ap begins_known h) (cond-false _ _ _ quiet ∙ ap answer_of h ∙ cond-false _ _ _ (ne_eqb (length (c ∷ d ∷ rest)) 1 (λ e. omega arith)))

case_idle : (text : List ℕ) (b : Bool) → is_idle text ≡ b → Case text
unfolding answer
case_idle text true h = idles h (cond-true _ _ _ h)
case_idle text false h = case_words text (words_of text) h refl

case_of : (text : List ℕ) → Case text
case_of text = case_idle text (is_idle text) refl

-- ---- a line, exactly where the text spells it and each number is in range

same_rule : (m n : ℕ) → ◌≡◌ {A = Result Phrase ℕ} (Err m) (Err n) → m ≡ n
same_rule m n h = cc

judged_ok : (q p : Phrase) (b : Bool) → is_in_range q ≡ b → cond {A = Result Phrase ℕ} b (Ok q) (Err 4) ≡ Ok p → (q ≡ p) × (is_in_range q ≡ true)
judged_ok q p true e h = (cc, e)
judged_ok q p false e h = cc

judged_four : (q : Phrase) (b : Bool) → is_in_range q ≡ b → cond {A = Result Phrase ℕ} b (Ok q) (Err 4) ≡ Err 4 → is_in_range q ≡ false
judged_four q true e h = cc
judged_four q false e h = e

judged_not : (q : Phrase) (b : Bool) (rule : ℕ) → (rule ≡ 4 → ⊥) → cond {A = Result Phrase ℕ} b (Ok q) (Err 4) ≡ Err rule → ⊥
judged_not q true rule other h = cc
judged_not q false rule other h = other (sym (same_rule 4 rule h))

idle_ok : (p : Phrase) → ◌≡◌ {A = Result Phrase ℕ} (Ok nothing_line) (Ok p) → (p ≡ nothing_line) × (is_in_range p ≡ true)
idle_ok p h = let e : p ≡ nothing_line = cc in (e, ap is_in_range e)

ok_then : (text : List ℕ) (p : Phrase) → Case text → answer text ≡ Ok p → SpellsLine text p × (is_in_range p ≡ true)
ok_then text p (idles quiet e) h = let i = idle_ok p (sym e ∙ h) in (inl (quiet, i.0), i.1)
ok_then text p (unknown a b e) h = cc
ok_then text p (misspelt a b e) h = cc
ok_then text p (spelt q row e) h =
    let j = judged_ok q p (is_in_range q) refl (sym e ∙ h) in (inr (subst (λ x. IsRow (words_of text) x) j.0 row), ap is_in_range (sym j.0) ∙ j.1)

then_ok : (text : List ℕ) (p : Phrase) → SpellsLine text p → is_in_range p ≡ true → answer text ≡ Ok p
unfolding answer
then_ok text p (inl i) h = cond-true _ _ _ i.0 ∙ ap (λ x. Ok x) (sym i.1)
then_ok text p (inr row) h = (answers text p row).answered ∙ cond-true _ _ _ h

-- ---- rules S4, S3 and S2

four_then : (text : List ℕ) → Case text → answer text ≡ Err 4 → IsOutOfRange text
four_then text (idles quiet e) h = cc
four_then text (unknown a b e) h = absurd (let x = same_rule 2 4 (sym e ∙ h) in omega arith)
four_then text (misspelt a b e) h = absurd (let x = same_rule 3 4 (sym e ∙ h) in omega arith)
four_then text (spelt q row e) h = (q, inr row, judged_four q (is_in_range q) refl (sym e ∙ h))

then_four : (text : List ℕ) → IsOutOfRange text → answer text ≡ Err 4
then_four text (p, inl i, h) = absurd (false≢true (sym h ∙ ap is_in_range i.1))
then_four text (p, inr row, h) = (answers text p row).answered ∙ cond-false _ _ _ h

never_spelt : (text : List ℕ) (rule : ℕ) → (rule ≡ 4 → ⊥) → is_idle text ≡ false → answer text ≡ Err rule → (p : Phrase) → SpellsLine text p → ⊥
never_spelt text rule other quiet h p (inl i) = false≢true (sym quiet ∙ i.0)
never_spelt text rule other quiet h p (inr row) = judged_not p (is_in_range p) rule other (sym (answers text p row).answered ∙ h)

three_then : (text : List ℕ) → Case text → answer text ≡ Err 3 → IsMisspelt text
three_then text (idles quiet e) h = cc
three_then text (unknown a b e) h = absurd (let x = same_rule 2 3 (sym e ∙ h) in omega arith)
three_then text (misspelt quiet known e) h = (quiet, known, never_spelt text 3 (λ e. omega arith) quiet h)
three_then text (spelt q row e) h = absurd (judged_not q (is_in_range q) 3 (λ e. omega arith) (sym e ∙ h))

then_three : (text : List ℕ) → Case text → IsMisspelt text → answer text ≡ Err 3
then_three text (idles loud e) h = absurd (false≢true (sym h.0 ∙ loud))
then_three text (unknown a b e) h = absurd (false≢true (sym b ∙ h.1))
then_three text (misspelt quiet known e) h = e
then_three text (spelt q row e) h = absurd (h.2 q (inr row))

two_then : (text : List ℕ) → Case text → answer text ≡ Err 2 → IsUnknown text
two_then text (idles quiet e) h = cc
two_then text (unknown a b e) h = (a, b)
two_then text (misspelt quiet known e) h = absurd (let x = same_rule 3 2 (sym e ∙ h) in omega arith)
two_then text (spelt q row e) h = absurd (judged_not q (is_in_range q) 2 (λ e. omega arith) (sym e ∙ h))

then_two : (text : List ℕ) → Case text → IsUnknown text → answer text ≡ Err 2
then_two text (idles loud e) h = absurd (false≢true (sym h.0 ∙ loud))
then_two text (unknown a b e) h = e
then_two text (misspelt quiet known e) h = absurd (false≢true (sym h.1 ∙ known))
then_two text (spelt q row e) h = absurd (false≢true (sym h.1 ∙ (answers text q row).known))

judged_rule : (q : Phrase) (b : Bool) (rule : ℕ) → cond {A = Result Phrase ℕ} b (Ok q) (Err 4) ≡ Err rule → 4 ≡ rule
judged_rule q true rule h = cc
judged_rule q false rule h = same_rule 4 rule h

rules_only : (text : List ℕ) (rule : ℕ) → Case text → answer text ≡ Err rule → (2 ≤ rule) × (rule ≤ 4)
rules_only text rule (idles quiet e) h = cc
rules_only text rule (unknown a b e) h = let x = same_rule 2 rule (sym e ∙ h) in (omega arith, omega arith)
rules_only text rule (misspelt a b e) h = let x = same_rule 3 rule (sym e ∙ h) in (omega arith, omega arith)
rules_only text rule (spelt q row e) h = let x = judged_rule q (is_in_range q) rule (sym e ∙ h) in (omega arith, omega arith)

-- ---- no part of a line is empty

bytes_there : (digits : Word) (bytes : List ℕ) (r : Result (List ℕ) FromHexError) → 0 < length digits → decode_of digits ≡ r → result_ok r ≡ Some bytes → bytes ≢ []
bytes_there digits bytes (Err e) long h ok = cc
bytes_there digits bytes (Ok decoded) long h ok =
    let d = decode_of-ok digits decoded h in
    let same = same_Some decoded bytes ok in
    λ none. let empty : length decoded ≡ 0 = ap length (same ∙ none) in absurd (omega (arith, d.2))

hex_there : (digits : Word) (bytes : List ℕ) → hex_of digits ≡ Some bytes → bytes ≢ []
hex_there [] bytes h = cc
hex_there (c ∷ rest) bytes h = bytes_there (c ∷ rest) bytes (decode_of (c ∷ rest)) (omega arith) refl h

row_there : (words : List Word) (p : Phrase) → IsRow words p → HasNoEmptyPart p
row_there words nothing_line h = tt
row_there words (bytes_line bytes) h = hex_there h.0 bytes h.2
row_there words go_line h = tt
row_there words (control_line setup sent) h = tt
row_there words (get_line name) h = h.1
row_there words (set_line name value) h = h.1
row_there words (show_line name) h = h.1
row_there words (break_line after) h = tt
row_there words (append_line z samples) h = h.1
row_there words (track_line z v) h = tt
row_there words (jack_line z v) h = tt
row_there words (deviate_line y z) h = tt
row_there words (microframes_line z losses) h = tt
row_there words (detail_line z) h = tt
row_there words report_line h = tt

spells_there : (text : List ℕ) (p : Phrase) → SpellsLine text p → HasNoEmptyPart p
spells_there text p (inl i) = subst HasNoEmptyPart (sym i.1) tt
spells_there text p (inr row) = row_there (words_of text) p row

-- ---- what a text says is what it is answered

says_err : (text : List ℕ) (rule : ℕ) → Case text → answer text ≡ Err rule → Says text (Err rule)
says_err text rule (idles quiet e) h = cc
says_err text rule (unknown a b e) h = inl (sym (same_rule 2 rule (sym e ∙ h)), (a, b))
says_err text rule (misspelt a b e) h = let three = same_rule 3 rule (sym e ∙ h) in inr (inl (sym three, three_then text (misspelt a b e) e))
says_err text rule (spelt q row e) h =
    let four = judged_rule q (is_in_range q) rule (sym e ∙ h) in inr (inr (sym four, four_then text (spelt q row e) (h ∙ ap (λ r. Err r) (sym four))))

says_answer : (text : List ℕ) (told : Result Phrase ℕ) → answer text ≡ told → Says text told
says_answer text (Ok phrase) h = ok_then text phrase (case_of text) h
says_answer text (Err rule) h = says_err text rule (case_of text) h

pub answer_says : (text : List ℕ) → Says text (answer text)
answer_says text = says_answer text (answer text) refl

pub says_only : (text : List ℕ) (told : Result Phrase ℕ) → Says text told → told ≡ answer text
says_only text (Ok phrase) h = sym (then_ok text phrase h.0 h.1)
says_only text (Err rule) (inl h) = ap (λ r. Err r) h.0 ∙ sym (then_two text (case_of text) h.1)
says_only text (Err rule) (inr (inl h)) = ap (λ r. Err r) h.0 ∙ sym (then_three text (case_of text) h.1)
says_only text (Err rule) (inr (inr h)) = ap (λ r. Err r) h.0 ∙ sym (then_four text h.1)

-- ---- the clauses of `Line::read` and of `LentLine::read`

-- a phrase in range that has no empty part
abbrev KeepsPhrase : Phrase → Type 0
KeepsPhrase phrase = (is_in_range phrase ≡ true) × HasNoEmptyPart phrase

keeps_answer : (text : List ℕ) (r : Result Phrase ℕ) → r ≡ answer text → IfOk r KeepsPhrase
keeps_answer text (Ok phrase) e = let o = ok_then text phrase (case_of text) (sym e) in (o.1, spells_there text phrase o.0)
keeps_answer text (Err rule) e = tt

refuses_answer : (text : List ℕ) (r : Result Phrase ℕ) → r ≡ answer text → IfErr r (λ rule. (2 ≤ rule) × (rule ≤ 4))
refuses_answer text (Ok phrase) e = tt
refuses_answer text (Err rule) e = rules_only text rule (case_of text) (sym e)

pub read_says : (text : List ℕ) (r : Result Line ℕ) → phrase_result r ≡ answer text → Says text (phrase_result r)
read_says text r e = says_answer text (phrase_result r) (sym e)

pub read_keeps : (text : List ℕ) (r : Result Line ℕ) → phrase_result r ≡ answer text → IfOk r IsLineInRange
read_keeps text (Ok line) e = keeps_answer text (Ok (phrase_of line)) e
read_keeps text (Err rule) e = tt

pub read_refuses : (text : List ℕ) (r : Result Line ℕ) → phrase_result r ≡ answer text → IfErr r (λ rule. (2 ≤ rule) × (rule ≤ 4))
read_refuses text (Ok line) e = tt
read_refuses text (Err rule) e = refuses_answer text (Err rule) e

pub lent_keeps : (text : List ℕ) (r : Result LentLine ℕ) → lent_phrase_result r ≡ answer text → IfOk r IsLentInRange
lent_keeps text (Ok line) e = keeps_answer text (Ok (lent_phrase line)) e
lent_keeps text (Err rule) e = tt

pub lent_refuses : (text : List ℕ) (r : Result LentLine ℕ) → lent_phrase_result r ≡ answer text → IfErr r (λ rule. (2 ≤ rule) × (rule ≤ 4))
lent_refuses text (Ok line) e = tt
lent_refuses text (Err rule) e = refuses_answer text (Err rule) e
