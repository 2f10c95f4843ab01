-- What a text says is what it is answered.
use Rattle.std.proofs.Common.{◌≡◌, ◌≢◌, ◌∙◌, refl, ap, sym, subst, ℕ, ◌||◌, Bool, true, false, cond, if◌then◌else◌, ℤ, List, [], ◌∷◌, eqb, Option, None, Some, Result, Ok, Err, ◌⊎◌, inl, inr, codes}
use Rattle.std.specs.List.{onto_first}
use Rattle.std.specs.Option.{option_map, option_and_then}
use Rattle.std.specs.Str.{bytes_eq}
use Rattle.std.proofs.lemmas.Bool.{cond-true, cond-false, false≢true}
use Rattle.std.proofs.lemmas.Slice.Eq.{bytes_eq-Decides}
use Rattle.uac_edges.specs.Numerals.{numeral}
use Rattle.uac_lines.specs.ScriptNumerals.{is_number, value_of}
use Rattle.uac_lines.specs.WordParsing.{pair_of}
use Rattle.uac_lines.specs.Words.{Word, words_of, is_idle}
use Rattle.uac_lines.proofs.ScriptNumeralsUniqueLemmas.{is_number-numeral, value_of-numeral, numeral-value_of}
use Rattle.uac_script.specs.Phrase.{Phrase}
use Rattle.uac_script.specs.Line.{SpellsLine, begins_known, Says}
use Rattle.uac_script.specs.LineParsing.{answer, answer_of, name_in, when_empty}
use Rattle.uac_script.proofs.LineParsingLemmas.{answers, answer_says, says_only}
use Rattle.uac_status.specs.DeskPhrases.{DeskPhrase, table_line, turn_line, follow_line, SpellsDeskLine, begins_more, is_desk_line_in_range, DeskSays, turn_line_of, desk_verdict, table_said, desk_answer_of, desk_answer, DeskSaysOnce}

-- ---- the first byte of a text, by its first word

by_space : (b c : ℕ) (parts ws : List Word) (t : Bool) → cond t ([] ∷ parts) (onto_first b parts) ≡ (c ∷ []) ∷ ws → b ≡ c
by_space b c parts ws true h = cc
by_space b c [] ws false h = cc
by_space b c (part ∷ parts) ws false h = cc

first_byte : (text : List ℕ) (c : ℕ) (ws : List Word) → words_of text ≡ (c ∷ []) ∷ ws → is_idle text ≡ eqb c 35
first_byte [] c ws h = cc
first_byte (b ∷ rest) c ws h = ap (λ x. eqb x 35) (by_space b c (words_of rest) ws (eqb b 32) h)

-- ---- the words after the first

same_word : (word other : Word) → bytes_eq word other ≡ true → word ≡ other
same_word word other h = (bytes_eq-Decides word other).0 h

-- `w NAME VALUE`, read
turn_some : (words : List Word) (p : DeskPhrase) → option_and_then turn_line_of (pair_of words) ≡ Some p
    → (name : Word) × (value : ℤ) × (p ≡ turn_line name value) × (words ≡ name ∷ numeral value ∷ []) × (name ≢ [])
turn_some [] p h = absurd (cc)
turn_some (name ∷ []) p h = absurd (cc)
turn_some (name ∷ number ∷ third ∷ words) p h = absurd (cc)
turn_some (name ∷ number ∷ []) p h = by (is_number number) refl h where
  named : (word : Word) → is_number number ≡ true → option_map (λ w. turn_line w (value_of number)) (name_in word) ≡ Some p
      → (n : Word) × (v : ℤ) × (p ≡ turn_line n v) × (word ∷ number ∷ [] ≡ n ∷ numeral v ∷ []) × (n ≢ [])
  named [] is e = absurd (cc)
  named (c ∷ rest) is e = (c ∷ rest, value_of number, cc, ap (λ w. (c ∷ rest) ∷ w ∷ []) (numeral-value_of number is), λ empty. cc)

  by : (b : Bool) → is_number number ≡ b → (if b then option_map (λ word. turn_line word (value_of number)) (name_in name) else None) ≡ Some p
      → (n : Word) × (v : ℤ) × (p ≡ turn_line n v) × (name ∷ number ∷ [] ≡ n ∷ numeral v ∷ []) × (n ≢ [])
  by true is e = named name is e
  by false is e = absurd (cc)

name_read : (name : Word) → name ≢ [] → name_in name ≡ Some name
name_read [] h = absurd (h refl)
name_read (c ∷ name) h = refl

turn_read : (words : List Word) (name : Word) (value : ℤ) → words ≡ name ∷ numeral value ∷ [] → name ≢ [] → option_and_then turn_line_of (pair_of words) ≡ Some (turn_line name value)
turn_read words name value is there =
    ap (λ (ws : List Word). option_and_then turn_line_of (pair_of ws)) is
    ∙ ap (λ (b : Bool). if b then option_map (λ word. turn_line word (value_of (numeral value))) (name_in name) else None) (is_number-numeral value)
    ∙ ap (option_map (λ word. turn_line word (value_of (numeral value)))) (name_read name there)
    ∙ ap (λ (v : ℤ). Some (turn_line name v)) (value_of-numeral value)

follow_some : (words : List Word) (p : DeskPhrase) → when_empty follow_line words ≡ Some p → (words ≡ []) × (p ≡ follow_line)
follow_some [] p h = (refl, cc)
follow_some (word ∷ words) p h = absurd (cc)

-- ---- three kinds of texts, by the first word

data Kind (text : List ℕ) : Type 0 where
  of_table : ((is_idle text ≡ true) ⊎ (begins_more (words_of text) ≡ false)) → desk_answer text ≡ table_said (answer text) → Kind text
  turning : (ws : List Word) → words_of text ≡ codes "w" ∷ ws → is_idle text ≡ false → desk_answer text ≡ desk_verdict (option_and_then turn_line_of (pair_of ws)) → Kind text
  following : (ws : List Word) → words_of text ≡ codes "n" ∷ ws → is_idle text ≡ false → desk_answer text ≡ desk_verdict (when_empty follow_line ws) → Kind text

kind_by : (text : List ℕ) (word : Word) (ws : List Word) (t n : Bool) → is_idle text ≡ false → words_of text ≡ word ∷ ws → bytes_eq word (codes "w") ≡ t → bytes_eq word (codes "n") ≡ n → Kind text
unfolding desk_answer answer
kind_by text word ws true n quiet is w m =
    let same : word ≡ codes "w" = same_word word (codes "w") w in
    turning ws (is ∙ ap (λ x. x ∷ ws) same) quiet (cond-false _ _ _ quiet ∙ ap desk_answer_of (is ∙ ap (λ x. x ∷ ws) same))
kind_by text word ws false true quiet is w m =
    let same : word ≡ codes "n" = same_word word (codes "n") m in
    following ws (is ∙ ap (λ x. x ∷ ws) same) quiet (cond-false _ _ _ quiet ∙ ap desk_answer_of (is ∙ ap (λ x. x ∷ ws) same))
kind_by text word ws false false quiet is w m =
    of_table (inr (ap begins_more is ∙ ap (λ (b : Bool). b || bytes_eq word (codes "n")) w ∙ m))
    (cond-false _ _ _ quiet ∙ ap desk_answer_of is
    ∙ ap (λ (b : Bool). if b then desk_verdict (option_and_then turn_line_of (pair_of ws)) else if bytes_eq word (codes "n") then desk_verdict (when_empty follow_line ws) else table_said (answer_of (word ∷ ws))) w
    ∙ ap (λ (b : Bool). if b then desk_verdict (when_empty follow_line ws) else table_said (answer_of (word ∷ ws))) m
    ∙ ap table_said (sym (cond-false _ _ _ quiet ∙ ap answer_of is)))

kind_words : (text : List ℕ) (words : List Word) → is_idle text ≡ false → words_of text ≡ words → Kind text
unfolding desk_answer answer
kind_words text [] quiet is =
    of_table (inr (ap begins_more is)) (cond-false _ _ _ quiet ∙ ap desk_answer_of is ∙ ap table_said (sym (cond-false _ _ _ quiet ∙ ap answer_of is)))
kind_words text (word ∷ ws) quiet is = kind_by text word ws (bytes_eq word (codes "w")) (bytes_eq word (codes "n")) quiet is refl refl

kind_of : (text : List ℕ) → Kind text
unfolding desk_answer answer
kind_of text = by (is_idle text) refl where
  by : (b : Bool) → is_idle text ≡ b → Kind text
  by true loud = of_table (inl loud) (cond-true _ _ _ loud ∙ ap table_said (sym (cond-true _ _ _ loud)))
  by false quiet = kind_words text (words_of text) quiet refl

-- ---- what can't be

-- a text whose first word is `w` or `n` is no line of the table
not_table : (text : List ℕ) (word : Word) (ws : List Word) (p : Phrase) → words_of text ≡ word ∷ ws → begins_known (word ∷ ws) ≡ false → is_idle text ≡ false → SpellsLine text p → ⊥
not_table text word ws p is other quiet (inl i) = false≢true (sym quiet ∙ i.0)
not_table text word ws p is other quiet (inr row) = false≢true (sym other ∙ ap begins_known (sym is) ∙ (answers text p row).known)

-- and one of the table has another first word
not_more : (text : List ℕ) (c : ℕ) (ws : List Word) → words_of text ≡ (c ∷ []) ∷ ws → begins_more ((c ∷ []) ∷ ws) ≡ true → eqb c 35 ≡ false
    → ((is_idle text ≡ true) ⊎ (begins_more (words_of text) ≡ false)) → ⊥
not_more text c ws is more other (inl loud) = false≢true (sym other ∙ sym (first_byte text c ws is) ∙ loud)
not_more text c ws is more other (inr none) = false≢true (sym none ∙ ap begins_more is ∙ more)

first_letter : List Word → ℕ
first_letter [] = 0
first_letter ([] ∷ ws) = 0
first_letter ((c ∷ rest) ∷ ws) = c

w_apart : (ws us : List Word) → codes "w" ∷ ws ≡ codes "n" ∷ us → ⊥
unfolding first_letter
w_apart ws us e = (let same : 119 ≡ 110 = ap first_letter e in false≢true (sym (ap (λ (n : ℕ). eqb n 119) same)))

tail_is : (word other : Word) (ws us : List Word) → word ∷ ws ≡ other ∷ us → ws ≡ us
tail_is word other ws us e = cc

-- ---- verdicts

verdict_ok : (p : DeskPhrase) → is_desk_line_in_range p ≡ true → desk_verdict (Some p) ≡ Ok p
verdict_ok p is = cond-true _ _ _ is

verdict_out : (p : DeskPhrase) → is_desk_line_in_range p ≡ false → desk_verdict (Some p) ≡ Err 4
verdict_out p is = cond-false _ _ _ is

says_by : (text : List ℕ) (p : DeskPhrase) (b : Bool) → is_desk_line_in_range p ≡ b → SpellsDeskLine text p → DeskSays text (if b then Ok p else Err 4)
says_by text p true is spelt = (spelt, is)
says_by text p false is spelt = inr (inr (refl, (p, spelt, is)))

-- ---- what a text is answered, it says

table_says : (text : List ℕ) (r : Result Phrase ℕ) → ((is_idle text ≡ true) ⊎ (begins_more (words_of text) ≡ false)) → Says text r → DeskSays text (table_said r)
table_says text (Ok p) first says = says
table_says text (Err rule) first (inl (is, unknown)) = inl (is, (unknown.0, by first)) where
  by : ((is_idle text ≡ true) ⊎ (begins_more (words_of text) ≡ false)) → (begins_more (words_of text) || begins_known (words_of text)) ≡ false
  by (inl loud) = absurd (false≢true (sym unknown.0 ∙ loud))
  by (inr none) = ap (λ (b : Bool). b || begins_known (words_of text)) none ∙ unknown.1
table_says text (Err rule) first (inr (inl (is, misspelt))) = inr (inl (is, (misspelt.0, by first, none_spells))) where
  by : ((is_idle text ≡ true) ⊎ (begins_more (words_of text) ≡ false)) → (begins_more (words_of text) || begins_known (words_of text)) ≡ true
  by (inl loud) = absurd (false≢true (sym misspelt.0 ∙ loud))
  by (inr none) = ap (λ (b : Bool). b || begins_known (words_of text)) none ∙ misspelt.1

  none_spells : (phrase : DeskPhrase) → SpellsDeskLine text phrase → ⊥
  none_spells (table_line p) spelt = misspelt.2 p spelt
  none_spells (turn_line name value) spelt = not_more text 119 (name ∷ numeral value ∷ []) spelt.0 refl refl first
  none_spells follow_line spelt = not_more text 110 [] spelt refl refl first
table_says text (Err rule) first (inr (inr (is, (p, spelt, out)))) = inr (inr (is, (table_line p, spelt, out)))

turn_says : (text : List ℕ) (ws : List Word) (row : Option DeskPhrase) → words_of text ≡ codes "w" ∷ ws → is_idle text ≡ false → option_and_then turn_line_of (pair_of ws) ≡ row
    → DeskSays text (desk_verdict row)
turn_says text ws (Some p) is quiet read =
    let t = turn_some ws p read in
    says_by text p (is_desk_line_in_range p) refl (subst (SpellsDeskLine text) (sym t.2) (is ∙ ap (λ us. codes "w" ∷ us) t.3, t.4))
turn_says text ws None is quiet read = inr (inl (refl, (quiet, ap (λ (us : List Word). begins_more us || begins_known us) is, none_spells))) where
  none_spells : (phrase : DeskPhrase) → SpellsDeskLine text phrase → ⊥
  none_spells (table_line p) spelt = not_table text (codes "w") ws p is refl quiet spelt
  none_spells (turn_line name value) spelt =
      (let some = turn_read ws name value (tail_is (codes "w") (codes "w") ws (name ∷ numeral value ∷ []) (sym is ∙ spelt.0)) spelt.1 in let no : None ≡ Some (turn_line name value) = sym read ∙ some in cc)
  none_spells follow_line spelt = w_apart ws [] (sym is ∙ spelt)

follow_says : (text : List ℕ) (ws : List Word) (row : Option DeskPhrase) → words_of text ≡ codes "n" ∷ ws → is_idle text ≡ false → when_empty follow_line ws ≡ row → DeskSays text (desk_verdict row)
follow_says text ws (Some p) is quiet read =
    let t = follow_some ws p read in
    says_by text p (is_desk_line_in_range p) refl (subst (SpellsDeskLine text) (sym t.1) (is ∙ ap (λ us. codes "n" ∷ us) t.0))
follow_says text ws None is quiet read = inr (inl (refl, (quiet, ap (λ (us : List Word). begins_more us || begins_known us) is, none_spells))) where
  none_spells : (phrase : DeskPhrase) → SpellsDeskLine text phrase → ⊥
  none_spells (table_line p) spelt = not_table text (codes "n") ws p is refl quiet spelt
  none_spells (turn_line name value) spelt = w_apart (name ∷ numeral value ∷ []) ws (sym spelt.0 ∙ is)
  none_spells follow_line spelt =
      (let some : when_empty follow_line ws ≡ Some follow_line = ap (when_empty follow_line) (tail_is (codes "n") (codes "n") ws [] (sym is ∙ spelt)) in let no : None ≡ Some follow_line = sym read ∙ some in cc)

kind_says : (text : List ℕ) → Kind text → DeskSays text (desk_answer text)
kind_says text (of_table first is) = subst (DeskSays text) (sym is) (table_says text (answer text) first (answer_says text))
kind_says text (turning ws words quiet is) = subst (DeskSays text) (sym is) (turn_says text ws (option_and_then turn_line_of (pair_of ws)) words quiet refl)
kind_says text (following ws words quiet is) = subst (DeskSays text) (sym is) (follow_says text ws (when_empty follow_line ws) words quiet refl)

-- ---- and nothing else

or_left : (a b : Bool) → (a || b) ≡ false → (a ≡ false) × (b ≡ false)
or_left true b e = absurd (cc)
or_left false b e = (refl, e)

or_right : (a b : Bool) → a ≡ false → (a || b) ≡ true → b ≡ true
or_right true b is e = absurd (cc)
or_right false b is e = e

-- of the table
table_only : (text : List ℕ) (told : Result DeskPhrase ℕ) → ((is_idle text ≡ true) ⊎ (begins_more (words_of text) ≡ false)) → DeskSays text told → told ≡ table_said (answer text)
table_only text (Ok (table_line p)) first says = ap table_said (says_only text (Ok p) says)
table_only text (Ok (turn_line name value)) first says = absurd (not_more text 119 (name ∷ numeral value ∷ []) says.0.0 refl refl first)
table_only text (Ok follow_line) first says = absurd (not_more text 110 [] says.0 refl refl first)
table_only text (Err rule) first (inl (is, unknown)) =
    ap table_said (says_only text (Err rule) (inl (is, (unknown.0, (or_left (begins_more (words_of text)) (begins_known (words_of text)) unknown.1).1))))
table_only text (Err rule) first (inr (inl (is, misspelt))) =
    ap table_said (says_only text (Err rule) (inr (inl (is, (misspelt.0, by first, λ p. misspelt.2 (table_line p)))))) where
      by : ((is_idle text ≡ true) ⊎ (begins_more (words_of text) ≡ false)) → begins_known (words_of text) ≡ true
      by (inl loud) = absurd (false≢true (sym misspelt.0 ∙ loud))
      by (inr none) = or_right (begins_more (words_of text)) (begins_known (words_of text)) none misspelt.1
table_only text (Err rule) first (inr (inr (is, (table_line p, spelt, out)))) = ap table_said (says_only text (Err rule) (inr (inr (is, (p, spelt, out)))))
table_only text (Err rule) first (inr (inr (is, (turn_line name value, spelt, out)))) = absurd (not_more text 119 (name ∷ numeral value ∷ []) spelt.0 refl refl first)
table_only text (Err rule) first (inr (inr (is, (follow_line, spelt, out)))) = absurd (cc)

-- `w`
turn_only : (text : List ℕ) (ws : List Word) (row : Option DeskPhrase) (told : Result DeskPhrase ℕ) → words_of text ≡ codes "w" ∷ ws → is_idle text ≡ false
    → option_and_then turn_line_of (pair_of ws) ≡ row → DeskSays text told → told ≡ desk_verdict row
turn_only text ws row (Ok (table_line p)) is quiet read says = absurd (not_table text (codes "w") ws p is refl quiet says.0)
turn_only text ws row (Ok (turn_line name value)) is quiet read says =
    let some = turn_read ws name value (tail_is (codes "w") (codes "w") ws (name ∷ numeral value ∷ []) (sym is ∙ says.0.0)) says.0.1 in
    sym (ap desk_verdict (sym read ∙ some) ∙ verdict_ok (turn_line name value) says.1)
turn_only text ws row (Ok follow_line) is quiet read says = absurd (w_apart ws [] (sym is ∙ says.0))
turn_only text ws row (Err rule) is quiet read (inl (two, unknown)) = absurd (false≢true (sym unknown.1 ∙ ap (λ (us : List Word). begins_more us || begins_known us) is))
turn_only text ws None (Err rule) is quiet read (inr (inl (three, misspelt))) = ap (λ (n : ℕ). Err n) three
turn_only text ws (Some p) (Err rule) is quiet read (inr (inl (three, misspelt))) =
    let t = turn_some ws p read in
    absurd (misspelt.2 p (subst (SpellsDeskLine text) (sym t.2) (is ∙ ap (λ us. codes "w" ∷ us) t.3, t.4)))
turn_only text ws row (Err rule) is quiet read (inr (inr (four, (table_line p, spelt, out)))) = absurd (not_table text (codes "w") ws p is refl quiet spelt)
turn_only text ws row (Err rule) is quiet read (inr (inr (four, (turn_line name value, spelt, out)))) =
    let some = turn_read ws name value (tail_is (codes "w") (codes "w") ws (name ∷ numeral value ∷ []) (sym is ∙ spelt.0)) spelt.1 in
    ap (λ (n : ℕ). Err n) four ∙ sym (ap desk_verdict (sym read ∙ some) ∙ verdict_out (turn_line name value) out)
turn_only text ws row (Err rule) is quiet read (inr (inr (four, (follow_line, spelt, out)))) = absurd (cc)

-- `n`
follow_only : (text : List ℕ) (ws : List Word) (row : Option DeskPhrase) (told : Result DeskPhrase ℕ) → words_of text ≡ codes "n" ∷ ws → is_idle text ≡ false
    → when_empty follow_line ws ≡ row → DeskSays text told → told ≡ desk_verdict row
follow_only text ws row (Ok (table_line p)) is quiet read says = absurd (not_table text (codes "n") ws p is refl quiet says.0)
follow_only text ws row (Ok (turn_line name value)) is quiet read says = absurd (w_apart (name ∷ numeral value ∷ []) ws (sym says.0.0 ∙ is))
follow_only text ws row (Ok follow_line) is quiet read says =
    let some : when_empty follow_line ws ≡ Some follow_line = ap (when_empty follow_line) (tail_is (codes "n") (codes "n") ws [] (sym is ∙ says.0)) in
    sym (ap desk_verdict (sym read ∙ some) ∙ verdict_ok follow_line refl)
follow_only text ws row (Err rule) is quiet read (inl (two, unknown)) = absurd (false≢true (sym unknown.1 ∙ ap (λ (us : List Word). begins_more us || begins_known us) is))
follow_only text ws None (Err rule) is quiet read (inr (inl (three, misspelt))) = ap (λ (n : ℕ). Err n) three
follow_only text ws (Some p) (Err rule) is quiet read (inr (inl (three, misspelt))) =
    let t = follow_some ws p read in
    absurd (misspelt.2 p (subst (SpellsDeskLine text) (sym t.1) (is ∙ ap (λ us. codes "n" ∷ us) t.0)))
follow_only text ws row (Err rule) is quiet read (inr (inr (four, (table_line p, spelt, out)))) = absurd (not_table text (codes "n") ws p is refl quiet spelt)
follow_only text ws row (Err rule) is quiet read (inr (inr (four, (turn_line name value, spelt, out)))) = absurd (w_apart (name ∷ numeral value ∷ []) ws (sym spelt.0 ∙ is))
follow_only text ws row (Err rule) is quiet read (inr (inr (four, (follow_line, spelt, out)))) = absurd (cc)

kind_only : (text : List ℕ) (told : Result DeskPhrase ℕ) → Kind text → DeskSays text told → told ≡ desk_answer text
kind_only text told (of_table first is) says = table_only text told first says ∙ sym is
kind_only text told (turning ws words quiet is) says = turn_only text ws (option_and_then turn_line_of (pair_of ws)) told words quiet refl says ∙ sym is
kind_only text told (following ws words quiet is) says = follow_only text ws (when_empty follow_line ws) told words quiet refl says ∙ sym is

pub desk_says_once : DeskSaysOnce
desk_says_once text = record { says = kind_says text (kind_of text); no_other = λ told. kind_only text told (kind_of text) }
