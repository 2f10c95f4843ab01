-- A text of printed lines, cut at its newlines.
use Rattle.std.proofs.Common.{◌≡◌, ◌≢◌, ◌∙◌, refl, sym, ap, subst, arith, ℕ, zero, suc, ◌<◌, List, [], ◌∷◌, ◌++◌, length, map, get_or, append_assoc, length-append, codes}
use Rattle.std.specs.List.{All, Contains}
use Rattle.std.proofs.lemmas.List.{append_cancel_right}
use Rattle.std.proofs.lemmas.List.Elements.{All-nil, All-cons, All-head, All-tail, Contains-get_or}
use Rattle.uac_edges.specs.TextLines.{with_newlines}
use Rattle.uac_transcript.specs.Printing.{text_of}
use Rattle.uac_transcript.specs.Spellings.{HasNoNewline, HasPlainName, IsCutAtNewlines}
use Rattle.uac_transcript.specs.Transcript.{Said, spelling_of, says_no_memory}
use Rattle.uac_transcript.proofs.SpellingsLemmas.{same_before, spelling-one}

-- each line with its newline is a spelling
abbrev pub AreSpelt : List Said → List (List ℕ) → Type 0
AreSpelt saids lines = map (λ line. line ++ codes "\n") lines ≡ map spelling_of saids

-- a line with its newline isn't empty
some_bytes : (line rest : List ℕ) → (line ++ 10 ∷ []) ++ rest ≢ []
some_bytes line rest e =
    let long : length ((line ++ 10 ∷ []) ++ rest) ≡ 0 = ap length e in
    omega (arith, length-append (line ++ 10 ∷ []) rest, length-append line (10 ∷ []))

pub AreSpelt-from_cut : (saids : List Said) (lines : List (List ℕ)) → All HasPlainName saids → text_of saids ≡ with_newlines lines → All HasNoNewline lines → AreSpelt saids lines
AreSpelt-from_cut [] [] plain e within = refl
AreSpelt-from_cut [] (l ∷ ls) plain e within = absurd (some_bytes l (with_newlines ls) (sym e))
AreSpelt-from_cut (s ∷ ss) [] plain e within =
    let one = spelling-one s (All-head HasPlainName s ss plain) in
    absurd (some_bytes one.line (text_of ss) (ap (λ (xs : List ℕ). xs ++ text_of ss) (sym one.ended) ∙ e))
AreSpelt-from_cut (s ∷ ss) (l ∷ ls) plain e within =
    let one = spelling-one s (All-head HasPlainName s ss plain) in
    let joined : one.line ++ 10 ∷ text_of ss ≡ l ++ 10 ∷ with_newlines ls =
    sym (append_assoc one.line (10 ∷ []) (text_of ss)) ∙ (ap (λ (xs : List ℕ). xs ++ text_of ss) (sym one.ended) ∙ (e ∙ append_assoc l (10 ∷ []) (with_newlines ls))) in
    let both = same_before 10 one.line l (text_of ss) (with_newlines ls) one.within (All-head HasNoNewline l ls within) joined in
    let first : l ++ 10 ∷ [] ≡ spelling_of s = ap (λ (xs : List ℕ). xs ++ 10 ∷ []) (sym both.0) ∙ sym one.ended in
    ap (λ (xs : List ℕ). xs ∷ map (λ line. line ++ codes "\n") ls) first
    ∙ ap (λ (rest : List (List ℕ)). spelling_of s ∷ rest) (AreSpelt-from_cut ss ls (All-tail HasPlainName s ss plain) both.1 (All-tail HasNoNewline l ls within))

pub cut_from_AreSpelt : (saids : List Said) (lines : List (List ℕ)) → All HasPlainName saids → AreSpelt saids lines → IsCutAtNewlines (text_of saids) lines
cut_from_AreSpelt [] [] plain e = record { whole = refl; within = All-nil HasNoNewline }
cut_from_AreSpelt [] (l ∷ ls) plain e = absurd (cc)
cut_from_AreSpelt (s ∷ ss) [] plain e = absurd (cc)
cut_from_AreSpelt (s ∷ ss) (l ∷ ls) plain e =
    let first : l ++ 10 ∷ [] ≡ spelling_of s = cc in
    let others : AreSpelt ss ls = cc in
    let one = spelling-one s (All-head HasPlainName s ss plain) in
    let rest = cut_from_AreSpelt ss ls (All-tail HasPlainName s ss plain) others in
    let line : one.line ≡ l = append_cancel_right one.line l (10 ∷ []) (sym one.ended ∙ sym first) in
    record {
      whole = ap (λ (xs : List ℕ). xs ++ text_of ss) (sym first) ∙ ap (λ (xs : List ℕ). (l ++ 10 ∷ []) ++ xs) rest.whole;
      within = All-cons HasNoNewline l ls (subst HasNoNewline line one.within) rest.within;
    }

-- ---- the line at a place

pub same_count : (saids : List Said) (lines : List (List ℕ)) → AreSpelt saids lines → length lines ≡ length saids
same_count [] [] e = refl
same_count [] (l ∷ ls) e = absurd (cc)
same_count (s ∷ ss) [] e = absurd (cc)
same_count (s ∷ ss) (l ∷ ls) e = let others : AreSpelt ss ls = cc in ap suc (same_count ss ls others)

pub spelt_at : (saids : List Said) (lines : List (List ℕ)) (k : ℕ) (said : Said) (line : List ℕ) → AreSpelt saids lines → k < length lines
    → get_or lines k line ++ codes "\n" ≡ spelling_of (get_or saids k said)
spelt_at [] [] k said line e inside = absurd (omega arith)
spelt_at [] (l ∷ ls) k said line e inside = absurd (cc)
spelt_at (s ∷ ss) [] k said line e inside = absurd (omega arith)
spelt_at (s ∷ ss) (l ∷ ls) zero said line e inside = cc
spelt_at (s ∷ ss) (l ∷ ls) (suc k) said line e inside = let others : AreSpelt ss ls = cc in spelt_at ss ls k said line others (omega arith)

-- a line of the text is that of a line that was printed
pub line_printed : (saids : List Said) (lines : List (List ℕ)) (text : List ℕ) → All HasPlainName saids → IsCutAtNewlines (text_of saids) lines → Contains lines text
    → (said : Said) × (text ++ codes "\n" ≡ spelling_of said) × Contains saids said
line_printed saids lines text plain cut has =
    let spelt : AreSpelt saids lines = AreSpelt-from_cut saids lines plain cut.whole cut.within in
    let inside : has.0 < length lines = has.1 in
    let count : length lines ≡ length saids = same_count saids lines spelt in
    let said : Said = get_or saids has.0 says_no_memory in (
      said,
      ap (λ (xs : List ℕ). xs ++ codes "\n") (sym has.2) ∙ spelt_at saids lines has.0 says_no_memory text spelt inside,
      Contains-get_or saids has.0 says_no_memory (omega arith),
    )

-- a line that was printed stands in the text
pub printed_line : (saids : List Said) (lines : List (List ℕ)) (said : Said) (text : List ℕ) → All HasPlainName saids → IsCutAtNewlines (text_of saids) lines
    → spelling_of said ≡ text ++ codes "\n" → Contains saids said → Contains lines text
printed_line saids lines said text plain cut is has =
    let spelt : AreSpelt saids lines = AreSpelt-from_cut saids lines plain cut.whole cut.within in
    let inside : has.0 < length saids = has.1 in
    let count : length lines ≡ length saids = same_count saids lines spelt in
    let within : has.0 < length lines = omega arith in (
      has.0,
      within,
      append_cancel_right (get_or lines has.0 text) text (codes "\n")
          (spelt_at saids lines has.0 said text spelt within ∙ (ap spelling_of has.2 ∙ is)),
    )
