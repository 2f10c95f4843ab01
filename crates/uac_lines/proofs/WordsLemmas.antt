-- The words of a text, one after the other.
use Rattle.std.proofs.Common.{◌≡◌, ℕ, ◌+◌, ◌-◌, ◌≤◌, Bool, true, false, not, cond, ltb, List, [], ◌∷◌, length, take, drop, Option, Some, None, eqb, refl, arith}
use Rattle.std.specs.List.{slice_split, position, position_or_len, onto_first}
use Rattle.std.proofs.lemmas.List.{take_rest}
use Rattle.std.proofs.lemmas.List.Splits.{slice_split_first}
use Rattle.std.proofs.lemmas.Bool.{ltb-true, ltb-false}
use Rattle.std.proofs.lemmas.Option.{cond_some}
use Rattle.std.specs.Option.{is_some}
use Rattle.std.specs.Bool.{MatchBool}
use denote.Ref.{Bor}
use Rattle.uac_lines.specs.Words.{words_of, words_left, Word}

pub split_at_some : (text : List ℕ) (i : ℕ) → position (λ b. eqb b 32) text ≡ Some i → words_of text ≡ take i text ∷ words_of (take (length text - (i + 1)) (drop (i + 1) text))
split_at_some text i e =
    let parts = cond_some (ltb (position_or_len (λ b. eqb b 32) text) (length text)) _ i e in
    let h = slice_split_first (λ b. eqb b 32) text 0 (ltb-true _ _ parts.0) in
    rw (take_rest text (i + 1)) (rw (← parts.1) h)

pub none_then_false : (b : Bool) (i : ℕ) → cond b (Some i) None ≡ None → b ≡ false
none_then_false true i e = cc
none_then_false false i e = refl

step_at : (c : ℕ) (rest : List ℕ) (b : Bool) → eqb c 32 ≡ b → length (c ∷ rest) ≤ position_or_len (λ x. eqb x 32) (c ∷ rest)
    → (length rest ≤ position_or_len (λ x. eqb x 32) rest → slice_split (λ x. eqb x 32) rest ≡ rest ∷ []) → slice_split (λ x. eqb x 32) (c ∷ rest) ≡ (c ∷ rest) ∷ []
step_at c rest true e h more = absurd (let g = rw e at h in omega arith)
step_at c rest false e h more = let g = rw e at h in rw (e, more (omega arith)) refl

nothing_passes : (text : List ℕ) → length text ≤ position_or_len (λ x. eqb x 32) text → slice_split (λ x. eqb x 32) text ≡ text ∷ []
nothing_passes [] h = refl
nothing_passes (c ∷ rest) h = step_at c rest (eqb c 32) refl h (nothing_passes rest)

pub split_at_none : (text : List ℕ) → position (λ b. eqb b 32) text ≡ None → words_of text ≡ text ∷ []
split_at_none text e =
    nothing_passes text (ltb-false _ _ (none_then_false (ltb (position_or_len (λ b. eqb b 32) text) (length text)) _ e))

-- a text has a word, be it an empty one
pub record HasWord (parts : List Word) : Type 0 where
  pub first : Word
  pub others : List Word
  pub parts-is : parts ≡ first ∷ others

onto : (c : ℕ) (b : Bool) (parts : List Word) → HasWord parts → HasWord (cond b ([] ∷ parts) (onto_first c parts))
onto c true parts h = record { first = []; others = parts; parts-is = refl }
onto c false [] h = record { first = c ∷ []; others = []; parts-is = refl }
onto c false (part ∷ parts) h = record { first = c ∷ part; others = parts; parts-is = refl }

pub some_word : (text : List ℕ) → HasWord (words_of text)
some_word [] = record { first = []; others = []; parts-is = refl }
some_word (c ∷ rest) = onto c (eqb c 32) (words_of rest) (some_word rest)

pub nothing_left : (rest : Option (Bor (List ℕ))) (b : Bool) → is_some rest ≡ not b → MatchBool b (words_left rest ≡ []) ((word : Word) × (words : List Word) × (words_left rest ≡ word ∷ words))
nothing_left None true e = refl
nothing_left None false e = cc
nothing_left (Some rest) true e = cc
nothing_left (Some rest) false e = let w = some_word rest.now in (w.first, w.others, w.parts-is)
