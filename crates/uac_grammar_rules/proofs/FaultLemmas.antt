-- The first fault, over any rules: one block more, and what more bytes cannot change.
use Rattle.std.proofs.Common.{◌≡◌, ℕ, ◌+◌, ◌<◌, true, false, List, [], ◌∷◌, ◌++◌, length, Option, Some, None, ltb, leb, cond, ◌⊎◌, inl, inr, flat_map, refl, sym, ap, ◌∙◌, subst, append_assoc, length-append, arith}
use Rattle.std.specs.Option.{option_or}
use Rattle.std.specs.List.{AllByRecursion}
use Rattle.std.proofs.lemmas.Bool.{and_left, lt-leb, cases_Bool, ltb-true}
use Rattle.uac_grammar_rules.specs.Cutting.{IsPiece, begins_whole, chop}
use Rattle.uac_grammar_rules.specs.Fault.{GrammarFault, Rules, at_place, rest_rule, faults_over, faults_from, IsShown}
use Rattle.uac_grammar_rules.proofs.CuttingLemmas.{chop_is_cut, chop_piece, chop_rest}

-- a fault at a place stands there, and has its rule
pub at_place_is : (fault : GrammarFault) (place : ℕ) (o : Option ℕ) → at_place place o ≡ Some fault → (o ≡ Some fault.rule) × (fault.at ≡ place)
at_place_is fault place None e = cc
at_place_is fault place (Some rule) e =
    let h : record { rule = rule; at = place } ≡ fault = cc in (ap (λ (f : GrammarFault). Some f.rule) h, sym (ap (λ (f : GrammarFault). f.at) h))

-- a length below 2 stays below 2
short_is_no_block : (x y : ℕ) (rest : List ℕ) → ltb x 2 ≡ true → begins_whole (x ∷ y ∷ rest) ≡ false
short_is_no_block x y rest h =
    and_left (leb 2 x) (leb x (length (x ∷ y ∷ rest))) (lt-leb 2 x (ltb-true x 2 h))

-- the first of two, where it is there or not
pub option_or_some : {T : Type 0} (o p : Option T) (x : T) → option_or o p ≡ Some x → (o ≡ Some x) ⊎ ((o ≡ None) × (p ≡ Some x))
option_or_some None p x e = inr (refl, e)
option_or_some (Some y) p x e = inl e

module _ {S : Type 0} (rules : Rules S) where
  -- one block more
  pub faults_from_piece : (state : S) (place : ℕ) (piece rest : List ℕ) → IsPiece piece
      → faults_from rules state place (piece ++ rest)
      ≡ option_or (at_place place (rules.broken state place piece)) (faults_from rules (rules.after state place piece) (place + length piece) rest)
  unfolding faults_from
  faults_from_piece state place piece rest h =
      ap (λ cut. faults_over rules state place cut.pieces cut.rest) (chop_piece piece rest h)

  -- no block more
  pub faults_from_rest : (state : S) (place : ℕ) (bytes : List ℕ) → begins_whole bytes ≡ false
      → faults_from rules state place bytes ≡ at_place place (rest_rule (rules.ended state place) bytes)
  unfolding faults_from
  faults_from_rest state place bytes h = ap (λ cut. faults_over rules state place cut.pieces cut.rest) (chop_rest bytes h)

  lone_is_one : (fault : GrammarFault) (place : ℕ) → at_place place (Some 1) ≡ Some fault → fault.rule ≡ 1
  lone_is_one fault place e = let h = at_place_is fault place (Some 1) e in cc

  -- a rest that is no block stays none where its first two bytes show it
  shown_in_rest : (fault : GrammarFault) (state : S) (place : ℕ) (rest more : List ℕ)
      → at_place place (rest_rule (rules.ended state place) rest) ≡ Some fault → IsShown fault (place + length rest)
      → faults_from rules state place (rest ++ more) ≡ Some fault
  shown_in_rest fault state place [] more e (not_one, before) =
      absurd (let h = at_place_is fault place (rules.ended state place) e in omega (arith, h.1))
  shown_in_rest fault state place (x ∷ []) more e (not_one, before) = absurd (not_one (lone_is_one fault place e))
  shown_in_rest fault state place (x ∷ y ∷ rest) more e (not_one, before) =
      elim (cases_Bool (ltb x 2)) [
        | inl h ↦ faults_from_rest state place ((x ∷ y ∷ rest) ++ more) (short_is_no_block x y (rest ++ more) h) ∙ e
        | inr h ↦ absurd (not_one (lone_is_one fault place (sym (ap (λ b. at_place place (cond b (Some 2) (Some 1))) h) ∙ e)))
      ]

  -- a fault among blocks, or in the rest after them, stays the first where more bytes come
  shown_over : (fault : GrammarFault) (state : S) (place : ℕ) (pieces : List (List ℕ)) (rest more : List ℕ)
      → AllByRecursion IsPiece pieces → faults_over rules state place pieces rest ≡ Some fault
      → IsShown fault (place + length (flat_map (λ piece. piece) pieces ++ rest))
      → faults_from rules state place ((flat_map (λ piece. piece) pieces ++ rest) ++ more) ≡ Some fault
  shown_over fault state place [] rest more ok e shown = shown_in_rest fault state place rest more e shown
  shown_over fault state place (piece ∷ pieces) rest more (is, ok) e shown =
      let tail : List ℕ = flat_map (λ y. y) pieces ++ rest in
      let go : faults_from rules state place (piece ++ (tail ++ more)) ≡ Some fault =
      faults_from_piece state place piece (tail ++ more) is
      ∙ elim (option_or_some (at_place place (rules.broken state place piece)) (faults_over rules (rules.after state place piece) (place + length piece) pieces rest) fault e) [
        | inl here ↦ ap (λ o. option_or o (faults_from rules (rules.after state place piece) (place + length piece) (tail ++ more))) here
        | inr there ↦ ap (λ o. option_or o (faults_from rules (rules.after state place piece) (place + length piece) (tail ++ more))) there.0
            ∙ shown_over fault (rules.after state place piece) (place + length piece) pieces rest more ok there.1
            (shown.0, simp length-append (omega (arith, simp (append_assoc, length-append) at shown.1)))
      ] in
      ap (faults_from rules state place) (ap (λ y. y ++ more) (append_assoc piece (flat_map (λ y. y) pieces) rest) ∙ append_assoc piece tail more) ∙ go

  -- a shown fault is the first fault of every longer input
  pub shown_stays : (state : S) (place : ℕ) (bytes more : List ℕ) (fault : GrammarFault)
      → faults_from rules state place bytes ≡ Some fault → IsShown fault (place + length bytes)
      → faults_from rules state place (bytes ++ more) ≡ Some fault
  unfolding faults_from
  shown_stays state place bytes more fault e shown =
      let cut = chop_is_cut bytes in
      ap (λ y. faults_from rules state place (y ++ more)) cut.joined
      ∙ shown_over fault state place (chop bytes).pieces (chop bytes).rest more cut.pieces_are e
      (shown.0, subst (λ y. fault.at < place + length y) cut.joined shown.1)
