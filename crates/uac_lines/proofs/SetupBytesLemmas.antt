-- The setup bytes of a control transfer: eight bytes of HEX.
use Rattle.std.proofs.Common.{◌≡◌, ℕ, ◌%◌, cond, List, [], ◌∷◌, length, Option, Some, None, Result, Ok, Err, eqb, inl, inr, sym, ap, ◌∙◌, refl, arith}
use Rattle.std.specs.Result.{result_ok}
use Rattle.std.proofs.lemmas.Bool.{cases_eq, cond-true, cond-false, eq-eqb, ne_eqb}
use Rattle.std.specs.Option.{option_and_then}
use Rattle.hex.specs.Hex.{decode_of, decode_sized}
use Rattle.hex.specs.declared.error.FromHexError.{FromHexError}
use Rattle.hex.proofs.HexLemmas.{decode_of-ok, decode_sized-twice, decode_sized-other, decode_sized-odd}
use Rattle.uac_lines.specs.Words.{Word}
use Rattle.uac_lines.specs.WordParsing.{setup_bytes_in}

eight : Option (List ℕ) → Option (List ℕ)
eight read = option_and_then (λ bytes. cond (eqb (length bytes) 8) (Some bytes) None) read

not_sixteen : (s : Word) → (length s ≡ 16 → ⊥) → result_ok (decode_sized s 8) ≡ None
not_sixteen s other =
    elim (cases_eq (length s % 2) 1) [
      | inl odd ↦ ap result_ok (decode_sized-odd s 8 odd)
      | inr even ↦ ap result_ok (decode_sized-other s 8 (omega arith) (λ half. other (omega arith)))
    ]

eight_of : (s : Word) (r : Result (List ℕ) FromHexError) → decode_of s ≡ r → result_ok (decode_sized s 8) ≡ eight (result_ok r)
unfolding eight
eight_of s (Err e) h =
    elim (cases_eq (length s) 16) [
      | inl same ↦ ap result_ok (decode_sized-twice s 8 same ∙ h)
      | inr other ↦ not_sixteen s other
    ]
eight_of s (Ok bytes) h =
    let long = (decode_of-ok s bytes h).2 in
    elim (cases_eq (length s) 16) [
      | inl same ↦ ap result_ok (decode_sized-twice s 8 same ∙ h) ∙ sym (cond-true _ _ _ (eq-eqb (length bytes) 8 (omega arith)))
      | inr other ↦ not_sixteen s other ∙ sym (cond-false _ _ _ (ne_eqb (length bytes) 8 (λ e. other (omega arith))))
    ]

pub setup_is : (word : Word) → result_ok (decode_sized word 8) ≡ setup_bytes_in word
unfolding eight
setup_is [] = refl
setup_is (c ∷ rest) = eight_of (c ∷ rest) _ refl
