use Rattle.std.proofs.Common.{◌≡◌, ◌∙◌, ◌++◌, ℕ, List, ap, append_assoc, codes, sym, ℤ, pos, to_z, w32}
use Rattle.std.proofs.lemmas.Int.{to_z-of_z}
use Rattle.uac_edges.specs.Numerals.{numeral}
use Rattle.uac_edges.proofs.NumeralsLemmas.{numeral_of_zero}
use Rattle.uac_transcript.proofs.frames.push_sample.Goals as goal

-- A space and the digit 0 are a space and the numeral of 0.
space_and_zero : (old : List ℕ) (z : ℤ) → z ≡ pos 0 → old ++ codes " 0" ≡ (old ++ codes " ") ++ numeral z
space_and_zero old z zero =
    sym (append_assoc old (codes " ") (codes "0")) ∙ ap (λ (digits : List ℕ). (old ++ codes " ") ++ digits) (sym numeral_of_zero ∙ sym (ap numeral zero))

pub returns-then-sample-eq0-clause-text : goal.returns-then-sample-eq0-clause-text
returns-then-sample-eq0-clause-text g c =
    let zero : c.args.sample ≡ pos 0 = sym (to_z-of_z w32 c.args.sample c.ranges.sample) ∙ ap (to_z w32) c.if-sample-eq0.true in
    c.push.ensures.text ∙ space_and_zero c.args.text.now c.args.sample zero
