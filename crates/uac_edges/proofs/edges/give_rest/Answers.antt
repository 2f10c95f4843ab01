use Rattle.std.proofs.Common.{◌≡◌, ℕ, ◌-◌, List, ◌++◌, length, take, drop, append_assoc, ap, sym, ◌∙◌}
use Rattle.std.proofs.lemmas.List.{take_rest, take-append-drop}
use Rattle.uac_edges.proofs.WritingLemmas.{Appends-twice}
use Rattle.uac_edges.proofs.edges.give_rest.Goals as goal

-- The text is what was given, what this call took of the rest, and what it left.
given_more : (text given rest : List ℕ) (n : ℕ) → text ≡ given ++ rest → text ≡ (given ++ take n rest) ++ take (length rest - n) (drop n rest)
given_more text given rest n parts =
    parts ∙ ap (λ back. given ++ back) (sym (take-append-drop n rest)) ∙ sym (append_assoc given (take n rest) (drop n rest))
    ∙ ap (λ back. (given ++ take n rest) ++ back) (sym (take_rest rest n))

pub loop-rest-preserved : goal.loop-rest-preserved
loop-rest-preserved g c =
    let before = c.loop-rest.invariant in
    let told = c.in_ok-given.ensures in
    record {
      given = before.given ++ take c.in_ok-given.given c.loop-rest.rest.now;
      parts = given_more c.args.text.now before.given c.loop-rest.rest.now c.in_ok-given.given before.parts;
      appended = Appends-twice _ _ _ _ _ before.appended told.bytes;
      faultless = told.cause.faultless ∙ before.faultless;
    }
