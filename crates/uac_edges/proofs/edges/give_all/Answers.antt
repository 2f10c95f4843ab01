use Rattle.std.proofs.Common.{◌≡◌, ℕ, ◌-◌, List, ◌++◌, length, take, drop, ap, subst, ◌∙◌}
use Rattle.std.proofs.lemmas.List.{take_rest, take-append-drop}
use Rattle.uac_edges.specs.Writing.{Writes}
use Rattle.uac_edges.proofs.WritingLemmas.{Writes-after}
use Rattle.uac_edges.proofs.edges.give_all.Goals as goal

-- The text is what the first call took of it, and what it left.
first_and_rest : (text : List ℕ) (n : ℕ) → take n text ++ take (length text - n) (drop n text) ≡ text
first_and_rest text n = ap (λ back. take n text ++ back) (take_rest text n) ∙ take-append-drop n text

pub returns-clause-written : goal.returns-clause-written
returns-clause-written g c =
    let text = c.args.text.now in
    let n = c.in_ok-first.first in
    subst (λ (whole : List ℕ). Writes (g.K.Sink.written c.args.sink.now) (g.K.Sink.written c.give_rest.new.sink) c.give_rest.result whole) (first_and_rest text n)
    (Writes-after (g.K.Sink.written c.args.sink.now) (g.K.Sink.written c.give.new.self) (g.K.Sink.written c.give_rest.new.sink) c.give_rest.result
    (take n text) (take (length text - n) (drop n text)) c.in_ok-first.ensures.bytes c.give_rest.ensures.written)
