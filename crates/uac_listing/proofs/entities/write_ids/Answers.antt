use Rattle.std.proofs.Common.{List, ℕ, subst, ◌∙◌}
use Rattle.uac_edges.specs.Writing.{Writes}
use Rattle.uac_edges.proofs.WritingLemmas.{Writes-after}
use Rattle.uac_listing.proofs.BlockLinesLemmas.{ids_parts}
use Rattle.uac_listing.proofs.entities.write_ids.Goals as goal

pub returns-clause-written : goal.returns-clause-written
returns-clause-written g c =
    subst (λ (text : List ℕ). Writes (g.K.Sink.written c.args.sink.now) (g.K.Sink.written c.write_more_ids.new.sink) c.write_more_ids.result text)
    (ids_parts c.args.ids.now _ c.if-is_empty.ensures (c.as_bytes.ensures.text ∙ c.number.ensures))
    (Writes-after _ _ _ _ _ _ c.in_ok-give_all.ensures.written c.write_more_ids.ensures.written)
