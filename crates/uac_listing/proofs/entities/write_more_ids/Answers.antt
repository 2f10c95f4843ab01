use Rattle.std.proofs.Common.{ℕ, ◌++◌, codes, decimal, ◌∙◌}
use Rattle.uac_edges.proofs.WritingLemmas.{front_of_each, Writes-handed_on}
use Rattle.uac_listing.proofs.entities.write_more_ids.Goals as goal

pub returns-in_err-give_all-clause-written : goal.returns-in_err-give_all-clause-written
returns-in_err-give_all-clause-written g c =
    Writes-handed_on _ (g.K.Sink.written c.args.sink.now) (g.K.Sink.written c.give_all.new.sink) c.from_residual.result _ c.from_residual.ensures.1 (
    front_of_each _ _ _ (λ (id : ℕ). codes "," ++ decimal id) c.args.ids.now c.loop-id.id-index 0 _ c.loop-id-test.true c.loop-id.invariant.written
    c.in_err-give_all.ensures.written (c.as_bytes.ensures.text ∙ c.next_number.ensures)
    )
