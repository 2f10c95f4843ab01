use Rattle.std.proofs.Common.{◌∙◌}
use Rattle.uac_listing.specs.ElementLines.{element_line}
use Rattle.uac_edges.proofs.WritingLemmas.{front_of_each, Writes-handed_on}
use Rattle.uac_listing.proofs.elements.write_elements.Goals as goal

pub returns-in_err-give_all-clause-written : goal.returns-in_err-give_all-clause-written
returns-in_err-give_all-clause-written g c =
    Writes-handed_on _ (g.K.Sink.written c.args.sink.now) (g.K.Sink.written c.give_all.new.sink) c.from_residual.result _ c.from_residual.ensures.1 (
    front_of_each _ _ _ element_line c.args.elements.now c.loop-element.element-index _ _ c.loop-element-test.true c.loop-element.invariant.written
    c.in_err-give_all.ensures.written (c.as_bytes.ensures.text ∙ c.element_line.ensures)
    )
