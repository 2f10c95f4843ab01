use Rattle.std.proofs.Common.{ap}
use Rattle.uac_listing.specs.EntityLines.{entity_line}
use Rattle.uac_edges.proofs.WritingLemmas.{front_of_each, Writes-handed_on}
use Rattle.uac_listing.proofs.entities.write_entities.Goals as goal

pub returns-in_err-write_entity-clause-written : goal.returns-in_err-write_entity-clause-written
returns-in_err-write_entity-clause-written g c =
    Writes-handed_on _ (g.K.Sink.written c.args.sink.now) (g.K.Sink.written c.write_entity.new.sink) c.from_residual.result _ c.from_residual.ensures.1 (
    front_of_each _ _ _ entity_line c.args.entities.now c.loop-entity.entity-index c.entity-item.result _ c.loop-entity-test.true c.loop-entity.invariant.written
    c.in_err-write_entity.ensures.written (ap entity_line c.entity-item.is)
    )
