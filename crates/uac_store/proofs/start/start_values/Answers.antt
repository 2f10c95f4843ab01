use Rattle.uac_store.proofs.StoreControlsStartLemmas.{entity_absent, all_entities}
use Rattle.uac_store.proofs.start.start_values.Goals as goal

pub add_controls-requires-clause-absent : goal.add_controls-requires-clause-absent
add_controls-requires-clause-absent c = λ selector channel.
    entity_absent _ _ _ _ _ _ _ c.entities-entity-items.ensures c.requires.apart c.loop-entity-test.true c.entity-item.is c.loop-entity.invariant

pub returns : goal.returns
returns c = all_entities _ _ _ _ c.entities-entity-items.ensures c.loop-entity-test.false c.loop-entity.invariant
