use Rattle.std.proofs.Common.{◌≡◌, drop}
use Rattle.uac_entities.specs.EntityInterfaces.{entity_by_id}
use Rattle.uac_entities.proofs.interfaces.kind_of.Given as goal

abbrev pub invariant-loop-entity : goal.invariant-loop-entity
invariant-loop-entity l = entity_by_id (drop l.entity-index l.entities) l.id ≡ entity_by_id l.entities l.id
