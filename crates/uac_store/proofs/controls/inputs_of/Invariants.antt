use Rattle.std.proofs.Common.{◌≡◌, take, sum_by}
use Rattle.uac_entities.specs.EntityInterfaces.{channels_of}
use Rattle.uac_store.proofs.controls.inputs_of.Given as goal

abbrev pub invariant-loop-id : goal.invariant-loop-id
invariant-loop-id l = l.inputs ≡ sum_by (channels_of l.function.entities) (take l.id-index l.id-items)
