use Rattle.std.proofs.Common.{◌≡◌, take, map}
use Rattle.uac_entities.specs.EntityInterfaces.{channels_of}
use Rattle.uac_store.proofs.start.pins_of.Given as goal

abbrev pub invariant-loop-id : goal.invariant-loop-id
invariant-loop-id l = l.pins.items ≡ map (channels_of l.function.entities) (take l.id-index l.id-items)
