use Rattle.std.proofs.Common.{◌≡◌, take}
use Rattle.std.specs.List.{flat_map}
use Rattle.uac_store.specs.StoreControls.{controls_of}
use Rattle.uac_store.proofs.start.start_values.Given as goal

abbrev pub invariant-loop-entity : goal.invariant-loop-entity
invariant-loop-entity l = l.values.entries ≡ flat_map (controls_of l.function.entities) (take l.entity-index l.function.entities)
