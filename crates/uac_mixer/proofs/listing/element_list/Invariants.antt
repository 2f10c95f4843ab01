use Rattle.std.proofs.Common.{◌≡◌, take}
use Rattle.std.specs.List.{flat_map}
use Rattle.uac_mixer.specs.MixerElements.{entity_elements}
use Rattle.uac_mixer.proofs.listing.element_list.Given as goal

abbrev pub invariant-loop-entity : goal.invariant-loop-entity
invariant-loop-entity l = l.elements.items ≡ flat_map (entity_elements l.function.entities) (take l.entity-index l.function.entities)
