use Rattle.std.proofs.Common.{◌≡◌, ◌++◌}
use Rattle.std.specs.List.{flat_map, range_with_len}
use Rattle.uac_mixer.specs.MixerElements.{control_elements}
use Rattle.uac_mixer.proofs.listing.add_entity.Given as goal

abbrev pub invariant-loop-below : goal.invariant-loop-below
invariant-loop-below l = l.elements.items ≡ l.initial.elements.items ++ flat_map (control_elements l.function.entities l.entity) (range_with_len 1 l.below)
