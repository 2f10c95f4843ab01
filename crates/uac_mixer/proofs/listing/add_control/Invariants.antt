use Rattle.std.proofs.Common.{◌≡◌, ◌++◌}
use Rattle.std.specs.List.{filter_map, range_with_len}
use Rattle.uac_mixer.specs.MixerElements.{element_on}
use Rattle.uac_mixer.proofs.listing.add_control.Given as goal

abbrev pub invariant-loop-channel : goal.invariant-loop-channel
invariant-loop-channel l = l.elements.items ≡ l.initial.elements.items ++ filter_map (element_on l.entity l.selector) (range_with_len 0 l.channel)
