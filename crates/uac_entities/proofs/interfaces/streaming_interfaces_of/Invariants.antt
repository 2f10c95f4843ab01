use Rattle.std.proofs.Common.{◌≡◌, take}
use Rattle.std.specs.List.{filter_map}
use Rattle.uac_entities.specs.EntityInterfaces.{streaming_interface_at}
use Rattle.uac_entities.proofs.interfaces.streaming_interfaces_of.Given as goal

abbrev pub invariant-loop-declared : goal.invariant-loop-declared
invariant-loop-declared l = l.streams.items ≡ filter_map (streaming_interface_at l.entities l.all) (take l.declared-index l.all)
