use Rattle.std.proofs.Common.{◌≡◌, drop}
use Rattle.uac_topology.specs.Topology.{first_given, control_number}
use Rattle.uac_topology.proofs.configuration.control_interface_of.Given as goal

abbrev pub invariant-loop-block : goal.invariant-loop-block
invariant-loop-block l = first_given control_number (drop l.block-index l.blocks) ≡ first_given control_number l.blocks
