use Rattle.std.proofs.Common.{◌≡◌, drop}
use Rattle.uac_topology.specs.Topology.{first_given, total_length}
use Rattle.uac_topology.proofs.configuration.total_of.Given as goal

abbrev pub invariant-loop-block : goal.invariant-loop-block
invariant-loop-block l = first_given total_length (drop l.block-index l.blocks) ≡ first_given total_length l.blocks
