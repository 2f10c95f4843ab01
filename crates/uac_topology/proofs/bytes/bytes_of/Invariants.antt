use Rattle.std.proofs.Common.{◌≡◌, flat_map, take}
use Rattle.uac_descriptor.specs.Spelling.{spelling}
use Rattle.uac_topology.proofs.bytes.bytes_of.Given as goal

abbrev pub invariant-loop-block : goal.invariant-loop-block
invariant-loop-block l = l.bytes ≡ flat_map spelling (take l.block-index l.blocks)
