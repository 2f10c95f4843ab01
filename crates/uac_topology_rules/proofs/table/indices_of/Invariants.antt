use Rattle.std.proofs.Common.{take}
use Rattle.uac_topology_rules.specs.Indices.{IsTable}
use Rattle.uac_topology_rules.proofs.table.indices_of.Given as goal

abbrev pub invariant-loop-index : goal.invariant-loop-index
invariant-loop-index l = IsTable (take l.index l.entities) l.indices
