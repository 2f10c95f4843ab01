use Rattle.std.proofs.Common.{take}
use Rattle.uac_topology_rules.specs.NodeReleasing.{Releases}
use Rattle.uac_topology_rules.proofs.order.release.Given as goal

abbrev pub invariant-loop-node : goal.invariant-loop-node
invariant-loop-node l = Releases (take l.node-index l.namers) l.initial.waiting.items l.initial.order.items l.waiting.items l.order.items
