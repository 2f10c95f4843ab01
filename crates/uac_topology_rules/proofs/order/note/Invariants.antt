use Rattle.std.proofs.Common.{take}
use Rattle.uac_topology_rules.specs.Noting.{IsNoted}
use Rattle.uac_topology_rules.proofs.order.note.Given as goal

abbrev pub invariant-loop-to : goal.invariant-loop-to
invariant-loop-to l = IsNoted l.node (take l.to-index l.named) l.initial.namers.items l.namers.items
