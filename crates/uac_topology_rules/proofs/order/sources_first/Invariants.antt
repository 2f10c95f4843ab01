use Rattle.uac_topology_rules.specs.NodeReleasing.{IsReleased}
use Rattle.uac_topology_rules.proofs.order.sources_first.Given as goal

abbrev pub invariant-loop-done : goal.invariant-loop-done
invariant-loop-done l = IsReleased l.graph l.done l.waiting.items l.order.items
