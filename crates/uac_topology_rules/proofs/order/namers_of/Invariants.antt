use Rattle.uac_topology_rules.specs.Noting.{IsNamedBy}
use Rattle.uac_topology_rules.proofs.order.namers_of.Given as goal

abbrev pub invariant-loop-node : goal.invariant-loop-node
invariant-loop-node l = IsNamedBy l.graph l.node l.namers.items
