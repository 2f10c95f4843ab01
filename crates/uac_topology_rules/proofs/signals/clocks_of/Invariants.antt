use Rattle.uac_topology_rules.specs.Signals.{HasClocks}
use Rattle.uac_topology_rules.proofs.signals.clocks_of.Given as goal

abbrev pub invariant-loop-index : goal.invariant-loop-index
invariant-loop-index l = HasClocks l.table l.order l.index-index l.list.items
