use Rattle.uac_topology_rules.specs.Signals.{HasClusters}
use Rattle.uac_topology_rules.proofs.signals.clusters_of.Given as goal

abbrev pub invariant-loop-index : goal.invariant-loop-index
invariant-loop-index l = HasClusters l.table l.order l.index-index l.clusters.items
