use Rattle.uac_topology_rules.proofs.LinkCyclesLemmas.{cycles_are_named}
use Rattle.uac_topology_rules.proofs.laws.walk_rules_name_cycles.Goals as goal

pub returns : goal.returns
returns c = cycles_are_named
