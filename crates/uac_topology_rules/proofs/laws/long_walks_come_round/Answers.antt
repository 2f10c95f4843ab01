use Rattle.uac_topology_rules.proofs.CyclesLemmas as cycles
use Rattle.uac_topology_rules.proofs.laws.long_walks_come_round.Goals as goal

pub returns : goal.returns
returns c = cycles.long_walks_come_round
