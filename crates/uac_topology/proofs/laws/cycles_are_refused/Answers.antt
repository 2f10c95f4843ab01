use Rattle.uac_topology.proofs.TopologyCycleLemmas as cycles
use Rattle.uac_topology.proofs.laws.cycles_are_refused.Goals as goal

pub returns : goal.returns
returns c = cycles.cycles_are_refused
