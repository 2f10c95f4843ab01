use Rattle.uac_topology.proofs.TopologyCycleLemmas.{sound_has_no_cycle}
use Rattle.uac_topology.proofs.laws.no_cycle.Goals as goal

pub returns : goal.returns
returns c = sound_has_no_cycle
