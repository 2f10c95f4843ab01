use Rattle.uac_topology.proofs.TopologySizeLemmas.{small}
use Rattle.uac_topology.proofs.laws.sound_functions_are_small.Goals as goal

pub returns : goal.returns
returns c = small
