use Rattle.uac_topology.proofs.FunctionKeptNumberLemmas.{are_numbered}
use Rattle.uac_topology.proofs.laws.interfaces_are_numbered.Goals as goal

pub returns : goal.returns
returns c = are_numbered
