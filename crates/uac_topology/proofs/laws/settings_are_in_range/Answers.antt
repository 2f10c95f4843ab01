use Rattle.uac_topology.proofs.FunctionKeptRangeLemmas.{in_range}
use Rattle.uac_topology.proofs.laws.settings_are_in_range.Goals as goal

pub returns : goal.returns
returns c = in_range
