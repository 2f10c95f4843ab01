use Rattle.uac_topology.proofs.FunctionKeptChannelLemmas.{have_channels}
use Rattle.uac_topology.proofs.laws.entities_have_channels.Goals as goal

pub returns : goal.returns
returns c = have_channels
