use Rattle.uac_topology.proofs.FunctionKeptLinkLemmas.{are_links}
use Rattle.uac_topology.proofs.laws.settings_are_linked.Goals as goal

pub returns : goal.returns
returns c = are_links
