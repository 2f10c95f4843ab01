use Rattle.uac_topology_rules.proofs.ClustersLemmas.{more_links}
use Rattle.uac_topology_rules.proofs.laws.more_links_change_nothing.Goals as goal

pub returns : goal.returns
returns c = more_links
