use Rattle.uac_topology_rules.proofs.WalkLemmas.{no_way_back_lem}
use Rattle.uac_topology_rules.proofs.laws.no_way_back.Goals as goal

pub returns : goal.returns
returns c = no_way_back_lem
