use Rattle.uac_topology_rules.proofs.CyclesLemmas.{absent_round, round_absent}
use Rattle.uac_topology_rules.proofs.order.comes_round.Goals as goal

pub returns-clause-round : goal.returns-clause-round
returns-clause-round c =
    let graph = c.args.graph.now in
    let order = c.args.order.now in (
      absent_round graph order c.args.node c.contains.result c.requires.closed c.requires.ordered c.requires.inside c.contains.ensures.value,
      round_absent graph order c.args.node c.contains.result c.requires.ordered c.requires.inside c.contains.ensures.value,
    )
