use Rattle.std.proofs.Common.{arith}
use Rattle.uac_topology_rules.proofs.TableClusterLemmas.{put_all}
use Rattle.uac_topology_rules.proofs.table.put_clusters.Goals as goal

pub returns : goal.returns
returns c =
    let l = c.loop-index in
    put_all c.args.entities.now.items c.args.clusters.now l.index l.entities.items c.requires (omega (arith, c.requires, c.loop-index-test.false)) l.invariant
