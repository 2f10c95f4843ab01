use Rattle.std.proofs.Common.{rules}
use Rattle.uac_topology_rules.specs.Table.{first_index_of}
use Rattle.uac_topology_rules.proofs.TableIdLemmas.{table_same, table_more}
use Rattle.uac_topology_rules.proofs.table.indices_of.Goals as goal

pub loop-index-init : goal.loop-index-init
unfolding first_index_of
loop-index-init c = search rules

pub loop-index-preserved-then-contains_key : goal.loop-index-preserved-then-contains_key
loop-index-preserved-then-contains_key c =
    table_same c.args.entities.now c.loop-index.index c.index-entities-index.result c.loop-index.indices c.loop-index-test.true
    c.index-entities-index.is c.if-contains_key.ensures c.loop-index.invariant

pub loop-index-preserved : goal.loop-index-preserved
loop-index-preserved c =
    table_more c.args.entities.now c.loop-index.index c.index-entities-index.result c.loop-index.indices c.insert.new.self c.loop-index-test.true
    c.index-entities-index.is c.if-contains_key.ensures c.in_ok-insert.ensures.updates.0 c.loop-index.invariant
