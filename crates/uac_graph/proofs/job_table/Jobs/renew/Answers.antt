use Rattle.std.proofs.Common.{◌<◌, ap, sym, subst, refl, arith, length}
use Rattle.uac_graph.specs.GraphControls.{controls_in}
use Rattle.uac_graph.specs.Jobs.{AreJobs}
use Rattle.uac_graph.proofs.JobsLemmas.{none_renewed, one_renewed}
use Rattle.uac_graph.proofs.job_table.Jobs.renew.Goals as goal

pub returns-then-index-len : goal.returns-then-index-len
returns-then-index-len c before are same =
    let inside : c.index_of-index.result < length c.args.table.now = omega (arith, c.if-index-len.true, c.len.ensures, ap length c.self.view_is, c.requires.sized) in
    one_renewed c.args.table.now before (controls_in c.args.store.now) c.args.id c.index_of-index.result c.self.inside.list.items _ c.ask.new.job c.at.result.now
    c.requires.graph c.index_of-index.ensures inside c.at.ensures c.ask.ensures refl same (subst (AreJobs c.args.table.now before) (sym c.self.view_is) are)

pub returns-else-index-len : goal.returns-else-index-len
returns-else-index-len c before are same = none_renewed c.args.table.now before (controls_in c.args.store.now) c.args.id _ c.requires.graph
    (omega (arith, c.if-index-len.false, c.len.ensures, ap length c.self.view_is, c.requires.sized, c.index_of-index.ensures)) same are
