use Rattle.std.proofs.Common.{sym, subst, List}
use Rattle.uac_entities.specs.declared.entity.Entity.{Entity}
use Rattle.uac_graph.specs.GraphControls.{controls_in}
use Rattle.uac_graph.specs.Jobs.{AreJobs}
use Rattle.uac_graph.proofs.graph.Graph.renew.Goals as goal

pub returns : goal.returns
returns c before are same =
    subst (λ (table : List Entity). AreJobs table (controls_in c.args.store.now) c.renew.new.self) c.self.view_is
    (c.renew.ensures before (subst (λ (table : List Entity). AreJobs table before c.args.jobs.now) (sym c.self.view_is) are) same)
