use Rattle.uac_graph.specs.GraphControls.{controls_in}
use Rattle.uac_graph.proofs.JobsLemmas.{asked_at}
use Rattle.uac_graph.proofs.graph.Graph.render.Goals as goal

pub render_by-requires-clause-job : goal.render_by-requires-clause-job
render_by-requires-clause-job g c = (
  controls_in c.args.store.now,
  asked_at c.args.self.now c.self.inside.table (controls_in c.args.store.now) c.args.index c.at.result.now c.ask.new.job c.self.view_is c.at.ensures c.ask.ensures,
)

pub returns-clause-rendered : goal.returns-clause-rendered
returns-clause-rendered g c = c.render_by.ensures.rendered (controls_in c.args.store.now)
    (asked_at c.args.self.now c.self.inside.table (controls_in c.args.store.now) c.args.index c.at.result.now c.ask.new.job c.self.view_is c.at.ensures c.ask.ensures)
