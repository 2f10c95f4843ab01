use Rattle.std.proofs.Common.{◌∙◌, ap, sym, subst, List, ◌<◌, ◌+◌, ◌*◌, ◌^◌, length}
use Rattle.uac_entities.specs.declared.entity.Entity.{Entity}
use Rattle.uac_topology_rules.specs.Table.{at}
use Rattle.uac_topology_rules.specs.Clusters.{is_input}
use Rattle.uac_graph.specs.Fitness.{IsSignalGraph}
use Rattle.uac_graph.specs.Needs.{unit_count}
use Rattle.uac_graph.specs.TickRows.{frames_at}
use Rattle.uac_graph.proofs.WiringOrderLemmas.{fits_at, job_at, rendered_at, wire_at}
use Rattle.uac_graph.proofs.graph.Graph.render_ticks.Goals as goal

pub at-requires : goal.at-requires
at-requires g c = subst (λ (table : List Entity). c.args.index < length table) (sym c.self.view_is) c.requires.inside

pub render-requires-clause-fits : goal.render-requires-clause-fits
render-requires-clause-fits g c =
    let here = c.at.ensures ∙ ap (λ (table : List Entity). at table c.args.index) c.self.view_is in
    fits_at c.args.self.now (frames_at 0 c.args.wires.now) c.args.index c.at.result.now (subst IsSignalGraph c.self.view_is c.self.invariant.0) (c.requires.wires 0)
    c.requires.inside c.requires.signal here (ap (λ (e : Entity). is_input e.kind) here ∙ c.requires.worked)

pub render-requires-clause-there : goal.render-requires-clause-there
render-requires-clause-there g c =
    wire_at c.args.self.now (frames_at 0 c.args.wires.now) c.args.index c.at.result.now (subst IsSignalGraph c.self.view_is c.self.invariant.0) (c.requires.wires 0)
    c.requires.inside c.requires.signal (c.at.ensures ∙ ap (λ (table : List Entity). at table c.args.index) c.self.view_is)

pub render-requires-clause-job : goal.render-requires-clause-job
render-requires-clause-job g c = (
  c.requires.job.0,
  job_at c.args.self.now c.requires.job.0 (frames_at 0 c.args.wires.now) c.args.index c.at.result.now c.args.job.now
      (subst IsSignalGraph c.self.view_is c.self.invariant.0) (c.requires.wires 0)
      c.requires.inside c.requires.signal (c.at.ensures ∙ ap (λ (table : List Entity). at table c.args.index) c.self.view_is) c.requires.job.1,
)

pub render-requires-clause-room : goal.render-requires-clause-room
render-requires-clause-room g c =
    let here = c.at.ensures ∙ ap (λ (table : List Entity). at table c.args.index) c.self.view_is in
    subst (λ (e : Entity). c.args.steps.now + c.args.ticks * unit_count e.kind < 2 ^ 64) (sym here) c.requires.room

pub returns-clause-rendered : goal.returns-clause-rendered
returns-clause-rendered g c controls has tick early =
    let here = c.at.ensures ∙ ap (λ (table : List Entity). at table c.args.index) c.self.view_is in
    rendered_at c.args.self.now controls c.args.index c.at.result.now (frames_at tick c.args.wires.now) (frames_at tick c.render.new.self) here
    (ap (λ (e : Entity). is_input e.kind) here ∙ c.requires.worked)
    (c.render.ensures.frames controls
    (job_at c.args.self.now controls (frames_at 0 c.args.wires.now) c.args.index c.at.result.now c.args.job.now
    (subst IsSignalGraph c.self.view_is c.self.invariant.0) (c.requires.wires 0) c.requires.inside c.requires.signal here has)
    tick early)

pub returns-clause-counted : goal.returns-clause-counted
returns-clause-counted g c =
    let here = c.at.ensures ∙ ap (λ (table : List Entity). at table c.args.index) c.self.view_is in
    c.render.ensures.counted ∙ ap (λ (e : Entity). c.args.steps.now + c.args.ticks * unit_count e.kind) here
