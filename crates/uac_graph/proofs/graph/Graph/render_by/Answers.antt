use Rattle.std.proofs.Common.{◌∙◌, ap, sym, subst, List, ◌<◌, length}
use Rattle.uac_entities.specs.declared.entity.Entity.{Entity}
use Rattle.uac_topology_rules.specs.Table.{at}
use Rattle.uac_graph.specs.Fitness.{IsSignalGraph}
use Rattle.uac_graph.proofs.WiringOrderLemmas.{fits_at, fitting_at, job_at, kept_at, rendered_at, wire_at}
use Rattle.uac_graph.proofs.graph.Graph.render_by.Goals as goal

pub at-entity-requires : goal.at-entity-requires
at-entity-requires g c = subst (λ (table : List Entity). c.args.index < length table) (sym c.self.view_is) c.requires.inside

pub render-requires-clause-fits : goal.render-requires-clause-fits
render-requires-clause-fits g c =
    fits_at c.args.self.now c.args.wires.now c.args.index c.at-entity.result.now (subst IsSignalGraph c.self.view_is c.self.invariant.0) c.requires.wires c.requires.inside c.requires.signal
    (c.at-entity.ensures ∙ ap (λ (table : List Entity). at table c.args.index) c.self.view_is) (sym c.is_input.ensures ∙ c.if-not-is_input.true)

pub render-requires-clause-there : goal.render-requires-clause-there
render-requires-clause-there g c =
    wire_at c.args.self.now c.args.wires.now c.args.index c.at-entity.result.now (subst IsSignalGraph c.self.view_is c.self.invariant.0) c.requires.wires c.requires.inside c.requires.signal
    (c.at-entity.ensures ∙ ap (λ (table : List Entity). at table c.args.index) c.self.view_is)

pub render-requires-clause-job : goal.render-requires-clause-job
render-requires-clause-job g c = (
  c.requires.job.0,
  job_at c.args.self.now c.requires.job.0 c.args.wires.now c.args.index c.at-entity.result.now c.args.job.now (subst IsSignalGraph c.self.view_is c.self.invariant.0) c.requires.wires
      c.requires.inside c.requires.signal (c.at-entity.ensures ∙ ap (λ (table : List Entity). at table c.args.index) c.self.view_is) c.requires.job.1,
)

pub returns-then-not-is_input-clause-rendered : goal.returns-then-not-is_input-clause-rendered
returns-then-not-is_input-clause-rendered g c controls has =
    let here = c.at-entity.ensures ∙ ap (λ (table : List Entity). at table c.args.index) c.self.view_is in
    rendered_at c.args.self.now controls c.args.index c.at-entity.result.now c.args.wires.now c.render.new.self here (sym c.is_input.ensures ∙ c.if-not-is_input.true)
    (c.render.ensures.frames controls
    (job_at c.args.self.now controls c.args.wires.now c.args.index c.at-entity.result.now c.args.job.now (subst IsSignalGraph c.self.view_is c.self.invariant.0) c.requires.wires
    c.requires.inside c.requires.signal here has))

pub returns-then-not-is_input-clause-fitting : goal.returns-then-not-is_input-clause-fitting
returns-then-not-is_input-clause-fitting g c =
    let here = c.at-entity.ensures ∙ ap (λ (table : List Entity). at table c.args.index) c.self.view_is in
    fitting_at c.args.self.now c.requires.job.0 c.at-entity.result.now c.args.wires.now c.render.new.self c.requires.wires
    (wire_at c.args.self.now c.args.wires.now c.args.index c.at-entity.result.now (subst IsSignalGraph c.self.view_is c.self.invariant.0) c.requires.wires c.requires.inside c.requires.signal here)
    (c.render.ensures.frames c.requires.job.0
    (job_at c.args.self.now c.requires.job.0 c.args.wires.now c.args.index c.at-entity.result.now c.args.job.now (subst IsSignalGraph c.self.view_is c.self.invariant.0) c.requires.wires
    c.requires.inside c.requires.signal here c.requires.job.1))

pub returns-else-not-is_input-clause-rendered : goal.returns-else-not-is_input-clause-rendered
returns-else-not-is_input-clause-rendered g c controls has =
    kept_at c.args.self.now controls c.args.index c.at-entity.result.now c.args.wires.now
    (c.at-entity.ensures ∙ ap (λ (table : List Entity). at table c.args.index) c.self.view_is) (sym c.is_input.ensures ∙ c.if-not-is_input.false)
