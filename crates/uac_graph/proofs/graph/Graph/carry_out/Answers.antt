use Rattle.std.proofs.Common.{◌∙◌, sym, refl, subst, arith}
use Rattle.uac_topology_rules.specs.Table.{at}
use Rattle.uac_graph.proofs.WiringOrderLemmas.{fitting_at, rendered_at, wire_at}
use Rattle.uac_graph.specs.Wiring.{samples_on}
use Rattle.uac_units.specs.Rendering.{FitsKind}
use Rattle.uac_units.specs.declared.jobs.UnitKind.{UnitKind}
use Rattle.uac_graph.proofs.TasksLemmas.{
  by_kind,
  job_of,
  other_uncounted,
  passed_set,
  passed_there,
  passes_is,
  renders_few,
  renders_fits,
  renders_is,
  renders_set,
  renders_there,
  unit_counted,
}
use Rattle.uac_graph.proofs.graph.Graph.carry_out.Goals as goal

pub pass-requires : goal.pass-requires
pass-requires g c =
    let index = c.args.task.now.index in
    passed_there c.args.self.now c.args.wires.now index c.requires.sound c.requires.wires c.requires.inside c.requires.signal
    c.requires.jobs.0 c.in-Pass.from c.in-Pass.to (passes_is (at c.args.self.now index) c.in-Pass.from c.in-Pass.to c.requires.worked (sym c.requires.task ∙ c.in-Pass.is))

pub returns-in-Pass-clause-rendered : goal.returns-in-Pass-clause-rendered
returns-in-Pass-clause-rendered g c controls are =
    let index = c.args.task.now.index in
    let passes = passes_is (at c.args.self.now index) c.in-Pass.from c.in-Pass.to c.requires.worked (sym c.requires.task ∙ c.in-Pass.is) in
    rendered_at c.args.self.now controls index (at c.args.self.now index) c.args.wires.now c.pass.new.self refl passes.signal
    (passed_set c.args.self.now c.args.wires.now index c.requires.sound c.requires.wires c.requires.inside c.requires.signal
    controls c.in-Pass.from c.in-Pass.to c.pass.new.self passes c.pass.ensures)

pub returns-in-Pass-clause-fitting : goal.returns-in-Pass-clause-fitting
returns-in-Pass-clause-fitting g c =
    let index = c.args.task.now.index in
    let controls = c.requires.jobs.0 in
    let sound = c.requires.sound in
    let passes = passes_is (at c.args.self.now index) c.in-Pass.from c.in-Pass.to c.requires.worked (sym c.requires.task ∙ c.in-Pass.is) in
    fitting_at c.args.self.now controls (at c.args.self.now index) c.args.wires.now c.pass.new.self c.requires.wires
    (wire_at c.args.self.now c.args.wires.now index (at c.args.self.now index) sound c.requires.wires c.requires.inside c.requires.signal refl)
    (passed_set c.args.self.now c.args.wires.now index sound c.requires.wires c.requires.inside c.requires.signal
    controls c.in-Pass.from c.in-Pass.to c.pass.new.self passes c.pass.ensures)

pub returns-in-Pass-clause-counted : goal.returns-in-Pass-clause-counted
returns-in-Pass-clause-counted g c =
    let e = at c.args.self.now c.args.task.now.index in
    other_uncounted e.kind c.args.steps.now (passes_is e c.in-Pass.from c.in-Pass.to c.requires.worked (sym c.requires.task ∙ c.in-Pass.is)).unit

pub at-requires : goal.at-requires
at-requires g c = omega (arith, c.requires.jobs.1.counted, c.requires.inside)

pub render_one-requires-clause-few : goal.render_one-requires-clause-few
render_one-requires-clause-few g c =
    let index = c.args.task.now.index in
    let sound = c.requires.sound in
    let renders = renders_is (at c.args.self.now index) c.in-Render.kind c.in-Render.source c.in-Render.id c.requires.worked (sym c.requires.task ∙ c.in-Render.is) in
    renders_few c.args.self.now c.args.wires.now index sound c.requires.wires c.requires.inside c.requires.signal
    c.in-Render.kind c.in-Render.source c.in-Render.id renders

pub render_one-requires-clause-fits : goal.render_one-requires-clause-fits
render_one-requires-clause-fits g c =
    let index = c.args.task.now.index in
    let sound = c.requires.sound in
    let renders = renders_is (at c.args.self.now index) c.in-Render.kind c.in-Render.source c.in-Render.id c.requires.worked (sym c.requires.task ∙ c.in-Render.is) in
    subst (λ (u : UnitKind). FitsKind u c.at.result.now (samples_on c.args.wires.now c.in-Render.source)) (sym c.unit.ensures.kind)
    (renders_fits c.args.self.now c.args.wires.now index sound c.requires.wires c.requires.inside c.requires.signal
    c.requires.jobs.0 c.in-Render.kind c.in-Render.source c.in-Render.id c.at.result.now renders
    (job_of c.args.self.now c.requires.jobs.0 c.args.jobs.now c.at.result.now index c.requires.jobs.1 c.requires.inside c.at.ensures))

pub render_one-requires-clause-there : goal.render_one-requires-clause-there
render_one-requires-clause-there g c =
    let index = c.args.task.now.index in
    let sound = c.requires.sound in
    let renders = renders_is (at c.args.self.now index) c.in-Render.kind c.in-Render.source c.in-Render.id c.requires.worked (sym c.requires.task ∙ c.in-Render.is) in
    renders_there c.args.self.now c.args.wires.now index sound c.requires.wires c.requires.inside c.requires.signal
    c.requires.jobs.0 c.in-Render.kind c.in-Render.source c.in-Render.id c.at.result.now renders
    (job_of c.args.self.now c.requires.jobs.0 c.args.jobs.now c.at.result.now index c.requires.jobs.1 c.requires.inside c.at.ensures)

pub render_one-requires-clause-room : goal.render_one-requires-clause-room
render_one-requires-clause-room g c =
    let index = c.args.task.now.index in
    let sound = c.requires.sound in
    let renders = renders_is (at c.args.self.now index) c.in-Render.kind c.in-Render.source c.in-Render.id c.requires.worked (sym c.requires.task ∙ c.in-Render.is) in
    omega (arith, c.requires.room, unit_counted (at c.args.self.now index).kind c.in-Render.kind renders.unit)

pub returns-in-Render-clause-rendered : goal.returns-in-Render-clause-rendered
returns-in-Render-clause-rendered g c controls are =
    let index = c.args.task.now.index in
    let sound = c.requires.sound in
    let renders = renders_is (at c.args.self.now index) c.in-Render.kind c.in-Render.source c.in-Render.id c.requires.worked (sym c.requires.task ∙ c.in-Render.is) in
    rendered_at c.args.self.now controls index (at c.args.self.now index) c.args.wires.now c.render_one.new.self refl renders.signal
    (renders_set c.args.self.now c.args.wires.now index sound c.requires.wires c.requires.inside c.requires.signal
    controls c.in-Render.kind c.in-Render.source c.in-Render.id c.at.result.now c.render_one.new.self renders
    (job_of c.args.self.now controls c.args.jobs.now c.at.result.now index are c.requires.inside c.at.ensures)
    (λ k. c.render_one.ensures.frames k ∙ by_kind c.args.wires.now c.in-Render.id k _ c.in-Render.kind c.at.result.now (samples_on c.args.wires.now c.in-Render.source) c.unit.ensures.kind))

pub returns-in-Render-clause-fitting : goal.returns-in-Render-clause-fitting
returns-in-Render-clause-fitting g c =
    let index = c.args.task.now.index in
    let sound = c.requires.sound in
    let renders = renders_is (at c.args.self.now index) c.in-Render.kind c.in-Render.source c.in-Render.id c.requires.worked (sym c.requires.task ∙ c.in-Render.is) in
    let controls = c.requires.jobs.0 in
    fitting_at c.args.self.now controls (at c.args.self.now index) c.args.wires.now c.render_one.new.self c.requires.wires
    (wire_at c.args.self.now c.args.wires.now index (at c.args.self.now index) sound c.requires.wires c.requires.inside c.requires.signal refl)
    (renders_set c.args.self.now c.args.wires.now index sound c.requires.wires c.requires.inside c.requires.signal
    controls c.in-Render.kind c.in-Render.source c.in-Render.id c.at.result.now c.render_one.new.self renders
    (job_of c.args.self.now c.requires.jobs.0 c.args.jobs.now c.at.result.now index c.requires.jobs.1 c.requires.inside c.at.ensures)
    (λ k. c.render_one.ensures.frames k ∙ by_kind c.args.wires.now c.in-Render.id k _ c.in-Render.kind c.at.result.now (samples_on c.args.wires.now c.in-Render.source) c.unit.ensures.kind))

pub returns-in-Render-clause-counted : goal.returns-in-Render-clause-counted
returns-in-Render-clause-counted g c =
    let index = c.args.task.now.index in
    let sound = c.requires.sound in
    let renders = renders_is (at c.args.self.now index) c.in-Render.kind c.in-Render.source c.in-Render.id c.requires.worked (sym c.requires.task ∙ c.in-Render.is) in
    omega (arith, c.render_one.ensures.counted, unit_counted (at c.args.self.now index).kind c.in-Render.kind renders.unit)

pub render_by-requires-clause-job : goal.render_by-requires-clause-job
render_by-requires-clause-job g c =
    let index = c.args.task.now.index in (
      c.requires.jobs.0,
      job_of c.args.self.now c.requires.jobs.0 c.args.jobs.now c.at-in-Ask.result.now index c.requires.jobs.1 c.requires.inside c.at-in-Ask.ensures,
    )

pub returns-in-Ask-clause-rendered : goal.returns-in-Ask-clause-rendered
returns-in-Ask-clause-rendered g c controls are =
    let index = c.args.task.now.index in
    c.render_by.ensures.rendered controls (job_of c.args.self.now controls c.args.jobs.now c.at-in-Ask.result.now index are c.requires.inside c.at-in-Ask.ensures)
