use Rattle.std.proofs.Common.{◌∙◌, ◌*◌, ap, sym, refl, subst, arith, ℕ}
use Rattle.uac_topology_rules.specs.Table.{at}
use Rattle.uac_graph.proofs.WiringOrderLemmas.{rendered_at}
use Rattle.uac_graph.specs.TickRows.{frames_at}
use Rattle.uac_graph.specs.Wiring.{samples_on}
use Rattle.uac_units.specs.Rendering.{FitsKind}
use Rattle.uac_units.specs.declared.jobs.UnitKind.{UnitKind}
use Rattle.uac_graph.proofs.TickRowsLemmas.{source_apart}
use Rattle.uac_graph.proofs.TasksLemmas.{
  by_kind,
  job_of,
  other_uncounted,
  passed_set,
  passed_there,
  passes_is,
  renders_few,
  renders_fits,
  renders_is,
  renders_set,
  renders_there,
  unit_counted,
}
use Rattle.uac_graph.proofs.graph.Graph.carry_out_ticks.Goals as goal

pub pass-requires-clause-apart : goal.pass-requires-clause-apart
pass-requires-clause-apart g c =
    let index = c.args.task.now.index in
    let passes = passes_is (at c.args.self.now index) c.in-Pass.from c.in-Pass.to c.requires.worked (sym c.requires.task ∙ c.in-Pass.is) in
    λ same. source_apart c.args.self.now index c.in-Pass.from c.requires.sound c.requires.inside c.requires.signal passes.one (same ∙ passes.named)

pub pass-requires-clause-alike : goal.pass-requires-clause-alike
pass-requires-clause-alike g c =
    let index = c.args.task.now.index in
    let passes = passes_is (at c.args.self.now index) c.in-Pass.from c.in-Pass.to c.requires.worked (sym c.requires.task ∙ c.in-Pass.is) in
    passed_there c.args.self.now (frames_at 0 c.args.wires.now) index c.requires.sound (c.requires.wires 0) c.requires.inside c.requires.signal
    c.requires.jobs.0 c.in-Pass.from c.in-Pass.to passes

pub returns-in-Pass-clause-rendered : goal.returns-in-Pass-clause-rendered
returns-in-Pass-clause-rendered g c controls are tick early =
    let index = c.args.task.now.index in
    let passes = passes_is (at c.args.self.now index) c.in-Pass.from c.in-Pass.to c.requires.worked (sym c.requires.task ∙ c.in-Pass.is) in
    let old = frames_at tick c.args.wires.now in
    let new = frames_at tick c.pass.new.self in
    rendered_at c.args.self.now controls index (at c.args.self.now index) old new refl passes.signal
    (passed_set c.args.self.now old index c.requires.sound (c.requires.wires tick) c.requires.inside c.requires.signal
    controls c.in-Pass.from c.in-Pass.to new passes (c.pass.ensures.frames tick early))

pub returns-in-Pass-clause-counted : goal.returns-in-Pass-clause-counted
returns-in-Pass-clause-counted g c =
    let index = c.args.task.now.index in
    let passes = passes_is (at c.args.self.now index) c.in-Pass.from c.in-Pass.to c.requires.worked (sym c.requires.task ∙ c.in-Pass.is) in
    let none = other_uncounted (at c.args.self.now index).kind 0 passes.unit in
    omega (arith, ap (λ (n : ℕ). c.args.ticks * n) none)

pub at-job-requires : goal.at-job-requires
at-job-requires g c = omega (arith, c.requires.jobs.1.counted, c.requires.inside)

pub render_one-requires-clause-apart : goal.render_one-requires-clause-apart
render_one-requires-clause-apart g c =
    let index = c.args.task.now.index in
    let sound = c.requires.sound in
    let renders = renders_is (at c.args.self.now index) c.in-Render.kind c.in-Render.source c.in-Render.id c.requires.worked (sym c.requires.task ∙ c.in-Render.is) in
    λ same. source_apart c.args.self.now index c.in-Render.source sound c.requires.inside c.requires.signal renders.one (same ∙ renders.named)

pub render_one-requires-clause-few : goal.render_one-requires-clause-few
render_one-requires-clause-few g c =
    let index = c.args.task.now.index in
    let sound = c.requires.sound in
    let renders = renders_is (at c.args.self.now index) c.in-Render.kind c.in-Render.source c.in-Render.id c.requires.worked (sym c.requires.task ∙ c.in-Render.is) in
    renders_few c.args.self.now (frames_at 0 c.args.wires.now) index sound (c.requires.wires 0) c.requires.inside c.requires.signal
    c.in-Render.kind c.in-Render.source c.in-Render.id renders

pub render_one-requires-clause-fits : goal.render_one-requires-clause-fits
render_one-requires-clause-fits g c =
    let index = c.args.task.now.index in
    let sound = c.requires.sound in
    let renders = renders_is (at c.args.self.now index) c.in-Render.kind c.in-Render.source c.in-Render.id c.requires.worked (sym c.requires.task ∙ c.in-Render.is) in
    subst (λ (u : UnitKind). FitsKind u c.at-job.result.now (samples_on (frames_at 0 c.args.wires.now) c.in-Render.source)) (sym c.unit.ensures.kind)
    (renders_fits c.args.self.now (frames_at 0 c.args.wires.now) index sound (c.requires.wires 0) c.requires.inside c.requires.signal
    c.requires.jobs.0 c.in-Render.kind c.in-Render.source c.in-Render.id c.at-job.result.now renders
    (job_of c.args.self.now c.requires.jobs.0 c.args.jobs.now c.at-job.result.now index c.requires.jobs.1 c.requires.inside c.at-job.ensures))

pub render_one-requires-clause-there : goal.render_one-requires-clause-there
render_one-requires-clause-there g c =
    let index = c.args.task.now.index in
    let sound = c.requires.sound in
    let renders = renders_is (at c.args.self.now index) c.in-Render.kind c.in-Render.source c.in-Render.id c.requires.worked (sym c.requires.task ∙ c.in-Render.is) in
    renders_there c.args.self.now (frames_at 0 c.args.wires.now) index sound (c.requires.wires 0) c.requires.inside c.requires.signal
    c.requires.jobs.0 c.in-Render.kind c.in-Render.source c.in-Render.id c.at-job.result.now renders
    (job_of c.args.self.now c.requires.jobs.0 c.args.jobs.now c.at-job.result.now index c.requires.jobs.1 c.requires.inside c.at-job.ensures)

pub render_one-requires-clause-room : goal.render_one-requires-clause-room
render_one-requires-clause-room g c =
    let index = c.args.task.now.index in
    let sound = c.requires.sound in
    let renders = renders_is (at c.args.self.now index) c.in-Render.kind c.in-Render.source c.in-Render.id c.requires.worked (sym c.requires.task ∙ c.in-Render.is) in
    omega (arith, c.requires.room, ap (λ (n : ℕ). c.args.ticks * n) (unit_counted (at c.args.self.now index).kind c.in-Render.kind renders.unit))

pub returns-in-Render-clause-rendered : goal.returns-in-Render-clause-rendered
returns-in-Render-clause-rendered g c controls are tick early =
    let index = c.args.task.now.index in
    let sound = c.requires.sound in
    let renders = renders_is (at c.args.self.now index) c.in-Render.kind c.in-Render.source c.in-Render.id c.requires.worked (sym c.requires.task ∙ c.in-Render.is) in
    let old = frames_at tick c.args.wires.now in
    let new = frames_at tick c.render_one.new.self in
    rendered_at c.args.self.now controls index (at c.args.self.now index) old new refl renders.signal
    (renders_set c.args.self.now old index sound (c.requires.wires tick) c.requires.inside c.requires.signal
    controls c.in-Render.kind c.in-Render.source c.in-Render.id c.at-job.result.now new renders
    (job_of c.args.self.now controls c.args.jobs.now c.at-job.result.now index are c.requires.inside c.at-job.ensures)
    (λ k. c.render_one.ensures.frames tick early k
    ∙ by_kind old c.in-Render.id k _ c.in-Render.kind c.at-job.result.now (samples_on old c.in-Render.source) c.unit.ensures.kind))

pub returns-in-Render-clause-counted : goal.returns-in-Render-clause-counted
returns-in-Render-clause-counted g c =
    let index = c.args.task.now.index in
    let sound = c.requires.sound in
    let renders = renders_is (at c.args.self.now index) c.in-Render.kind c.in-Render.source c.in-Render.id c.requires.worked (sym c.requires.task ∙ c.in-Render.is) in
    omega (arith, c.render_one.ensures.counted, ap (λ (n : ℕ). c.args.ticks * n) (unit_counted (at c.args.self.now index).kind c.in-Render.kind renders.unit))

pub render_ticks-requires-clause-job : goal.render_ticks-requires-clause-job
render_ticks-requires-clause-job g c =
    let index = c.args.task.now.index in (
      c.requires.jobs.0,
      job_of c.args.self.now c.requires.jobs.0 c.args.jobs.now c.at-job-in-Ask.result.now index c.requires.jobs.1 c.requires.inside c.at-job-in-Ask.ensures,
    )

pub returns-in-Ask-clause-rendered : goal.returns-in-Ask-clause-rendered
returns-in-Ask-clause-rendered g c controls are =
    let index = c.args.task.now.index in
    c.render_ticks.ensures.rendered controls (job_of c.args.self.now controls c.args.jobs.now c.at-job-in-Ask.result.now index are c.requires.inside c.at-job-in-Ask.ensures)
