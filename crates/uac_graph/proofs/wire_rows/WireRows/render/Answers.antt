use Rattle.std.proofs.Common.{◌∙◌, ◌≤◌, ◌*◌, ap, sym, subst, arith, ℕ, List, length, map, Some}
use Rattle.std.proofs.lemmas.List.{length-map}
use Rattle.uac_units.specs.Rendering.{in_a_row}
use Rattle.uac_graph.specs.TickRows.{frames_at}
use Rattle.uac_graph.specs.Wiring.{samples_on}
use Rattle.uac_graph.proofs.JobsMeaningLemmas.{fits_unit, passed_on, row_small}
use Rattle.uac_graph.proofs.MeaningReachLemmas.{length-frame_of}
use Rattle.uac_graph.proofs.TickJobsLemmas.{made_by, passed_by}
use Rattle.uac_graph.proofs.TasksLemmas.{other_uncounted, unit_counted}
use Rattle.uac_graph.proofs.wire_rows.WireRows.render.Goals as goal

pub render_several-requires-clause-few : goal.render_several-requires-clause-few
render_several-requires-clause-few g c =
    let e = c.args.entity.now in
    let first = frames_at 0 c.args.self.now in
    subst (λ (s : List ℕ). length (in_a_row (map (samples_on first) s)) ≤ 256) (sym c.as_slice-sources.ensures)
    (row_small e.kind e.cluster.channels (map (samples_on first) e.sources) c.requires.fits)

pub pass_several-requires-clause-few : goal.pass_several-requires-clause-few
pass_several-requires-clause-few g c =
    let e = c.args.entity.now in
    let first = frames_at 0 c.args.self.now in
    subst (λ (s : List ℕ). length (in_a_row (map (samples_on first) s)) ≤ 256) (sym c.as_slice-sources.ensures)
    (row_small e.kind e.cluster.channels (map (samples_on first) e.sources) c.requires.fits)

pub render_several-requires-clause-fits : goal.render_several-requires-clause-fits
render_several-requires-clause-fits g c =
    let e = c.args.entity.now in
    let first = frames_at 0 c.args.self.now in
    let frames = map (samples_on first) e.sources in
    fits_unit c.requires.job.0 e _ frames (in_a_row (map (samples_on first) c.as_slice-sources.result.now)) c.args.job.now c.in-Some.ensures.kind (length-map e.sources (samples_on first))
    (ap (λ (s : List ℕ). in_a_row (map (samples_on first) s)) c.as_slice-sources.ensures) c.requires.job.1 c.requires.fits

pub render_several-requires-clause-there : goal.render_several-requires-clause-there
render_several-requires-clause-there g c =
    c.requires.there ∙ ap Some (sym (c.requires.job.1 _ (sym c.in-Some.ensures.kind)).outputs)

pub render_several-requires-clause-room : goal.render_several-requires-clause-room
render_several-requires-clause-room g c =
    omega (arith, c.requires.room, ap (λ (n : ℕ). c.args.ticks * n) (unit_counted c.args.entity.now.kind _ (sym c.in-Some.ensures.kind)))

pub pass_several-requires-clause-there : goal.pass_several-requires-clause-there
pass_several-requires-clause-there g c =
    let e = c.args.entity.now in
    let first = frames_at 0 c.args.self.now in
    let frames = map (samples_on first) e.sources in
    c.requires.there
    ∙ ap Some (sym (
    ap (λ (s : List ℕ). length (in_a_row (map (samples_on first) s))) c.as_slice-sources.ensures
    ∙ ap length (passed_on c.requires.job.0 e.id e.kind e.cluster.channels frames (sym c.in-None.ensures.kind) c.requires.fits).0
    ∙ length-frame_of c.requires.job.0 e.id e.kind e.cluster.channels frames))

pub returns-in-Some-clause-frames : goal.returns-in-Some-clause-frames
returns-in-Some-clause-frames g c controls has tick early id =
    let e = c.args.entity.now in
    made_by controls e _ c.args.job.now c.args.self.now.slots c.as_slice-sources.result.now tick id _ c.in-Some.ensures.kind c.as_slice-sources.ensures has c.requires.fits
    (c.render_several.ensures.frames tick early id)

pub returns-in-None-clause-frames : goal.returns-in-None-clause-frames
returns-in-None-clause-frames g c controls has tick early id =
    let e = c.args.entity.now in
    passed_by controls e c.args.self.now.slots c.as_slice-sources.result.now tick id _ (sym c.in-None.ensures.kind) c.as_slice-sources.ensures c.requires.fits
    (c.pass_several.ensures.frames tick early id)

pub returns-in-Some-clause-counted : goal.returns-in-Some-clause-counted
returns-in-Some-clause-counted g c =
    omega (arith, c.render_several.ensures.counted, ap (λ (n : ℕ). c.args.ticks * n) (unit_counted c.args.entity.now.kind _ (sym c.in-Some.ensures.kind)))

pub returns-in-None-clause-counted : goal.returns-in-None-clause-counted
returns-in-None-clause-counted g c =
    let none = other_uncounted c.args.entity.now.kind 0 (sym c.in-None.ensures.kind) in
    omega (arith, ap (λ (n : ℕ). c.args.ticks * n) none)
