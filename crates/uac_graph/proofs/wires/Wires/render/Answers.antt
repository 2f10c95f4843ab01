use Rattle.std.proofs.Common.{◌≡◌, ◌∙◌, ap, sym, subst, ◌≤◌, ℕ, ℤ, List, length, map, eqb, if◌then◌else◌, Some}
use Rattle.std.specs.Option.{option_map}
use Rattle.std.proofs.lemmas.List.{length-map}
use Rattle.uac_units.specs.Rendering.{in_a_row}
use Rattle.uac_graph.specs.Wiring.{Frames, frame_on, samples_on}
use Rattle.uac_graph.proofs.JobsMeaningLemmas.{fits_unit, passed_on, rendered_unit, row_small, wire_by}
use Rattle.uac_graph.proofs.MeaningReachLemmas.{length-frame_of}
use Rattle.uac_graph.proofs.wires.Wires.render.Goals as goal

pub gather-requires : goal.gather-requires
gather-requires g c =
    let e = c.args.entity.now in
    let own = c.self.view_is in
    subst (λ (w : Frames). length (in_a_row (map (samples_on w) c.as_slice.result.now)) ≤ 256) (sym own)
    (subst (λ (s : List ℕ). length (in_a_row (map (samples_on c.args.self.now) s)) ≤ 256) (sym c.as_slice.ensures)
    (row_small e.kind e.cluster.channels (map (samples_on c.args.self.now) e.sources) c.requires.fits))

pub render-requires-clause-fits : goal.render-requires-clause-fits
render-requires-clause-fits g c =
    let e = c.args.entity.now in
    let frames = map (samples_on c.args.self.now) e.sources in
    let row : c.gather.new.pins.items ≡ in_a_row frames =
    c.gather.ensures ∙ ap (λ s. in_a_row (map (samples_on c.self.inside.frames) s)) c.as_slice.ensures ∙ ap (λ (w : Frames). in_a_row (map (samples_on w) e.sources)) c.self.view_is in
    fits_unit c.requires.job.0 e _ frames c.gather.new.pins.items c.args.job.now c.in-Some.ensures.kind (length-map e.sources (samples_on c.args.self.now)) row
    c.requires.job.1 c.requires.fits

pub render-requires-clause-there : goal.render-requires-clause-there
render-requires-clause-there g c =
    let e = c.args.entity.now in
    ap (λ (w : Frames). option_map length (frame_on w e.id)) c.self.view_is ∙ c.requires.there
    ∙ ap Some (sym (c.requires.job.1 _ (sym c.in-Some.ensures.kind)).outputs)

pub pass_on-requires-clause-few : goal.pass_on-requires-clause-few
pass_on-requires-clause-few g c =
    let e = c.args.entity.now in
    let frames = map (samples_on c.args.self.now) e.sources in
    let row : c.gather.new.pins.items ≡ in_a_row frames =
    c.gather.ensures ∙ ap (λ s. in_a_row (map (samples_on c.self.inside.frames) s)) c.as_slice.ensures ∙ ap (λ (w : Frames). in_a_row (map (samples_on w) e.sources)) c.self.view_is in
    subst (λ (pins : List ℤ). length pins ≤ 32) (sym row)
    (passed_on c.requires.job.0 e.id e.kind e.cluster.channels frames (sym c.in-None.ensures.kind) c.requires.fits).1

pub pass_on-requires-clause-there : goal.pass_on-requires-clause-there
pass_on-requires-clause-there g c =
    let e = c.args.entity.now in
    let controls = c.requires.job.0 in
    let frames = map (samples_on c.args.self.now) e.sources in
    let row : c.gather.new.pins.items ≡ in_a_row frames =
    c.gather.ensures ∙ ap (λ s. in_a_row (map (samples_on c.self.inside.frames) s)) c.as_slice.ensures ∙ ap (λ (w : Frames). in_a_row (map (samples_on w) e.sources)) c.self.view_is in
    ap (λ (w : Frames). option_map length (frame_on w e.id)) c.self.view_is ∙ c.requires.there
    ∙ ap Some (sym (
    ap length (row ∙ (passed_on controls e.id e.kind e.cluster.channels frames (sym c.in-None.ensures.kind) c.requires.fits).0)
    ∙ length-frame_of controls e.id e.kind e.cluster.channels frames))

pub returns-in-Some-clause-frames : goal.returns-in-Some-clause-frames
returns-in-Some-clause-frames g c controls has id =
    let e = c.args.entity.now in
    let frames = map (samples_on c.args.self.now) e.sources in
    let row : c.gather.new.pins.items ≡ in_a_row frames =
    c.gather.ensures ∙ ap (λ s. in_a_row (map (samples_on c.self.inside.frames) s)) c.as_slice.ensures ∙ ap (λ (w : Frames). in_a_row (map (samples_on w) e.sources)) c.self.view_is in
    wire_by c.self.inside.frames c.args.self.now e.id id _ _ _ c.self.view_is
    (rendered_unit controls e _ frames c.gather.new.pins.items c.args.job.now c.in-Some.ensures.kind (length-map e.sources (samples_on c.args.self.now)) row has
    c.requires.fits)
    (c.render.ensures.frames id)

pub returns-in-None-clause-frames : goal.returns-in-None-clause-frames
returns-in-None-clause-frames g c controls has id =
    let e = c.args.entity.now in
    let frames = map (samples_on c.args.self.now) e.sources in
    let row : c.gather.new.pins.items ≡ in_a_row frames =
    c.gather.ensures ∙ ap (λ s. in_a_row (map (samples_on c.self.inside.frames) s)) c.as_slice.ensures ∙ ap (λ (w : Frames). in_a_row (map (samples_on w) e.sources)) c.self.view_is in
    c.pass_on.ensures id
    ∙ ap (λ (w : Frames). if eqb e.id id then Some c.gather.new.pins.items else frame_on w id) c.self.view_is
    ∙ ap (λ (samples : List ℤ). if eqb e.id id then Some samples else frame_on c.args.self.now id)
    (row ∙ (passed_on controls e.id e.kind e.cluster.channels frames (sym c.in-None.ensures.kind) c.requires.fits).0)
