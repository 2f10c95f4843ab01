use Rattle.std.proofs.Common.{◌∙◌, ap, eqb, Some, if◌then◌else◌, arith, length, ℤ, List, refl}
use Rattle.std.specs.Option.{option_map}
use Rattle.uac_graph.specs.Wiring.{Frames, frame_on}
use Rattle.uac_graph.proofs.FrameRowsLemmas.{frame_written, none_there, stands_at}
use Rattle.uac_graph.proofs.frame_table.FrameTable.render.Goals as goal

pub unreachable-requires : goal.unreachable-requires
unreachable-requires g c =
    let id = c.args.id in
    none_there (λ f. f.items) c.self.inside.row.items id c.args.job.now.outputs
    (stands_at c.self.inside.row.items id c.index_mut.result.now 256 c.self.invariant c.ranges.id.fits c.index_mut.ensures.value ∙ c.in-None.is)
    (ap (λ (frames : Frames). option_map length (frame_on frames id)) c.self.view_is ∙ c.requires.there)

pub returns-clause-frames : goal.returns-clause-frames
returns-clause-frames g c k =
    let id = c.args.id in
    frame_written (λ f. f.items) c.self.inside.row.items _ id c.render.new.out (omega (arith, c.self.invariant, c.ranges.id.fits)) refl k
    ∙ ap (λ (frames : Frames). if eqb id k then Some c.render.new.out.items else frame_on frames k) c.self.view_is
    ∙ ap (λ (samples : List ℤ). if eqb id k then Some samples else frame_on c.args.self.now k) c.render.ensures.0
