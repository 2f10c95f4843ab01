use Rattle.std.proofs.Common.{◌∙◌, sym, ap}
use Rattle.std.specs.Option.{option_map}
use Rattle.uac_graph.specs.Wiring.{Frames, frame_on}
use Rattle.uac_graph.proofs.FrameRowsLemmas.{frame_seen, stands_at}
use Rattle.uac_graph.proofs.frame_table.FrameTable.get.Goals as goal

pub returns-in-Some : goal.returns-in-Some
returns-in-Some c =
    sym (
    ap (λ (w : Frames). frame_on w c.args.id) (sym c.self.view_is)
    ∙ frame_seen (λ f. f.items) c.self.inside.row.items c.args.id
    ∙ ap (option_map (λ f. f.items)) (stands_at c.self.inside.row.items c.args.id c.index.result.now 256 c.self.invariant c.ranges.id.fits c.index.ensures ∙ c.in-Some.is))

pub returns-in-None : goal.returns-in-None
returns-in-None c =
    sym (
    ap (λ (w : Frames). frame_on w c.args.id) (sym c.self.view_is)
    ∙ frame_seen (λ f. f.items) c.self.inside.row.items c.args.id
    ∙ ap (option_map (λ f. f.items)) (stands_at c.self.inside.row.items c.args.id c.index.result.now 256 c.self.invariant c.ranges.id.fits c.index.ensures ∙ c.in-None.is))
