use Rattle.std.proofs.Common.{◌∙◌, ap, eqb, Some, if◌then◌else◌, arith, length, ℤ, List, refl}
use Rattle.std.specs.Option.{option_map}
use Rattle.uac_graph.specs.Wiring.{Frames, frame_on}
use Rattle.uac_graph.specs.contracts.frame_table.FrameTable.{the_view}
use Rattle.uac_graph.proofs.WiringLemmas.{set_fits}
use Rattle.uac_graph.proofs.FrameRowsLemmas.{frame_written, none_there, stands_at}
use Rattle.uac_graph.proofs.frame_table.FrameTable.set.Goals as goal
use Rattle.uac_graph.proofs.frame_table.FrameTable.set.Goals.{in-Some, in_default}

pub returns-clause-wires : goal.returns-clause-wires
returns-clause-wires c k =
    let id = c.args.id in
    elim c.match-index_mut.branch [
      | in-Some w ↦
          ap (λ i. frame_on (the_view i) k) w.self-inside-is
          ∙ frame_written (λ f. f.items) c.self.inside.row.items _ id w.refill.new.list (omega (arith, c.self.invariant, c.ranges.id.fits)) refl k
          ∙ ap (λ (samples : List ℤ). if eqb id k then Some samples else frame_on (the_view c.self.inside) k) (w.refill.ensures ∙ w.as_slice.ensures.value)
          ∙ ap (λ (frames : Frames). if eqb id k then Some (c.args.frame.now.items) else frame_on frames k) c.self.view_is
      | in_default w ↦
          absurd (
          none_there (λ f. f.items) c.self.inside.row.items id (length c.args.frame.now.items)
          (stands_at c.self.inside.row.items id c.index_mut.result.now 256 c.self.invariant c.ranges.id.fits c.index_mut.ensures.value ∙ w.in_default.is)
          (ap (λ (frames : Frames). option_map length (frame_on frames id)) c.self.view_is ∙ c.requires))
    ]

pub returns-clause-fitting : goal.returns-clause-fitting
returns-clause-fitting c entities fitting =
    set_fits entities c.args.self.now (the_view c.match-index_mut.self-inside) c.args.id c.args.frame.now.items c.requires (returns-clause-wires c) fitting
