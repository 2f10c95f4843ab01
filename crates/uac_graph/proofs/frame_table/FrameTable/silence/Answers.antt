use Rattle.std.proofs.Common.{◌≡◌, ◌∙◌, sym, ap, eqb, Some, if◌then◌else◌, arith, length, ℤ, List, refl, Option}
use Rattle.std.specs.Option.{option_map}
use Rattle.arrayvec.specs.ArrayVec.{ArrayVec}
use Rattle.uac_graph.specs.Wiring.{Frames, frame_on, silence}
use Rattle.uac_graph.specs.contracts.frame_table.FrameTable.{the_view}
use Rattle.uac_graph.proofs.WiringLemmas.{hushed_fits}
use Rattle.uac_graph.proofs.FrameRowsLemmas.{frame_seen, frame_written, slot_written, stands_at}
use Rattle.uac_graph.proofs.frame_table.FrameTable.silence.Goals as goal
use Rattle.uac_graph.proofs.frame_table.FrameTable.silence.Goals.{in-Some, in_default}

pub returns-clause-wires : goal.returns-clause-wires
returns-clause-wires c k =
    let id = c.args.id in
    let hushed : List ℤ → List ℤ = λ samples. silence (length samples) in
    let row = c.self.inside.row.items in
    let own : frame_on c.args.self.now id ≡ option_map (λ f. f.items) c.index_mut.result.now =
    ap (λ (frames : Frames). frame_on frames id) (sym c.self.view_is) ∙ frame_seen (λ f. f.items) row id
    ∙ ap (option_map (λ f. f.items)) (stands_at row id c.index_mut.result.now 256 c.self.invariant c.ranges.id.fits c.index_mut.ensures.value) in
    elim c.match-index_mut.branch [
      | in-Some w ↦
          ap (λ i. frame_on (the_view i) k) w.self-inside-is
          ∙ frame_written (λ f. f.items) row _ id w.hush.new.list (omega (arith, c.self.invariant, c.ranges.id.fits)) refl k
          ∙ ap (λ (samples : List ℤ). if eqb id k then Some samples else frame_on (the_view c.self.inside) k) w.hush.ensures
          ∙ ap (λ (wire : Option (List ℤ)). if eqb id k then option_map hushed wire else frame_on (the_view c.self.inside) k)
          (sym (own ∙ ap (option_map (λ f. f.items)) w.in-Some.is))
          ∙ ap (λ (frames : Frames). if eqb id k then option_map hushed (frame_on c.args.self.now id) else frame_on frames k) c.self.view_is
      | in_default w ↦
          ap (λ i. frame_on (the_view i) k) w.self-inside-is
          ∙ slot_written (λ f. f.items) row _ id c.index_mut.result.now (omega (arith, c.self.invariant, c.ranges.id.fits)) refl k
          ∙ ap (λ (slot : Option (ArrayVec ℤ)). if eqb id k then option_map (λ f. f.items) slot else frame_on (the_view c.self.inside) k) w.in_default.is
          ∙ ap (λ (wire : Option (List ℤ)). if eqb id k then option_map hushed wire else frame_on (the_view c.self.inside) k)
          (sym (own ∙ ap (option_map (λ f. f.items)) w.in_default.is))
          ∙ ap (λ (frames : Frames). if eqb id k then option_map hushed (frame_on c.args.self.now id) else frame_on frames k) c.self.view_is
    ]

pub returns-clause-fitting : goal.returns-clause-fitting
returns-clause-fitting c entities fitting =
    hushed_fits entities c.args.self.now (the_view c.match-index_mut.self-inside) c.args.id (returns-clause-wires c) fitting
