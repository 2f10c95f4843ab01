use Rattle.std.proofs.Common.{◌≡◌, ◌∙◌, sym, ap, eqb, Some, if◌then◌else◌, arith, length, ℤ, List, refl, Option}
use Rattle.std.specs.Option.{option_map}
use Rattle.std.proofs.lemmas.List.FromFn.{length-map-range_with_len}
use Rattle.uac_pcm.specs.Tones.{tone_sample, tone_frame}
use Rattle.arrayvec.specs.ArrayVec.{ArrayVec}
use Rattle.uac_graph.specs.Wiring.{Frames, frame_on}
use Rattle.uac_graph.specs.contracts.frame_table.FrameTable.{the_view}
use Rattle.uac_graph.proofs.WiringLemmas.{remade_fits}
use Rattle.uac_graph.proofs.FrameRowsLemmas.{frame_seen, frame_written, slot_written, stands_at}
use Rattle.uac_graph.proofs.frame_table.FrameTable.give_tone.Goals as goal
use Rattle.uac_graph.proofs.frame_table.FrameTable.give_tone.Goals.{in-Some, in_default}

pub returns-clause-wires : goal.returns-clause-wires
returns-clause-wires c k =
    let id = c.args.id in
    let tone_on : List ℤ → List ℤ = λ samples. tone_frame (length samples) c.args.tone c.args.place in
    let row = c.self.inside.row.items in
    let own : frame_on c.args.self.now id ≡ option_map (λ f. f.items) c.index_mut.result.now =
    ap (λ (frames : Frames). frame_on frames id) (sym c.self.view_is) ∙ frame_seen (λ f. f.items) row id
    ∙ ap (option_map (λ f. f.items)) (stands_at row id c.index_mut.result.now 256 c.self.invariant c.ranges.id.fits c.index_mut.ensures.value) in
    elim c.match-index_mut.branch [
      | in-Some w ↦
          ap (λ i. frame_on (the_view i) k) w.self-inside-is
          ∙ frame_written (λ f. f.items) row _ id w.write_tone.new.frame (omega (arith, c.self.invariant, c.ranges.id.fits)) refl k
          ∙ ap (λ (samples : List ℤ). if eqb id k then Some samples else frame_on (the_view c.self.inside) k) w.write_tone.ensures
          ∙ ap (λ (wire : Option (List ℤ)). if eqb id k then option_map tone_on wire else frame_on (the_view c.self.inside) k)
          (sym (own ∙ ap (option_map (λ f. f.items)) w.in-Some.is))
          ∙ ap (λ (frames : Frames). if eqb id k then option_map tone_on (frame_on c.args.self.now id) else frame_on frames k) c.self.view_is
      | in_default w ↦
          ap (λ i. frame_on (the_view i) k) w.self-inside-is
          ∙ slot_written (λ f. f.items) row _ id c.index_mut.result.now (omega (arith, c.self.invariant, c.ranges.id.fits)) refl k
          ∙ ap (λ (slot : Option (ArrayVec ℤ)). if eqb id k then option_map (λ f. f.items) slot else frame_on (the_view c.self.inside) k) w.in_default.is
          ∙ ap (λ (wire : Option (List ℤ)). if eqb id k then option_map tone_on wire else frame_on (the_view c.self.inside) k)
          (sym (own ∙ ap (option_map (λ f. f.items)) w.in_default.is))
          ∙ ap (λ (frames : Frames). if eqb id k then option_map tone_on (frame_on c.args.self.now id) else frame_on frames k) c.self.view_is
    ]

pub returns-clause-fitting : goal.returns-clause-fitting
returns-clause-fitting c entities fitting =
    let tone_on : List ℤ → List ℤ = λ samples. tone_frame (length samples) c.args.tone c.args.place in
    remade_fits entities c.args.self.now (the_view c.match-index_mut.self-inside) c.args.id tone_on
    (λ samples. length-map-range_with_len (tone_sample c.args.tone c.args.place) 0 (length samples)) (returns-clause-wires c) fitting
