use Rattle.std.proofs.Common.{◌≡◌, ◌∙◌, ap, sym, subst, arith, eqb, if◌then◌else◌, ℤ, List, [], Option, Some, None, length, get_or, set, unwrap_or}
use Rattle.std.specs.Option.{option_map}
use Rattle.std.proofs.lemmas.List.{with_items_is}
use Rattle.arrayvec.specs.declared.array_vec.ArrayVec.{ArrayVec}
use Rattle.uac_graph.proofs.FrameRowsSampleLemmas.{lengths_of}
use Rattle.uac_graph.specs.FrameRows.{slot_after_passing}
use Rattle.uac_graph.specs.Wiring.{Frames, frame_on, samples_on}
use Rattle.uac_graph.proofs.FrameRowsLemmas.{frame_seen, passed_seen}
use Rattle.uac_graph.proofs.frame_table.FrameTable.pass.Goals as goal

pub returns : goal.returns
returns c k =
    let from = c.args.from in
    let to = c.args.to in
    passed_seen (λ f. f.items) c.self.inside.row.items _ from to (omega (arith, c.self.invariant, c.ranges.to.fits))
    (with_items_is c.self.inside.row c.pass_in.new.row (omega arith) ∙ c.pass_in.ensures ∙ ap (λ row. set row to (slot_after_passing (get_or row from None) (get_or row to None))) c.as_mut_slice.ensures.value)
    (subst (λ (w : Frames). option_map length (frame_on w to) ≡ Some (length (samples_on w from))) (sym c.self.view_is) c.requires) k
    ∙ ap (λ (w : Frames). if eqb to k then Some (samples_on w from) else frame_on w k) c.self.view_is

pub pass_in-requires-clause-alike : goal.pass_in-requires-clause-alike
pass_in-requires-clause-alike c =
    let row = c.self.inside.row.items in
    let held : option_map (λ (f : ArrayVec ℤ 32 (Unit {0})). f.items) (get_or row c.args.to None) ≡ frame_on c.args.self.now c.args.to =
    sym (frame_seen (λ f. f.items) row c.args.to) ∙ ap (λ (w : Frames). frame_on w c.args.to) c.self.view_is in
    let source : option_map (λ (f : ArrayVec ℤ 32 (Unit {0})). f.items) (get_or row c.args.from None) ≡ frame_on c.args.self.now c.args.from =
    sym (frame_seen (λ f. f.items) row c.args.from) ∙ ap (λ (w : Frames). frame_on w c.args.from) c.self.view_is in
    subst (λ (r : List (Option (ArrayVec ℤ 32 (Unit {0})))). option_map (λ f. length f.items) (get_or r c.args.to None)
    ≡ Some (length (unwrap_or (option_map (λ f. f.items) (get_or r c.args.from None)) [])))
    (sym c.as_mut_slice.ensures.value)
    (lengths_of (get_or row c.args.to None) ∙ ap (option_map length) held ∙ c.requires ∙ ap (λ (o : Option (List ℤ)). Some (length (unwrap_or o []))) (sym source))
