use Rattle.std.proofs.Common.{◌≡◌, ◌∙◌, ap, sym, arith, ℤ, List, [], ◌∷◌, Option, Some, None, get_or, length, set, unwrap_or, pos, w32, to_z, of_z}
use Rattle.std.proofs.lemmas.Int.{to_z-of_z}
use Rattle.std.specs.Option.{option_map}
use Rattle.std.proofs.lemmas.List.{get_or_default}
use Rattle.arrayvec.specs.declared.array_vec.ArrayVec.{ArrayVec}
use Rattle.uac_graph.proofs.FrameRowsSampleLemmas.{two_samples, read_and_written}
use Rattle.uac_graph.proofs.frame_table.pass_in.Goals as goal

pub returns-then-channels-eq2 : goal.returns-then-channels-eq2
returns-then-channels-eq2 c =
    let row = c.args.row.now in
    let from = c.args.from in
    let samples : Option (ArrayVec ℤ 32 (Unit {0})) → List ℤ = λ o. unwrap_or (option_map (λ f. f.items) o) [] in
    let read : (d : Option (ArrayVec ℤ 32 (Unit {0}))) → samples (get_or row from None) ≡ samples (get_or row from d) =
    λ d. ap samples (get_or_default row from None d c.requires.from) in
    let left = c.sample_of-left in
    let right = c.sample_of-right in
    ap (set row c.args.to)
    (read_and_written (get_or row from None) (get_or row c.args.to None) c.write_two.new.slot (left.result ∷ right.result ∷ []) _
    (two_samples (samples (get_or row from None)) left.result right.result
    (ap length (read c.index-row-from.result) ∙ sym c.channels_at-channels.ensures ∙ c.if-channels-eq2.true)
    (left.ensures ∙ ap (λ l. get_or l 0 (pos 0)) (sym (read c.index-row-from-then-channels-eq2.result)))
    (right.ensures ∙ ap (λ l. get_or l 1 (pos 0)) (sym (read c.index-row-from-then-channels-eq2-2.result))))
    (omega arith) c.requires.alike
    (c.write_two.ensures
    ∙ ap (λ (z : ℤ). Some (z ∷ to_z w32 (of_z w32 right.result) ∷ [])) (to_z-of_z w32 left.result (record { sfits = left.type_inv }))
    ∙ ap (λ (z : ℤ). Some (left.result ∷ z ∷ [])) (to_z-of_z w32 right.result (record { sfits = right.type_inv }))))
