use Rattle.std.proofs.Common.{◌≡◌, ◌∙◌, ap, arith, sym, length, rules, ◌++◌, ◌∷◌, []}
use Rattle.std.proofs.lemmas.List.FromFn.{map-range_with_len_more, length-map-range_with_len}
use Rattle.uac_graph.specs.GraphControls.{controls_in}
use Rattle.uac_graph.specs.Jobs.{gain_at}
use Rattle.uac_graph.proofs.jobs.set_gains.Goals as goal

pub push-requires : goal.push-requires
push-requires c =
    let full : length c.loop-number.gains.items ≡ c.loop-number.number =
    ap length c.loop-number.invariant ∙ length-map-range_with_len (gain_at (controls_in c.args.store.now) c.args.id c.args.kind) 0 c.loop-number.number in
    search (rules, full)

pub loop-number-preserved : goal.loop-number-preserved
loop-number-preserved c =
    let gain = gain_at (controls_in c.args.store.now) c.args.id c.args.kind in
    c.push.ensures.items
    ∙ ap (λ z. c.loop-number.gains.items ++ z ∷ []) c.gain_at.ensures
    ∙ ap (λ front. front ++ gain c.loop-number.number ∷ []) c.loop-number.invariant
    ∙ sym (map-range_with_len_more gain 0 c.loop-number.number c.loop-number.number (omega arith))
