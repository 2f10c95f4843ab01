use Rattle.std.proofs.Common.{◌≡◌, ◌∙◌, ◌+◌, ◌++◌, ◌∷◌, [], ap, arith, sym, length, rules, take, ℤ, List, w32}
use Rattle.std.proofs.lemmas.Int.{to_z-of_z}
use Rattle.std.proofs.lemmas.List.{length-take-le, take_all}
use Rattle.uac_units.specs.SampleRows.{frame_at, sample_at}
use Rattle.uac_units.proofs.SampleRowsLemmas.{frame_at_more, has_ticks, length-frame_at}
use Rattle.uac_units.proofs.row_frames.read_frame.Goals as goal

pub push-requires : goal.push-requires
push-requires g c =
    let full : length c.loop-row.frame.items ≡ c.loop-row.row-index =
    ap length c.loop-row.invariant ∙ length-frame_at c.args.tick (take c.loop-row.row-index c.args.rows.now)
    ∙ length-take-le c.loop-row.row-index c.args.rows.now (omega arith) in
    search (rules, full)

pub sample-requires : goal.sample-requires
sample-requires g c =
    let there = has_ticks (c.args.tick + 1) c.args.rows.now c.loop-row.row-index c.row-item.result c.requires.inside (omega arith) c.row-item.is in
    omega (arith, there)

pub loop-row-preserved : goal.loop-row-preserved
loop-row-preserved g c =
    c.push.ensures.items
    ∙ ap (λ (z : ℤ). c.loop-row.frame.items ++ z ∷ []) (to_z-of_z w32 c.sample.result (record { sfits = c.sample.type_inv }) ∙ c.sample.ensures)
    ∙ ap (λ (front : List ℤ). front ++ sample_at c.args.tick c.row-item.result ∷ []) c.loop-row.invariant
    ∙ sym (frame_at_more c.args.tick c.args.rows.now c.loop-row.row-index c.row-item.result (omega arith) c.row-item.is)

pub returns : goal.returns
returns g c = c.loop-row.invariant ∙ ap (frame_at c.args.tick) (take_all c.loop-row.row-index c.args.rows.now (omega arith))
