use Rattle.std.proofs.Common.{◌≡◌, ◌∙◌, ap, arith, sym, subst, length, map, ◌*◌, ◌+◌, ◌++◌, FitsSigned, to_z, of_z, w32}
use Rattle.std.specs.Simd.Lanes.{Each1}
use Rattle.std.proofs.lemmas.List.FromFn.{length-map-range_with_len}
use Rattle.uac_pcm.proofs.FramesLemmas.{where_ok}
use Rattle.uac_units.specs.SampleLanes.{eight}
use Rattle.uac_units.specs.Rendering.{pins_sample}
use Rattle.uac_units.proofs.SampleLanesLemmas.{eight_more, handed-narrow, handed-samples}
use Rattle.uac_units.proofs.lanes.render_eights.Goals as goal

pub loop-block-preserved : goal.loop-block-preserved
loop-block-preserved g c =
    let sample = pins_sample g.U.OnLanes.lane_kind c.args.job.now c.args.pins.now.items in
    let at = 8 * c.loop-block.block in
    let full : length c.loop-block.out.items ≡ at = ap length c.loop-block.invariant ∙ length-map-range_with_len sample 0 at in
    let same : c.narrow_eight.result ≡ c.eight.result = c.narrow_eight.ensures ∙ handed-samples c.eight.result c.eight.ensures.narrow in
    let fits : Each1 (FitsSigned w32) c.narrow_eight.result = subst (Each1 (FitsSigned w32)) (sym same) c.eight.ensures.narrow in
    let more : map (to_z w32) (map (of_z w32) c.narrow_eight.result) ≡ eight (λ lane. sample (at + lane)) =
    handed-narrow c.narrow_eight.result fits ∙ same ∙ c.eight.ensures.lanes in
    let long : length (map (to_z w32) (map (of_z w32) c.narrow_eight.result)) ≡ 8 = ap length more in
    where_ok c.try_extend_from_slice.result (c.try_extend_from_slice.ensures.variant.1 (omega (arith, full, long))) c.try_extend_from_slice.ensures.ok
    ∙ ap (λ xs. c.loop-block.out.items ++ xs) more
    ∙ ap (λ front. front ++ eight (λ lane. sample (at + lane))) c.loop-block.invariant
    ∙ sym (eight_more sample at (8 * (c.loop-block.block + 1)) (omega arith))
