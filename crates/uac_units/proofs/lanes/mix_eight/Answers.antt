use Rattle.std.proofs.Common.{◌≡◌, ◌∙◌, ap, arith, sym, subst, map, length, ◌+◌, ◌≤◌, ◌+ℤ◌, pos, rules, slice_index_or, FitsSigned, to_z, w32, w64}
use Rattle.std.specs.Simd.Lanes.{Each1, zip2}
use Rattle.std.proofs.lemmas.Int.{to_z-of_z}
use Rattle.uac_gain.specs.Gain.{scaled_sample, nearest_in_32_bits}
use Rattle.uac_units.specs.SampleLanes.{SumFits, eight}
use Rattle.uac_units.specs.Rendering.{input}
use Rattle.uac_units.proofs.SampleLanesLemmas.{handed, handed-samples, room-lanes}
use Rattle.uac_units.proofs.RenderingMixLemmas.{mixed_front, mixed-room, nodes-more}
use Rattle.uac_units.proofs.lanes.mix_eight.Goals as goal

pub add_scaled-sums-requires-clause-room : goal.add_scaled-sums-requires-clause-room
add_scaled-sums-requires-clause-room c =
    let few : c.loop-at.at ≤ 256 = omega (arith, c.len-at-end.ensures) in
    subst (Each1 SumFits) (sym c.loop-at.invariant) (mixed-room c.args.job.now c.args.pins.now.items c.args.from c.loop-at.at few)

pub loop-at-preserved : goal.loop-at-preserved
loop-at-preserved c =
    let job = c.args.job.now in
    let gains = c.args.job.now.gains.items in
    let pins = c.args.pins.now.items in
    let from = c.args.from in
    let at = c.loop-at.at in
    handed c.add_scaled-sums.result c.add_scaled-sums.ensures.fits
    ∙ c.add_scaled-sums.ensures.lanes
    ∙ ap (λ s. zip2 (λ sum gain. sum +ℤ scaled_sample s gain) (map (to_z w64) c.loop-at.sums) c.eight_nodes.result)
    (to_z-of_z w32 (slice_index_or c.deref.result.now at (pos 0)) (search rules) ∙ ap (λ xs. input xs at) c.deref.ensures.0)
    ∙ nodes-more job pins from at (map (to_z w64) c.loop-at.sums) c.eight_nodes.result c.loop-at.invariant c.eight_nodes.ensures

pub saturate_eight-requires-clause-fits : goal.saturate_eight-requires-clause-fits
saturate_eight-requires-clause-fits c =
    let few : c.loop-at.at ≤ 256 = omega (arith, c.len-at-end.ensures) in
    let room = mixed-room c.args.job.now c.args.pins.now.items c.args.from c.loop-at.at few in
    subst (Each1 (FitsSigned w64)) (sym c.loop-at.invariant) (room-lanes (eight (λ lane. mixed_front c.args.job.now c.args.pins.now.items (c.args.from + lane) c.loop-at.at)) room)

pub returns-clause-lanes : goal.returns-clause-lanes
returns-clause-lanes c =
    let all : c.loop-at.at ≡ length c.args.pins.now.items = omega (arith, c.len-at-end.ensures) in
    handed-samples c.saturate_eight.result c.saturate_eight.ensures.fits
    ∙ c.saturate_eight.ensures.lanes
    ∙ ap (map nearest_in_32_bits) c.loop-at.invariant
    ∙ ap (λ n. eight (λ lane. nearest_in_32_bits (mixed_front c.args.job.now c.args.pins.now.items (c.args.from + lane) n))) all

pub returns-clause-narrow : goal.returns-clause-narrow
returns-clause-narrow c = subst (Each1 (FitsSigned w32)) (sym (handed-samples c.saturate_eight.result c.saturate_eight.ensures.fits)) c.saturate_eight.ensures.fits
