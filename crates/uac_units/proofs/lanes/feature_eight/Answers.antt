use Rattle.std.proofs.Common.{◌≡◌, ◌∙◌, ap, arith, ◌+◌, ◌*◌, slice_index}
use Rattle.uac_gain.specs.Gain.{scaled_sample}
use Rattle.uac_units.specs.SampleLanes.{eight}
use Rattle.uac_units.specs.Rendering.{input}
use Rattle.uac_units.proofs.SampleLanesLemmas.{eight-same, handed-samples, scaled_sample-eight}
use Rattle.uac_units.proofs.lanes.feature_eight.Goals as goal

pub returns-clause-lanes : goal.returns-clause-lanes
returns-clause-lanes c =
    let gains = c.args.job.now.gains.items in
    let pins = c.args.pins.now.items in
    let from = c.args.from in
    let own : c.scale_eight-own.result ≡ eight (λ lane. scaled_sample (input pins (from + lane)) (slice_index gains (2 * from + lane * 2))) =
    c.scale_eight-own.ensures.lanes
    ∙ scaled_sample-eight c.eight_inputs.result c.eight_gains.result (λ lane. input pins (from + lane)) (λ lane. slice_index gains (2 * from + lane * 2))
    c.eight_inputs.ensures.lanes c.eight_gains.ensures.lanes c.eight_inputs.ensures.fits c.eight_gains.ensures.gains in
    handed-samples c.scale_eight.result c.scale_eight.ensures.fits
    ∙ c.scale_eight.ensures.lanes
    ∙ scaled_sample-eight c.scale_eight-own.result c.eight_gains-2.result (λ lane. scaled_sample (input pins (from + lane)) (slice_index gains (2 * from + lane * 2))) (λ lane. slice_index gains (2 * from + 1 + lane * 2))
    own c.eight_gains-2.ensures.lanes c.scale_eight-own.ensures.fits c.eight_gains-2.ensures.gains
    ∙ eight-same
    (λ lane. scaled_sample (scaled_sample (input pins (from + lane)) (slice_index gains (2 * from + lane * 2))) (slice_index gains (2 * from + 1 + lane * 2)))
    (λ lane. scaled_sample (scaled_sample (input pins (from + lane)) (slice_index gains (2 * (from + lane)))) (slice_index gains (2 * (from + lane) + 1)))
    (λ lane. ap (λ i. scaled_sample (scaled_sample (input pins (from + lane)) (slice_index gains i)) (slice_index gains (2 * from + 1 + lane * 2))) (omega arith)
    ∙ ap (λ i. scaled_sample (scaled_sample (input pins (from + lane)) (slice_index gains (2 * (from + lane)))) (slice_index gains i)) (omega arith))
