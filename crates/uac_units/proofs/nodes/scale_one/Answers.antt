use Rattle.std.proofs.Common.{◌∙◌, ap, map, subst, sym, FitsSigned, to_z, w32, w64, arith, ◌≤◌, ◌<◌}
use Rattle.std.specs.Simd.Lanes.{Each1}
use Rattle.std.proofs.lemmas.Int.{to_z-of_z}
use Rattle.std.proofs.lemmas.Simd.{Each1-weaker}
use Rattle.uac_gain.specs.Gain.{scaled_sample}
use Rattle.uac_units.specs.SampleLanes.{IsGain, together}
use Rattle.uac_units.proofs.SampleLanesLemmas.{handed-samples}
use Rattle.uac_units.proofs.SampleLanesNodeLemmas.{are-gains, each-below, wide-is, wide-asked, scaled_sample-fits, wide-products}
use Rattle.uac_units.proofs.nodes.scale_one.Goals as goal
use Rattle.uac_units.proofs.nodes.scale_one.Goals.{then-bits-eq-UNITY, else-bits-eq-UNITY, then-bits-lt-UNITY, else-bits-lt-UNITY}

pub scale_down-requires : goal.scale_down-requires
scale_down-requires c =
    let below : together c.args.gains ≤ 1073741823 = omega (arith, c.requires, c.if-bits-lt-UNITY.true) in
    Each1-weaker (λ gain. gain ≤ 1073741823) (λ gain. gain < 1073741824) (λ gain h. omega (arith, h)) c.args.gains (each-below 1073741823 c.args.gains below)

pub overflow_cast-gains : goal.overflow_cast-gains
overflow_cast-gains c = wide-asked c.args.gains c.fits-gains.1

pub scale_eight-requires-clause-gains : goal.scale_eight-requires-clause-gains
scale_eight-requires-clause-gains c = subst (Each1 IsGain) (sym (wide-is c.args.gains c.fits-gains.1)) (are-gains c.args.gains c.fits-gains.1)

pub returns-clause-lanes : goal.returns-clause-lanes
returns-clause-lanes c =
    let sample = ap (λ s. map (scaled_sample s) c.args.gains) (to_z-of_z w32 c.args.sample c.ranges.sample) in
    elim c.if-bits-eq-UNITY.branch [
      | then-bits-eq-UNITY w ↦
          ap (map (to_z w64)) w.result-is ∙ handed-samples w.keep_or_silence.result w.keep_or_silence.ensures.fits ∙ w.keep_or_silence.ensures.lanes ∙ sample
      | else-bits-eq-UNITY w ↦ ap (map (to_z w64)) w.result-is ∙ elim w.if-bits-lt-UNITY.branch [
        | then-bits-lt-UNITY v ↦
            ap (map (to_z w64)) v.result-is ∙ handed-samples v.scale_down.result v.scale_down.ensures.fits ∙ v.scale_down.ensures.lanes ∙ sample
        | else-bits-lt-UNITY v ↦
            ap (map (to_z w64)) v.result-is ∙ handed-samples v.scale_eight.result v.scale_eight.ensures.fits ∙ v.scale_eight.ensures.lanes
            ∙ wide-products c.args.sample c.args.gains c.ranges.sample c.fits-gains.0 c.fits-gains.1
      ]
    ]

pub returns-clause-fits : goal.returns-clause-fits
returns-clause-fits c = subst (Each1 (FitsSigned w32)) (sym (returns-clause-lanes c)) (scaled_sample-fits c.args.sample c.args.gains)
