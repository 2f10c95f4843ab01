use Rattle.std.proofs.Common.{◌∙◌, ap, map, subst, sym, FitsSigned, w32, w64}
use Rattle.std.specs.Simd.Lanes.{Each1, zip2}
use Rattle.uac_gain.specs.Gain.{nearest_in_32_bits}
use Rattle.uac_units.specs.SampleLanes.{IsGain, floored_by}
use Rattle.uac_units.proofs.SampleLanesLemmas.{nearest_in_32_bits-zip2, handed, handed-samples, handed-gains}
use Rattle.uac_units.proofs.eights.scale_eight.Goals as goal

pub multiply_eight-requires-clause-samples : goal.multiply_eight-requires-clause-samples
multiply_eight-requires-clause-samples c = subst (Each1 (FitsSigned w32)) (sym (handed-samples c.args.samples c.requires.samples)) c.requires.samples

pub multiply_eight-requires-clause-gains : goal.multiply_eight-requires-clause-gains
multiply_eight-requires-clause-gains c = subst (Each1 IsGain) (sym (handed-gains c.args.gains c.requires.gains)) c.requires.gains

pub saturate_eight-requires-clause-fits : goal.saturate_eight-requires-clause-fits
saturate_eight-requires-clause-fits c = subst (Each1 (FitsSigned w64)) (sym (handed c.multiply_eight.result c.multiply_eight.ensures.fits)) c.multiply_eight.ensures.fits

pub returns-clause-lanes : goal.returns-clause-lanes
returns-clause-lanes c =
    handed-samples c.saturate_eight.result c.saturate_eight.ensures.fits
    ∙ c.saturate_eight.ensures.lanes
    ∙ ap (map nearest_in_32_bits) (handed c.multiply_eight.result c.multiply_eight.ensures.fits)
    ∙ ap (map nearest_in_32_bits) c.multiply_eight.ensures.lanes
    ∙ ap (λ xs. map nearest_in_32_bits (zip2 floored_by xs (map (mir.Val.to_z w64) (map (mir.Val.of_z w64) c.args.gains)))) (handed-samples c.args.samples c.requires.samples)
    ∙ ap (λ gs. map nearest_in_32_bits (zip2 floored_by c.args.samples gs)) (handed-gains c.args.gains c.requires.gains)
    ∙ nearest_in_32_bits-zip2 c.args.samples c.args.gains

pub returns-clause-fits : goal.returns-clause-fits
returns-clause-fits c = subst (Each1 (FitsSigned w32)) (sym (handed-samples c.saturate_eight.result c.saturate_eight.ensures.fits)) c.saturate_eight.ensures.fits
