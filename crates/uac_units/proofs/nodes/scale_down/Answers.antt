use Rattle.std.proofs.Common.{◌∙◌, subst, sym, FitsSigned, w32}
use Rattle.std.specs.Simd.Lanes.{Each1}
use Rattle.uac_units.specs.SampleLanes.{IsGain}
use Rattle.uac_units.proofs.SampleLanesLemmas.{handed}
use Rattle.uac_units.proofs.SampleLanesNodeLemmas.{are-gains, low-is, low-products, scaled_sample-fits}
use Rattle.uac_units.proofs.nodes.scale_down.Goals as goal

pub multiply_eight-requires-clause-gains : goal.multiply_eight-requires-clause-gains
multiply_eight-requires-clause-gains c = subst (Each1 IsGain) (sym (low-is c.args.gains c.requires)) (are-gains c.args.gains c.fits-gains.1)

pub returns-clause-lanes : goal.returns-clause-lanes
returns-clause-lanes c =
    handed c.multiply_eight.result c.multiply_eight.ensures.fits
    ∙ c.multiply_eight.ensures.lanes
    ∙ low-products c.args.sample c.args.gains c.ranges.sample c.fits-gains.0 c.requires

pub returns-clause-fits : goal.returns-clause-fits
returns-clause-fits c = subst (Each1 (FitsSigned w32)) (sym (returns-clause-lanes c)) (scaled_sample-fits c.args.sample c.args.gains)
