use Rattle.std.proofs.Common.{◌∙◌, ap, subst, sym, FitsSigned, w32}
use Rattle.std.specs.Simd.Lanes.{Each1}
use Rattle.uac_units.proofs.SampleLanesNodeLemmas.{choices-of, chosen, each-whole, scaled_sample-fits}
use Rattle.uac_units.proofs.nodes.keep_or_silence.Goals as goal

pub returns-clause-lanes : goal.returns-clause-lanes
returns-clause-lanes c =
    ap (choices-of c.args.gains c.args.sample) (sym c.fits-gains.0)
    ∙ chosen c.args.gains c.args.sample c.ranges.sample (each-whole c.args.gains c.requires)

pub returns-clause-fits : goal.returns-clause-fits
returns-clause-fits c = subst (Each1 (FitsSigned w32)) (sym (returns-clause-lanes c)) (scaled_sample-fits c.args.sample c.args.gains)
