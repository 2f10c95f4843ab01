use Rattle.std.proofs.Common.{sym, subst, FitsSigned, w64}
use Rattle.std.specs.Simd.Lanes.{Each1}
use Rattle.uac_units.proofs.SampleLanesLemmas.{added, add_asked, added-fits, addable-lanes}
use Rattle.uac_units.proofs.eights.add_eight.Goals as goal

pub overflow_add-result : goal.overflow_add-result
overflow_add-result c = add_asked c.args.sums c.args.samples (addable-lanes c.args.sums c.args.samples c.requires.room c.requires.samples)

pub returns-clause-lanes : goal.returns-clause-lanes
returns-clause-lanes c = added c.args.sums c.args.samples (addable-lanes c.args.sums c.args.samples c.requires.room c.requires.samples)

pub returns-clause-fits : goal.returns-clause-fits
returns-clause-fits c =
    let small = addable-lanes c.args.sums c.args.samples c.requires.room c.requires.samples in
    subst (Each1 (FitsSigned w64)) (sym (added c.args.sums c.args.samples small)) (added-fits c.args.sums c.args.samples small)
