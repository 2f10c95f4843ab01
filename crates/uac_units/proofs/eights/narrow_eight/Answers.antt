use Rattle.uac_units.proofs.SampleLanesLemmas.{narrow-asked, narrowed}
use Rattle.uac_units.proofs.eights.narrow_eight.Goals as goal

pub overflow_cast-result : goal.overflow_cast-result
overflow_cast-result c = narrow-asked c.args.samples c.requires.fits

pub returns : goal.returns
returns c = narrowed c.args.samples c.requires.fits
