use Rattle.uac_promises.proofs.CountsLemmas.{counts_stay_far}
use Rattle.uac_promises.proofs.laws.believed.counts_stay_far.Goals as goal

pub returns : goal.returns
returns c = counts_stay_far
