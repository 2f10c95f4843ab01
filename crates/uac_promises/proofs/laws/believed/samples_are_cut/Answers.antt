use Rattle.uac_promises.proofs.CutLinesLemmas.{samples_are_cut}
use Rattle.uac_promises.proofs.laws.believed.samples_are_cut.Goals as goal

pub returns : goal.returns
returns c = samples_are_cut
