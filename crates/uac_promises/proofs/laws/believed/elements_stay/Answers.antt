use Rattle.uac_promises.proofs.UnknownLemmas.{elements_stay}
use Rattle.uac_promises.proofs.laws.believed.elements_stay.Goals as goal

pub returns : goal.returns
returns c = elements_stay
