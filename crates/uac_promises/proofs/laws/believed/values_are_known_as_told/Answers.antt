use Rattle.uac_promises.proofs.UnknownLemmas.{values_are_known_as_told}
use Rattle.uac_promises.proofs.laws.believed.values_are_known_as_told.Goals as goal

pub returns : goal.returns
returns c = values_are_known_as_told
