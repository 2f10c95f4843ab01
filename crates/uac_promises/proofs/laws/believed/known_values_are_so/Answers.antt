use Rattle.uac_promises.proofs.BelievedLemmas.{known_values_are_so}
use Rattle.uac_promises.proofs.laws.believed.known_values_are_so.Goals as goal

pub returns : goal.returns
returns c = known_values_are_so
