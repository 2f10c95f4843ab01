use Rattle.uac_promises.proofs.UnknownLostLemmas.{unknown_values_are_lost}
use Rattle.uac_promises.proofs.laws.believed.values_are_unknown_between.Goals as goal

pub returns : goal.returns
returns c = unknown_values_are_lost
