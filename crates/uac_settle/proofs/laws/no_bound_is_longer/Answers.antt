use Rattle.uac_settle.proofs.SettlingBoundLemmas.{no_bound_is_longer}
use Rattle.uac_settle.proofs.laws.no_bound_is_longer.Goals as goal

pub returns : goal.returns
returns c = no_bound_is_longer
