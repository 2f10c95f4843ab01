use Rattle.uac_rate.proofs.LevelsLemmas.{free}
use Rattle.uac_rate.proofs.laws.free_formula.Goals as goal

pub returns : goal.returns
returns c = free
