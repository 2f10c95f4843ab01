use Rattle.uac_gain.proofs.GainRiseLemmas.{gain_of-fits, gain_of-rises, gain_of-audible}
use Rattle.uac_gain.proofs.laws.gains_rise_strictly.Goals as goal

pub returns-clause-fits : goal.returns-clause-fits
returns-clause-fits c = gain_of-fits

pub returns-clause-rises : goal.returns-clause-rises
returns-clause-rises c = gain_of-rises

pub returns-clause-audible : goal.returns-clause-audible
returns-clause-audible c = gain_of-audible
