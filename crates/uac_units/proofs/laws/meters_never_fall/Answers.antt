use Rattle.uac_units.proofs.HearingLemmas.{value_after_hearing-rises, value_after_hearing-fits}
use Rattle.uac_units.proofs.laws.meters_never_fall.Goals as goal

pub returns-clause-rises : goal.returns-clause-rises
returns-clause-rises c = value_after_hearing-rises

pub returns-clause-fits : goal.returns-clause-fits
returns-clause-fits c = value_after_hearing-fits
