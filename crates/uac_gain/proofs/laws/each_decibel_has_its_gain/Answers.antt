use Rattle.uac_gain.proofs.GainRiseLemmas.{whole_down, half_down, whole_up, half_up}
use Rattle.uac_gain.proofs.laws.each_decibel_has_its_gain.Goals as goal

pub returns-clause-down : goal.returns-clause-down
returns-clause-down c = whole_down

pub returns-clause-half_down : goal.returns-clause-half_down
returns-clause-half_down c = half_down

pub returns-clause-up : goal.returns-clause-up
returns-clause-up c = whole_up

pub returns-clause-half_up : goal.returns-clause-half_up
returns-clause-half_up c = half_up
