use Rattle.uac_rate.proofs.LevelsLemmas.{moment_level}
use Rattle.uac_rate.proofs.laws.rings_hold_enough.Goals as goal

pub returns : goal.returns
returns c = moment_level
