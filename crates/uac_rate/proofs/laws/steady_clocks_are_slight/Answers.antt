use Rattle.uac_rate.proofs.PacketSizesLemmas.{slight_sum}
use Rattle.uac_rate.proofs.LevelsLemmas.{slight_step}
use Rattle.uac_rate.proofs.laws.steady_clocks_are_slight.Goals as goal

pub returns : goal.returns
returns c = record { step = slight_step; steps = slight_sum }
