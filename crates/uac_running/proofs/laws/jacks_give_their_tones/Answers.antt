use Rattle.uac_device.proofs.JacksLemmas.{next_after}
use Rattle.uac_running.proofs.laws.jacks_give_their_tones.Goals as goal

pub returns : goal.returns
returns c = next_after
