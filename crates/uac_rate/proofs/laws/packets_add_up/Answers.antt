use Rattle.uac_rate.proofs.PacketSizesLemmas.{packets_add_up, by_remainder}
use Rattle.uac_rate.proofs.laws.packets_add_up.Goals as goal

pub returns : goal.returns
returns c = record { by_one = packets_add_up; by_remainder = by_remainder }
