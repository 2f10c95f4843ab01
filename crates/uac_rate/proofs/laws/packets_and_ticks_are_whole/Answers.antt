use Rattle.uac_rate.proofs.LevelsLemmas.{whole_packets, whole_ticks}
use Rattle.uac_rate.proofs.laws.packets_and_ticks_are_whole.Goals as goal

pub returns : goal.returns
returns c = record { packets = whole_packets; ticks = whole_ticks }
