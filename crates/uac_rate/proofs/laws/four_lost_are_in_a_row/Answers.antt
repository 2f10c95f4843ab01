use Rattle.uac_rate.proofs.SteadinessLemmas.{four_in_a_row}
use Rattle.uac_rate.proofs.laws.four_lost_are_in_a_row.Goals as goal

pub returns : goal.returns
returns c = four_in_a_row
