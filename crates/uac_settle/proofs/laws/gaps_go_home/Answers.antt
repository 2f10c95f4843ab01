use Rattle.uac_settle.proofs.SettlingGapLemmas.{gap_home, gap_over_integers}
use Rattle.uac_settle.proofs.laws.gaps_go_home.Goals as goal

pub returns : goal.returns
returns c = record { numbers = gap_home; over_integers = gap_over_integers }
