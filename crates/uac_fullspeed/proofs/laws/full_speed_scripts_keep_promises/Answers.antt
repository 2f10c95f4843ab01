use Rattle.uac_fullspeed.proofs.MachineLemmas.{fronts_keep_promises, lines_are_sayings, one_transcript}
use Rattle.uac_fullspeed.proofs.laws.full_speed_scripts_keep_promises.Goals as goal

pub returns : goal.returns
returns c = record { lines = lines_are_sayings; one = one_transcript; fronts = fronts_keep_promises c.full_speed_keeps_promises.ensures.promised }
