use Rattle.uac_implicit.proofs.MachineLemmas.{fronts_keep_promises, fronts_stay_near, lines_are_sayings, one_transcript}
use Rattle.uac_implicit.proofs.laws.pair_scripts_keep_promises.Goals as goal

pub returns : goal.returns
returns c = record { lines = lines_are_sayings; one = one_transcript; fronts = fronts_keep_promises c.pairs_stay_near.ensures.promises; near = fronts_stay_near c.pairs_stay_near.ensures.moments }
