use Rattle.uac_gain.proofs.GainRiseLemmas.{scaled_sample-lesser_volume}
use Rattle.uac_gain.proofs.laws.lesser_volume_is_no_louder.Goals as goal

pub returns : goal.returns
returns c = scaled_sample-lesser_volume
