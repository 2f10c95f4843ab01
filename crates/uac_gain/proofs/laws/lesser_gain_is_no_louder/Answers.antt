use Rattle.uac_gain.proofs.GainScalingLemmas.{scaled_sample-whole}
use Rattle.uac_gain.proofs.laws.lesser_gain_is_no_louder.Goals as goal

pub returns-clause-whole : goal.returns-clause-whole
returns-clause-whole c = scaled_sample-whole
