use Rattle.std.proofs.Common.{refl}
use Rattle.uac_gain.specs.Gain.{raised_gain}
use Rattle.uac_gain.proofs.GainScalingLemmas.{scaled_sample-unity}
use Rattle.uac_gain.proofs.laws.unity_changes_nothing.Goals as goal

pub returns-clause-gain : goal.returns-clause-gain
unfolding raised_gain
returns-clause-gain c = refl

pub returns-clause-sample : goal.returns-clause-sample
returns-clause-sample c = scaled_sample-unity
