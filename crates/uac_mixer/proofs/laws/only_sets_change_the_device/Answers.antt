use Rattle.uac_mixer.proofs.UnchangedLemmas.{only_sets_change}
use Rattle.uac_mixer.proofs.laws.only_sets_change_the_device.Goals as goal

pub returns : goal.returns
returns c = only_sets_change
