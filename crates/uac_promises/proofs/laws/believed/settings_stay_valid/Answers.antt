use Rattle.uac_promises.proofs.ValidSettingsLemmas.{settings_stay_valid}
use Rattle.uac_promises.proofs.laws.believed.settings_stay_valid.Goals as goal

pub returns : goal.returns
returns c = settings_stay_valid
