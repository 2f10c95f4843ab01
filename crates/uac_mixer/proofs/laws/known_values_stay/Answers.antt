use Rattle.uac_mixer.proofs.AgreementLemmas.{stays_known}
use Rattle.uac_mixer.proofs.laws.known_values_stay.Goals as goal

pub returns : goal.returns
returns c = stays_known
