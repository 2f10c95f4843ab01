use Rattle.uac_store.proofs.StoreControlsSoundLemmas.{keyed}
use Rattle.uac_store.proofs.laws.sound_functions_have_keys_and_rates.Goals as goal

pub returns-clause-keys : goal.returns-clause-keys
returns-clause-keys c = keyed
