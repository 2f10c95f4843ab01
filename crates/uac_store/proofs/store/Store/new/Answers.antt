use Rattle.uac_store.proofs.StoreControlsSoundLemmas.{keyed}
use Rattle.uac_store.proofs.store.Store.new.Goals as goal

pub start_values-requires : goal.start_values-requires
start_values-requires c = keyed _ c.functions_are_sound.ensures
