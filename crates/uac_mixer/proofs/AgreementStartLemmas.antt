-- Each control has a value that it takes, from the start on.
use Rattle.uac_topology.specs.Function.{FunctionFields}
use Rattle.uac_topology.specs.FunctionKept.{HavePins}
use Rattle.uac_topology.specs.Topology.{IsSoundFunction}
use Rattle.uac_store.specs.StoreControls.{IsKeyed, IsStoreOf, initial_controls}
use Rattle.uac_store.proofs.StoreControlsLemmas.{initial_is_store}
use Rattle.uac_request.proofs.RequestsLemmas.{store_stays}
use Rattle.uac_mixer.specs.Agreement.{ControlsStay}

pub starts : ((function : FunctionFields) → IsSoundFunction function → HavePins function.entities) → ((function : FunctionFields) → IsSoundFunction function → IsKeyed function.entities)
    → (function : FunctionFields) → IsSoundFunction function → IsStoreOf function.entities (initial_controls function.entities)
starts pins keys function sound = initial_is_store function.entities (keys function sound).apart (pins function sound)

-- no request changes that
pub stays : ControlsStay
stays = store_stays
