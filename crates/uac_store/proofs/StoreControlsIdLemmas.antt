-- What holds of each entity holds of the one with an id.
use Rattle.std.proofs.Common.{◌≡◌, ℕ, ◌==◌, ◌≤◌, List, length, sum, slice_get, Some, sym, subst, ◌∙◌}
use Rattle.std.specs.List.{All, position_or_len}
use Rattle.std.proofs.lemmas.List.Folds.{find_at}
use Rattle.std.proofs.lemmas.Option.{get_or_from_slice_get, slice_get_within}
use Rattle.uac_entities.specs.EntityInterfaces.{entity_by_id}
use Rattle.uac_entities.specs.declared.entity.Entity.{Entity}
use Rattle.uac_topology.specs.Function.{FunctionFields}
use Rattle.uac_topology.specs.FunctionKept.{HasPins}
use Rattle.uac_topology.specs.Topology.{IsSoundFunction}
use Rattle.uac_topology.proofs.FunctionKeptPinLemmas.{have_pins}
use Rattle.uac_store.specs.ControlTable.{IsSmall}
use Rattle.uac_store.specs.StoreControls.{pins_of, IsKeyed}

pub all_named : (P : Entity → Type 0) (all : List Entity) (id : ℕ) (e : Entity) → All P all → entity_by_id all id ≡ Some e → P e
unfolding entity_by_id
all_named P all id e each is =
    let index : ℕ = position_or_len (λ (x : Entity). x.id == id) all in
    let at : slice_get all index ≡ Some e = sym (find_at (λ (x : Entity). x.id == id) all) ∙ is in
    subst P (get_or_from_slice_get all index e e at) (each index e (slice_get_within all index e at))

pub small_named : (all : List Entity) (id : ℕ) (e : Entity) → IsKeyed all → entity_by_id all id ≡ Some e
    → IsSmall e.kind (sum (pins_of all e)) e.cluster.channels
small_named all id e keyed is = all_named (λ x. IsSmall x.kind (sum (pins_of all x)) x.cluster.channels) all id e keyed.small is

-- an entity of a sound function has at most 248 pins
pub few_pins : (function : FunctionFields) (id : ℕ) (e : Entity) → IsSoundFunction function → entity_by_id function.entities id ≡ Some e
    → length e.sources ≤ 248
few_pins function id e sound is = (all_named HasPins function.entities id e (have_pins function sound) is).1
