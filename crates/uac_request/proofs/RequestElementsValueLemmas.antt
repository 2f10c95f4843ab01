-- Controls by their keys: what the requests for their values and to set them are answered.
use Rattle.std.proofs.Common.{◌≡◌, ◌∙◌, sym, ap, refl, ℕ, ◌*◌, ◌<◌, ◌≤◌, nat_lt, nat_le, true, false, List, length, sum, Option, Some, None, is_some, unwrap_or, ℤ, arith, rules}
use Rattle.std.specs.Option.{option_map_or}
use Rattle.std.proofs.lemmas.Bool.{and_parts, ltb-true}
use Rattle.uac_entities.specs.EntityInterfaces.{entity_by_id}
use Rattle.uac_entities.specs.declared.entity.Entity.{Entity}
use Rattle.uac_entities.specs.declared.entity.EntityKind.{EntityKind}
use Rattle.uac_entities.specs.declared.entity.EntityKind.TheVariants as kind
use Rattle.uac_topology_rules.specs.Links.{is_clock}
use Rattle.uac_topology.specs.Function.{FunctionFields}
use Rattle.uac_topology.specs.Topology.{IsSoundFunction}
use Rattle.uac_topology.proofs.FunctionKeptChannelLemmas.{have_channels}
use Rattle.uac_store.specs.declared.keys.Key.{Key}
use Rattle.uac_store.specs.ControlTable.{IsSmall, count_by, selectors_of, takes_by}
use Rattle.uac_store.specs.StoreControls.{count_of, has_control, has_on, IsStoreOf, nodes_of, pins_of, takes, takes_on}
use Rattle.uac_store.specs.Keyed.{value_of}
use Rattle.uac_store.proofs.StoreControlsIdLemmas.{all_named, small_named}
use Rattle.uac_store.proofs.StoreControlsSoundLemmas.{keyed}
use Rattle.uac_request.specs.RequestElements.{is_signed_at, width_at}
use Rattle.uac_request.specs.Requests.{entity_width, is_signed, value_bytes, value_from}
use Rattle.uac_request.proofs.RequestsByteLemmas.{taken_within, value_back, width_of_kept}

-- ---- a control that keeps a value

-- its entity has its selector and its channel
pub record IsKept (entities : List Entity) (k : Key) (e : Entity) : Type 0 where
  pub is : entity_by_id entities k.entity ≡ Some e
  pub some : nat_lt 0 k.selector ≡ true
  pub low : nat_le k.selector (selectors_of e.kind) ≡ true
  pub within : nat_lt k.channel (count_of entities e) ≡ true

on_entity : (entities : List Entity) (k : Key) (e : Entity) → entity_by_id entities k.entity ≡ Some e → has_on entities k e ≡ true → IsKept entities k e
unfolding has_on
on_entity entities k e is there =
    record {
      is = is;
      some = search (rules, there, and_parts);
      low = grind (arith, there);
      within = grind (arith, there);
    }

pub kept_of : (entities : List Entity) (k : Key) → has_control entities k ≡ true → (e : Entity) × IsKept entities k e
unfolding has_control
kept_of entities k there = from (entity_by_id entities k.entity) refl there where
  from : (o : Option Entity) → entity_by_id entities k.entity ≡ o → option_map_or (has_on entities k) o false ≡ true → (e : Entity) × IsKept entities k e
  from None is there = cc
  from (Some e) is there = (e, on_entity entities k e is there)

-- of a store, where it has a value
pub kept_in : (entities : List Entity) (controls : List (Key × ℤ)) (k : Key) (v : ℤ) → IsStoreOf entities controls → value_of controls k ≡ Some v → (e : Entity) × IsKept entities k e
kept_in entities controls k v store is = kept_of entities k (sym (store.keys k) ∙ ap is_some is)

-- a channel's number has one byte
few_by : (k : EntityKind) (inputs channels channel : ℕ) → IsSmall k inputs channels → (is_clock k ≡ false → (1 ≤ channels) × (channels ≤ 32)) → channel < count_by k (inputs * channels) channels → channel < 256
few_by kind.ClockSource inputs channels channel small clustered within = omega arith
few_by kind.ClockSelector inputs channels channel small clustered within = omega arith
few_by kind.ClockMultiplier inputs channels channel small clustered within = omega arith
few_by kind.InputTerminal inputs channels channel small clustered within = omega arith
few_by kind.OutputTerminal inputs channels channel small clustered within = omega arith
few_by kind.Mixer inputs channels channel small clustered within = (let most = small.1 in omega arith)
few_by kind.Selector inputs channels channel small clustered within = omega arith
few_by kind.Feature inputs channels channel small clustered within = (let few = (clustered refl).1 in omega arith)
few_by kind.Effect inputs channels channel small clustered within = (let few = (clustered refl).1 in omega arith)

pub few_channels : (function : FunctionFields) (k : Key) (e : Entity) → IsSoundFunction function → IsKept function.entities k e → k.channel < 256
unfolding count_of
few_channels function k e sound kept =
    few_by e.kind (sum (pins_of function.entities e)) e.cluster.channels k.channel
    (small_named function.entities k.entity e (keyed function sound) kept.is)
    (all_named (λ e. is_clock e.kind ≡ false → (1 ≤ e.cluster.channels) × (e.cluster.channels ≤ 32)) function.entities k.entity e (have_channels function sound) kept.is)
    (ltb-true k.channel (count_by e.kind (nodes_of function.entities e) e.cluster.channels) kept.within)

-- a held value comes back from its control's bytes
pub held_comes_back : (entities : List Entity) (controls : List (Key × ℤ)) (k : Key) (v : ℤ) → IsStoreOf entities controls → value_of controls k ≡ Some v → value_from (is_signed_at entities k) (value_bytes (width_at entities k) v) ≡ v
unfolding takes takes_on
held_comes_back entities controls k v store is =
    let found = kept_in entities controls k v store is in
    let e : Entity = found.0 in
    let kept : IsKept entities k e = found.1 in
    let taken : takes_by e.kind (length e.sources) e.attributes k.selector v ≡ true = ap (λ o. option_map_or (takes_on k.selector v) o false) (sym kept.is) ∙ store.values k v is in
    rw kept.is
    (value_back (unwrap_or (entity_width e.kind k.selector) 0) (width_of_kept e.kind k.selector kept.some kept.low) (is_signed e.kind k.selector) v
    (taken_within e.kind (length e.sources) e.attributes k.selector v kept.some kept.low taken))
