-- What keeps a control, and the channels that it has.
use Rattle.std.proofs.Common.{◌≡◌, ◌∙◌, sym, subst, ℕ, ◌==◌, nat_lt, nat_le, true, false, List, Option, Some, None, is_some, refl, inl, inr, ℤ, rules}
use Rattle.std.proofs.lemmas.Bool.{cases_Bool}
use Rattle.std.specs.Option.{option_map}
use Rattle.uac_entities.specs.EntityInterfaces.{entity_by_id}
use Rattle.uac_entities.specs.declared.entity.Entity.{Entity}
use Rattle.uac_entities.specs.declared.entity.EntityKind.{EntityKind}
use Rattle.uac_entities.specs.declared.entity.EntityKind.TheVariants as kind
use Rattle.uac_entities.specs.declared.stream.StreamInterface.{StreamInterface}
use Rattle.uac_topology.specs.Function.{FunctionFields, interface_in}
use Rattle.uac_store.specs.declared.keys.Key.{Key}
use Rattle.uac_store.specs.ControlTable.{count_by, selectors_of}
use Rattle.uac_store.specs.StoreControls.{IsStoreOf, count_of, nodes_of, has_control, has_on}
use Rattle.uac_store.specs.Keyed.{key_of, value_of}
use Rattle.uac_request.specs.Requests.{by_entity, by_streaming_interface, high, low, owner_of}
use Rattle.uac_request.proofs.FunctionInterfaceLemmas.{has_number}

-- what an entity is by its constructor
by_entity_alone : (found : Option Entity) (e : Entity) → option_map by_entity found ≡ Some (by_entity e) → found ≡ Some e
by_entity_alone (Some f) e same = cc
by_entity_alone None e same = cc

not_by_stream : (found : Option StreamInterface) (e : Entity) → option_map by_streaming_interface found ≡ Some (by_entity e) → None ≡ Some e
not_by_stream (Some f) e same = cc
not_by_stream None e same = cc

-- an entity that keeps a control is the one that is named
pub entity_named : (function : FunctionFields) (index : ℕ) (e : Entity) → owner_of function index ≡ Some (by_entity e) → entity_by_id function.entities (high index) ≡ Some e
unfolding owner_of
entity_named function index e is = elim (cases_Bool (low index == function.control_interface)) [
  | inl own ↦ by_entity_alone (entity_by_id function.entities (high index)) e (rw own at is)
  | inr other ↦ elim (cases_Bool (high index == 0)) [
    | inl none_named ↦ (let stream : option_map by_streaming_interface (interface_in function (low index)) ≡ Some (by_entity e) = rw (other, none_named) at is in let not_one : None ≡ Some e = not_by_stream (interface_in function (low index)) e stream in cc)
    | inr more ↦ (let none : None ≡ Some (by_entity e) = rw (other, more) at is in cc)
  ]
]

by_stream_alone : (found : Option StreamInterface) (s : StreamInterface) → option_map by_streaming_interface found ≡ Some (by_streaming_interface s) → found ≡ Some s
by_stream_alone (Some t) s same = cc
by_stream_alone None s same = cc

not_by_entity : (found : Option Entity) (s : StreamInterface) → option_map by_entity found ≡ Some (by_streaming_interface s) → None ≡ Some s
not_by_entity (Some f) s same = cc
not_by_entity None s same = cc

-- a streaming interface that keeps a control is one of the function
pub stream_named : (function : FunctionFields) (index : ℕ) (s : StreamInterface) → owner_of function index ≡ Some (by_streaming_interface s) → interface_in function s.number ≡ Some s
unfolding owner_of
stream_named function index s is = elim (cases_Bool (low index == function.control_interface)) [
  | inl own ↦ (let entity : option_map by_entity (entity_by_id function.entities (high index)) ≡ Some (by_streaming_interface s) = rw own at is in let not_one : None ≡ Some s = not_by_entity (entity_by_id function.entities (high index)) s entity in cc)
  | inr other ↦ elim (cases_Bool (high index == 0)) [
    | inl none_named ↦ (let found : interface_in function (low index) ≡ Some s = by_stream_alone (interface_in function (low index)) s (rw (other, none_named) at is) in subst (λ n. interface_in function n ≡ Some s) (sym (has_number function.streams (low index) s found)) found)
    | inr more ↦ (let none : None ≡ Some (by_streaming_interface s) = rw (other, more) at is in cc)
  ]
]

-- where no control keeps a value there is channel 0 alone
channel_alone : (k : EntityKind) (nodes channels channel : ℕ) → nat_le 1 (selectors_of k) ≡ false → nat_lt channel (count_by k nodes channels) ≡ (channel == 0)
channel_alone kind.ClockSource nodes channels channel none = cc
channel_alone kind.ClockSelector nodes channels channel none = cc
channel_alone kind.ClockMultiplier nodes channels channel none = cc
channel_alone kind.InputTerminal nodes channels channel none = search rules
channel_alone kind.OutputTerminal nodes channels channel none = search rules
channel_alone kind.Mixer nodes channels channel none = cc
channel_alone kind.Selector nodes channels channel none = cc
channel_alone kind.Feature nodes channels channel none = cc
channel_alone kind.Effect nodes channels channel none = cc

pub of_terminal : (entities : List Entity) (e : Entity) (k : EntityKind) (channel : ℕ) → e.kind ≡ k → nat_le 1 (selectors_of k) ≡ false → (channel == 0) ≡ nat_lt channel (count_of entities e)
unfolding count_of
of_terminal entities e k channel is none = sym (channel_alone e.kind (nodes_of entities e) e.cluster.channels channel (rw is none))

-- a control that keeps a value has a channel exactly where the store has one
pub of_store : (entities : List Entity) (controls : List (Key × ℤ)) (e : Entity) (k : EntityKind) (entity channel : ℕ) → IsStoreOf entities controls → entity_by_id entities entity ≡ Some e → e.kind ≡ k → nat_le 1 (selectors_of k) ≡ true → is_some (value_of controls (key_of entity 1 channel)) ≡ nat_lt channel (count_of entities e)
unfolding has_control has_on
of_store entities controls e k entity channel store is of some =
    store.keys (key_of entity 1 channel) ∙ rw (is, of, some) refl
