-- The controls that keep a value, present or absent (Audio Class 2.0, 5.2.5). Each entity stands with the cluster that it puts out.
use Rattle.std.specs.Prelude.{◌≡◌, ℕ, ◌-◌, ◌*◌, ◌/◌, ◌%◌, Bool, true, false, ◌==◌, ◌&&◌, nat_le, nat_lt, ℤ, pos, negsuc}
use Rattle.std.specs.Prelude.{if◌then◌else◌, List, [], ◌∷◌, map, length, sum, Option, Some, None, is_some, nat_eq}
use Rattle.std.specs.List.{flat_map, range_with_len, IsDistinct, All}
use Rattle.std.specs.Option.{option_and_then, option_map_or}
use Rattle.uac_entities.specs.EntityInterfaces.{channels_of, entity_by_id}
use Rattle.uac_entities.specs.declared.entity.Entity.{Entity}
use Rattle.uac_store.specs.declared.keys.Key.{Key}
use Rattle.uac_store.specs.ControlTable.{count_by, IsSmall, selectors_of, start_by, takes_by}
use Rattle.uac_store.specs.Keyed.{key_of, value_of}

-- the channels of each pin
unfoldable pub pins_of : List Entity → Entity → List ℕ
pins_of entities e = map (channels_of entities) e.sources

-- a mixer has a node for each input channel and each output channel
abbrev pub nodes_of : List Entity → Entity → ℕ
nodes_of entities e = sum (pins_of entities e) * e.cluster.channels

-- how many of each control an entity has: the nodes of a mixer; the master, channel 0, and the channels of a feature or an
-- effect; else channel 0 alone
unfoldable pub count_of : List Entity → Entity → ℕ
count_of entities e = count_by e.kind (nodes_of entities e) e.cluster.channels

-- an input's channel number within its pin
abbrev pub channel_within : List ℕ → ℕ → ℕ
channel_within [] input = input
channel_within (channels ∷ pins) input = if nat_lt input channels then input else channel_within pins (input - channels)

-- profile: the node of input u and output v has number u * outputs + v; at the start it is open where both are the same
-- channel, and silent elsewhere
unfoldable pub node_start : List ℕ → ℕ → ℕ → ℤ
node_start pins outputs node =
    if channel_within pins (node / outputs) == node % outputs then pos 0 else negsuc 32767

-- what an entity's control of a selector has at the start on a channel
unfoldable pub start_of : List Entity → Entity → ℕ → ℕ → ℤ
start_of entities e selector channel = start_by e.kind selector (node_start (pins_of entities e) e.cluster.channels channel)

-- one control of an entity at the start, on its first channels
unfoldable pub first_channels : List Entity → Entity → ℕ → ℕ → List (Key × ℤ)
first_channels entities e selector n =
    map (λ channel. (key_of e.id selector channel, start_of entities e selector channel)) (range_with_len 0 n)

-- one control of an entity at the start, on all its channels
unfoldable pub channel_controls : List Entity → Entity → ℕ → List (Key × ℤ)
channel_controls entities e selector = first_channels entities e selector (count_of entities e)

-- the controls of an entity at the start, by selector, then by channel
unfoldable pub controls_of : List Entity → Entity → List (Key × ℤ)
controls_of entities e = flat_map (channel_controls entities e) (range_with_len 1 (selectors_of e.kind))

-- the controls' values at the start, in block order
unfoldable pub initial_controls : List Entity → List (Key × ℤ)
initial_controls entities = flat_map (controls_of entities) entities

-- the entity has a control of this selector and channel that keeps a value
unfoldable pub has_on : List Entity → Key → Entity → Bool
has_on entities k e = nat_lt 0 k.selector && nat_le k.selector (selectors_of e.kind) && nat_lt k.channel (count_of entities e)

-- there is a control of this key that keeps a value
unfoldable pub has_control : List Entity → Key → Bool
has_control entities k = option_map_or (has_on entities k) (entity_by_id entities k.entity) false

-- what the control of this key has at the start, if there is one
unfoldable pub start_at : List Entity → Key → Option ℤ
start_at entities k =
    option_and_then (λ e. if has_on entities k e then Some (start_of entities e k.selector k.channel) else None)
    (entity_by_id entities k.entity)

-- profile: the values that an entity's control takes
unfoldable pub takes_on : ℕ → ℤ → Entity → Bool
takes_on selector v e = takes_by e.kind (length e.sources) e.attributes selector v

-- the control of this key takes the value
unfoldable pub takes : List Entity → Key → ℤ → Bool
takes entities k v = option_map_or (takes_on k.selector v) (entity_by_id entities k.entity) false

-- the controls are those of these entities, each with a value that it takes
pub record IsStoreOf (entities : List Entity) (controls : List (Key × ℤ)) : Type 0 where
  pub keys : (k : Key) → is_some (value_of controls k) ≡ has_control entities k
  pub values : (k : Key) (v : ℤ) → value_of controls k ≡ Some v → takes entities k v ≡ true

-- each control has a key of its own: ids differ, and the number of a node is a channel number
pub record IsKeyed (entities : List Entity) : Type 0 where
  pub apart : IsDistinct nat_eq (map (λ e. e.id) entities)
  pub small : All (λ e. IsSmall e.kind (sum (pins_of entities e)) e.cluster.channels) entities
