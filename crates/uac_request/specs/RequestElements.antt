-- The controls of entities by their keys, as a host addresses them (Audio Class 2.0, 5.2.2).
use Rattle.std.specs.Prelude.{ℕ, ◌+◌, ◌*◌, Bool, false, List, unwrap_or}
use Rattle.std.specs.Option.{option_map_or}
use Rattle.uac_entities.specs.EntityInterfaces.{entity_by_id}
use Rattle.uac_entities.specs.declared.entity.Entity.{Entity}
use Rattle.uac_topology.specs.Function.{FunctionFields}
use Rattle.uac_store.specs.declared.keys.Key.{Key}
use Rattle.uac_request.specs.declared.setup.Setup.{Setup}
use Rattle.uac_request.specs.Requests.{entity_width, is_declared_on, is_signed, is_writable_on}

-- the descriptor declares the control of this key
abbrev pub is_present : List Entity → Key → Bool
is_present entities k = option_map_or (λ e. is_declared_on e.kind e k.selector k.channel) (entity_by_id entities k.entity) false

-- the bytes of the control of this key; 0 where there is none
abbrev pub width_at : List Entity → Key → ℕ
width_at entities k = option_map_or (λ e. unwrap_or (entity_width e.kind k.selector) 0) (entity_by_id entities k.entity) 0

-- whether a control's values are signed
abbrev pub is_signed_at : List Entity → Key → Bool
is_signed_at entities k = option_map_or (λ e. is_signed e.kind k.selector) (entity_by_id entities k.entity) false

-- a host may set it
abbrev pub is_writable_at : List Entity → Key → Bool
is_writable_at entities k = option_map_or (λ e. is_writable_on e.kind e k.selector k.channel) (entity_by_id entities k.entity) false

-- the request for the value of the control of this key: its selector and channel stand in wValue, its entity and the control interface
-- in wIndex (5.2.2)
unfoldable pub get_of : FunctionFields → Key → Setup
get_of function k =
    record {
      request_type = 161;
      request = 1;
      value = 256 * k.selector + k.channel;
      index = 256 * k.entity + function.control_interface;
      length = width_at function.entities k;
    }

-- the request that sets it
unfoldable pub set_of : FunctionFields → Key → Setup
set_of function k = record (get_of function k) { request_type = 33 }
