-- The values that controls can take: the ranges that are told of them, and those that leave every clock with a rate (Audio Class 2.0,
-- 5.2.1 and 5.2.5; profile: the subranges, and that a clock's value may take no clock's rate away).
use Rattle.std.specs.Prelude.{◌&&◌, ◌||◌, not, Bool, false, if◌then◌else◌, ℤ, List, length}
use Rattle.std.specs.Prelude.{Option, Some, None, is_some}
use Rattle.std.specs.List.{list_all}
use Rattle.std.specs.Option.{option_and_then, option_map_or}
use Rattle.uac_entities.specs.EntityInterfaces.{entity_by_id}
use Rattle.uac_entities.specs.declared.entity.Entity.{Entity}
use Rattle.uac_topology_rules.specs.Links.{is_clock}
use Rattle.uac_store.specs.declared.keys.Key.{Key}
use Rattle.uac_store.specs.declared.keys.Range.{Range}
use Rattle.uac_store.specs.declared.values.Change.{Change}
use Rattle.uac_store.specs.Keyed.{with_value}
use Rattle.uac_store.specs.ControlTable.{ranges_by}
use Rattle.uac_store.specs.StoreControls.{has_on, takes}
use Rattle.uac_store.specs.Rates.{rate_of}

-- ---- ranges

-- the subranges of the control of this key; none where there is no such control, or it has no ranges
unfoldable pub ranges_of : List Entity → Key → Option (List Range)
ranges_of entities k =
    option_and_then (λ e. if has_on entities k e then ranges_by e.kind (length e.sources) e.attributes k.selector
    else None) (entity_by_id entities k.entity)

-- ---- values that are legal

-- each clock entity has a rate under these controls
unfoldable pub are_clocked : List Entity → List (Key × ℤ) → Bool
are_clocked entities controls = list_all (λ e. not (is_clock e.kind) || is_some (rate_of entities controls e.id)) entities

-- the control of this key is a clock entity's
abbrev pub is_of_a_clock : List Entity → Key → Bool
is_of_a_clock entities k = option_map_or (λ e. is_clock e.kind) (entity_by_id entities k.entity) false

-- a value is legal where the control takes it, and a clock entity's only where each clock entity has a rate under it
unfoldable pub is_legal : List Entity → List (Key × ℤ) → Key → ℤ → Bool
is_legal entities controls k v = takes entities k v && (not (is_of_a_clock entities k) || are_clocked entities (with_value controls k v))

-- ---- a change that is tried

-- the controls under a change, where there is one
abbrev pub values_after : List (Key × ℤ) → Option Change → List (Key × ℤ)
values_after controls None = controls
values_after controls (Some c) = with_value controls c.key c.value
