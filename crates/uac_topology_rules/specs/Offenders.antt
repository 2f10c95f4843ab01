-- The first offender in block order.
use Rattle.std.specs.Prelude.{ℕ, Bool, List, Option, length, slice_get}
use Rattle.std.specs.List.{find, range_with_len}
use Rattle.std.specs.Option.{option_map, option_map_or}
use Rattle.uac_entities.specs.declared.entity.Entity.{Entity}
use Rattle.uac_entities.specs.declared.stream.StreamInterface.{StreamInterface}
use Rattle.uac_topology_rules.specs.Table.{at}

-- the first index below n that a test finds
unfoldable pub first_index : (ℕ → Bool) → ℕ → Option ℕ
first_index breaks n = find breaks (range_with_len 0 n)

-- the id of the first entity that breaks a rule
unfoldable pub offender : List Entity → (ℕ → Bool) → Option ℕ
offender entities breaks = option_map (λ index. (at entities index).id) (first_index breaks (length entities))

-- the number of the streaming interface at an index
unfoldable pub number_at : List StreamInterface → ℕ → ℕ
number_at streams index = option_map_or (λ s. s.number) (slice_get streams index) 0

-- the number of the first streaming interface that breaks a rule
unfoldable pub interface_offender : List StreamInterface → (ℕ → Bool) → Option ℕ
interface_offender streams breaks = option_map (number_at streams) (first_index breaks (length streams))
