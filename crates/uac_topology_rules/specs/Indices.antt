-- What the table of ids keeps.
use Rattle.std.specs.Prelude.{◌≡◌, ℕ, List, nat_eq}
use Rattle.std.specs.HashMap.{get, HashMap}
use Rattle.uac_entities.specs.declared.entity.Entity.{Entity}
use Rattle.uac_topology_rules.specs.Table.{first_index_of}

-- the map has for each id the index of the first entity with it
abbrev pub IsTable : {S : Type 0} → List Entity → HashMap ℕ ℕ S → Type 0
IsTable entities indices = (id : ℕ) → get nat_eq indices id ≡ first_index_of entities id
