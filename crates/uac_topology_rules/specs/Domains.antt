-- The clock domains: the clocks that terminals name (Audio Class 2.0, 4.7.2.4 and 4.7.2.5: bCSourceID).
use Rattle.std.specs.Prelude.{◌≡◌, ℕ, ◌+◌, ◌<◌, Bool, ◌==◌, ◌&&◌, not, if◌then◌else◌, List, [], ◌∷◌, ◌++◌, Option, Some, None, length, take}
use Rattle.std.specs.Prelude.{slice_index}
use Rattle.std.specs.List.{list_any, filter, filter_map}
use Rattle.uac_entities.specs.declared.entity.Entity.{Entity}
use Rattle.uac_topology_rules.specs.Links.{is_terminal}

-- the clock that a terminal names
unfoldable pub clock_named : Entity → Option ℕ
clock_named e = if is_terminal e.kind then Some e.clock else None

-- each number once, where it first stands: after it, its later copies are left out
unfoldable pub each_once : List ℕ → List ℕ
each_once [] = []
each_once (n ∷ ns) = n ∷ filter (λ m. not (m == n)) (each_once ns)

-- the clocks that terminals name, each once, in the order in which they are first named
unfoldable pub domains_of : List Entity → List ℕ
domains_of entities = each_once (filter_map clock_named entities)

-- an entity names a clock that is none of these
unfoldable pub names_new : List ℕ → Entity → Bool
names_new clocks e = is_terminal e.kind && not (list_any (λ c. c == e.clock) clocks)

-- the clocks so far, and after them the one that an entity names, if it is new
unfoldable pub with_named_clock : List ℕ → Entity → List ℕ
with_named_clock clocks e = if names_new clocks e then clocks ++ e.clock ∷ [] else clocks

-- the domains, and how many clocks the entities up to each index name
pub record IsDomains (entities : List Entity) (clocks counts : List ℕ) : Type 0 where
  pub clocked : clocks ≡ domains_of entities
  pub sized : length counts ≡ length entities
  pub counted : (index : ℕ) → index < length entities → slice_index counts index ≡ length (domains_of (take (index + 1) entities))
