-- The channels of the entity with an id, by its index.
use Rattle.std.proofs.Common.{◌≡◌, ℕ, ◌<◌, ◌≤◌, ◌==◌, ◌⊎◌, inl, inr, List, Option, Some, None, length, slice_get, get_or, sym, ap, ◌∙◌, arith}
use Rattle.std.specs.Option.{option_map_or}
use Rattle.std.proofs.lemmas.Bool.{cases_lt}
use Rattle.std.proofs.lemmas.List.{get_or_past}
use Rattle.std.proofs.lemmas.List.Folds.{find_at}
use Rattle.std.proofs.lemmas.Option.{slice_get_past, slice_get-get_or}
use Rattle.uac_entities.specs.EntityInterfaces.{channels_of, entity_by_id}
use Rattle.uac_entities.specs.declared.entity.Entity.{Entity}
use Rattle.uac_topology_rules.specs.Table.{at, first_index_of, nothing, index_of}
use Rattle.uac_topology_rules.proofs.TableIdLemmas.{at_read, found_is, found_none}

abbrev channels : Option Entity → ℕ
channels o = option_map_or (λ e. e.cluster.channels) o 0

pub channels_placed : (es : List Entity) (id : ℕ) → channels_of es id ≡ (at es (index_of es id)).cluster.channels
unfolding channels_of entity_by_id index_of at
channels_placed es id = ap channels (find_at (λ (e : Entity). e.id == id) es) ∙ from (cases_lt (index_of es id) (length es)) where
  from : (index_of es id < length es) ⊎ (length es ≤ index_of es id)
      → channels (slice_get es (index_of es id)) ≡ (at es (index_of es id)).cluster.channels
  from (inl below) = ap channels (slice_get-get_or es (index_of es id) nothing below)
  from (inr past) =
      ap channels (slice_get_past es (index_of es id) past) ∙ sym (ap (λ (e : Entity). e.cluster.channels) (get_or_past es (index_of es id) nothing past))

-- where an entity has the id
pub channels_read : (es : List Entity) (id k : ℕ) (e : Entity) → Some k ≡ first_index_of es id → e ≡ get_or es k e
    → e.cluster.channels ≡ (at es (index_of es id)).cluster.channels
channels_read es id k e first_index_of is =
    let where_it_is = found_is es id k first_index_of in
    ap (λ (x : Entity). x.cluster.channels) (at_read es k e where_it_is.0 is ∙ ap (at es) (sym where_it_is.1))

-- where none has it
pub channels_nowhere : (es : List Entity) (id : ℕ) → None ≡ first_index_of es id → 0 ≡ (at es (index_of es id)).cluster.channels
unfolding at
channels_nowhere es id none =
    sym (ap (λ (e : Entity). e.cluster.channels) (get_or_past es (index_of es id) nothing (omega (arith, found_none es id none))))
