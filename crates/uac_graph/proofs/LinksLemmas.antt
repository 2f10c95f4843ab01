-- From ids to indices along the signal links.
use Rattle.std.proofs.Common.{◌≡◌, ◌∙◌, ap, sym, arith, ℕ, suc, ◌<◌, false, List, length, get_or, map, ◌⊎◌, inl, inr}
use Rattle.std.specs.List.{list_any}
use Rattle.std.proofs.lemmas.Bool.{cases_lt}
use Rattle.std.proofs.lemmas.List.{get_or_past}
use Rattle.std.proofs.Math.ListN as listn
use Rattle.std.proofs.Math.ListN.{length-map}
use Rattle.uac_topology_rules.specs.Walk.{links, has_walk}
use Rattle.uac_topology_rules.proofs.WalkLemmas.{none_at}
use Rattle.uac_entities.specs.declared.entity.Entity.{Entity}
use Rattle.uac_topology_rules.specs.Links.{signal_sources, signal_links}
use Rattle.uac_topology_rules.specs.Table.{at, index_of, nothing}
use Rattle.uac_topology_rules.proofs.ListFindLemmas.{or_len-le}
use Rattle.uac_graph.specs.Meaning.{entity}

-- the indices of an entity's signal sources
pub links_at : (entities : List Entity) (index : ℕ) → links (signal_links entities) index ≡ map (index_of entities) (signal_sources (at entities index))
unfolding at signal_sources
links_at entities index = listn.get_or-map (λ e. map (index_of entities) (signal_sources e)) entities index nothing

-- where no walk of n + 1 links leads on from an entity, none of n leads on from a source
pub source_ends : (entities : List Entity) (n id k : ℕ) → has_walk (signal_links entities) (suc n) (index_of entities id) ≡ false
    → k < length (signal_sources (entity entities id)) → has_walk (signal_links entities) n (index_of entities (get_or (signal_sources (entity entities id)) k 0)) ≡ false
unfolding has_walk entity
source_ends entities n id k ends below =
    let sources = signal_sources (at entities (index_of entities id)) in
    let indices = map (index_of entities) sources in
    let e : list_any (has_walk (signal_links entities) n) indices ≡ false =
    ap (list_any (has_walk (signal_links entities) n)) (sym (links_at entities (index_of entities id))) ∙ ends in
    let here : get_or indices k (index_of entities 0) ≡ index_of entities (get_or sources k 0) = listn.get_or-map (index_of entities) sources k 0 in
    ap (has_walk (signal_links entities) n) (sym here)
    ∙ none_at (has_walk (signal_links entities) n) indices k (index_of entities 0) (omega (arith, length-map sources (index_of entities))) e

-- an id past the entities
pub entity_past : (entities : List Entity) (id : ℕ) → index_of entities id ≡ length entities → entity entities id ≡ nothing
unfolding entity at
entity_past entities id past = get_or_past entities (index_of entities id) nothing (omega arith)

-- an id names an entity, or none
pub index_or_none : (entities : List Entity) (id : ℕ) → (index_of entities id < length entities) ⊎ (index_of entities id ≡ length entities)
unfolding index_of
index_or_none entities id =
    elim (cases_lt (index_of entities id) (length entities)) [
      | inl below ↦ inl below
      | inr past ↦ inr (omega (arith, or_len-le (λ (e : Entity). Rattle.std.specs.Prelude.nat_eq e.id id) entities))
    ]
