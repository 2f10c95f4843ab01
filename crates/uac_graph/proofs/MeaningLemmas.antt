-- The law that carries all else: a wire's meaning satisfies its own equation.
use Rattle.std.proofs.Common.{◌≡◌, ◌∙◌, ap, sym, refl, ℕ, zero, suc, false, ℤ, List, [], length, get_or, map, inl, inr, if◌then◌else◌}
use Rattle.uac_topology_rules.specs.Walk.{has_walk}
use Rattle.uac_entities.specs.declared.entity.Entity.{Entity}
use Rattle.uac_topology_rules.specs.Clusters.{is_input}
use Rattle.uac_topology_rules.specs.Links.{signal_sources, signal_links}
use Rattle.uac_topology_rules.proofs.SignalsLemmas.{map_same}
use Rattle.uac_topology_rules.specs.Table.{index_of, nothing}
use Rattle.uac_graph.specs.GraphControls.{Controls}
use Rattle.uac_graph.specs.Fitness.{IsSignalGraph}
use Rattle.uac_graph.specs.Meaning.{entity, frame_of, meaning, samples, samples_by}
use Rattle.uac_graph.proofs.LinksLemmas.{entity_past, source_ends, index_or_none}

-- one step depends on the sources alone
pub samples_by-same : (entities : List Entity) (controls : Controls) (ins : ℕ → List ℤ) (f g : ℕ → List ℤ) (id : ℕ)
    → map f (signal_sources (entity entities id)) ≡ map g (signal_sources (entity entities id))
    → samples_by entities controls ins f id ≡ samples_by entities controls ins g id
unfolding samples_by
samples_by-same entities controls ins f g id same =
    let e = entity entities id in
    ap (λ (frames : List (List ℤ)). if is_input e.kind then ins id else frame_of controls id e.kind e.cluster.channels frames) same

-- where no walk of n links leads on, more links change nothing
pub enough : (entities : List Entity) (controls : Controls) (ins : ℕ → List ℤ) (n id : ℕ) → has_walk (signal_links entities) n (index_of entities id) ≡ false
    → samples (suc n) entities controls ins id ≡ samples n entities controls ins id
unfolding samples has_walk
enough entities controls ins zero id ends = absurd (cc)
enough entities controls ins (suc n) id ends =
    samples_by-same entities controls ins (samples (suc n) entities controls ins) (samples n entities controls ins) id
    (map_same (samples (suc n) entities controls ins) (samples n entities controls ins) (signal_sources (entity entities id))
    (λ k below. enough entities controls ins n (get_or (signal_sources (entity entities id)) k 0) (source_ends entities n id k ends below)))

-- an id of no entity has no samples
no_samples : (entities : List Entity) (controls : Controls) (ins below : ℕ → List ℤ) (id : ℕ) → entity entities id ≡ nothing
    → samples_by entities controls ins below id ≡ []
unfolding samples_by frame_of signal_sources
no_samples entities controls ins below id e = rw e refl

nothing_along : (entities : List Entity) (controls : Controls) (ins : ℕ → List ℤ) (n id : ℕ) → entity entities id ≡ nothing
    → samples n entities controls ins id ≡ []
unfolding samples
nothing_along entities controls ins zero id e = refl
nothing_along entities controls ins (suc n) id e = no_samples entities controls ins (samples n entities controls ins) id e

pub equation : (entities : List Entity) (controls : Controls) (ins : ℕ → List ℤ) (id : ℕ) → IsSignalGraph entities
    → meaning entities controls ins id ≡ samples_by entities controls ins (meaning entities controls ins) id
unfolding meaning samples
equation entities controls ins id sound =
    elim (index_or_none entities id) [
      | inl below ↦ sym (enough entities controls ins (length entities) id (sound.acyclic (index_of entities id) below))
      | inr past ↦
          (let none = entity_past entities id past in
          nothing_along entities controls ins (length entities) id none
          ∙ sym (no_samples entities controls ins (samples (length entities) entities controls ins) id none))
    ]
