-- Nothing hears an output terminal, so a domain renders it only as an end of its own.
use Rattle.std.proofs.Common.{◌≡◌, ◌∙◌, sym, ap, subst, refl, arith, ℕ, zero, suc, ◌<◌, ◌==◌, ◌&&◌, ◌||◌, Bool, true, false, List, length, inl, inr}
use Rattle.std.specs.List.{All}
use Rattle.std.proofs.Math.Bool.{and-false, or-false}
use Rattle.std.proofs.lemmas.Bool.{cases_Bool, eqb-true, eq-eqb, ne_eqb}
use Rattle.std.proofs.lemmas.List.{get_or_default}
use Rattle.std.proofs.lemmas.List.Folds.{list_any_at, list_any_none}
use Rattle.uac_entities.specs.declared.entity.Entity.{Entity}
use Rattle.uac_topology_rules.specs.Links.{signal_sources}
use Rattle.uac_topology_rules.specs.Rules.{is_output}
use Rattle.uac_topology_rules.specs.Table.{at, nothing, index_of}
use Rattle.uac_topology.specs.Function.{FunctionFields}
use Rattle.uac_topology.specs.Topology.{IsSoundFunction}
use Rattle.uac_graph.specs.Fitness.{IsSignalGraph}
use Rattle.uac_graph.specs.Meaning.{entity}
use Rattle.uac_graph.specs.Needs.{depends_on, is_end, reaches}
use Rattle.uac_graph.proofs.FitnessLemmas.{sound_graph}
use Rattle.uac_graph.proofs.LinksLemmas.{entity_past, index_or_none}
use Rattle.uac_graph.proofs.WiringLemmas.{id_at}
use Rattle.uac_graph.proofs.WiringTerminalLemmas.{entity_itself}

-- no entity has an output terminal for a source
sources_go_on : (entities : List Entity) (from : ℕ) → IsSignalGraph entities → All (λ s. is_output (entity entities s).kind ≡ false) (signal_sources (entity entities from))
unfolding entity signal_sources
sources_go_on entities from sound =
    elim (index_or_none entities from) [
      | inl below ↦ sound.no_ends (index_of entities from) below
      | inr past ↦
          subst (λ (e : Entity). All (λ s. is_output (entity entities s).kind ≡ false) (signal_sources e)) (sym (entity_past entities from past))
          (λ i d inside. absurd (omega arith))
    ]

-- so only itself reaches it
only_itself : (entities : List Entity) (n from id : ℕ) → IsSignalGraph entities → is_output (entity entities id).kind ≡ true → reaches entities n from id ≡ (from == id)
unfolding reaches
only_itself entities zero from id sound output = refl
only_itself entities (suc n) from id sound output =
    ap (λ (b : Bool). from == id || b)
    (list_any_none (λ s. reaches entities n s id) (signal_sources (entity entities from))
    (λ i d inside. only_itself entities n _ id sound output ∙ ne_eqb _ id (λ same. clash _ same (sources_go_on entities from sound i d inside))))
    ∙ or-false (from == id)
  where
    clash : (s : ℕ) → s ≡ id → is_output (entity entities s).kind ≡ false → ⊥
    clash s same other =
        let e : true ≡ false = sym output ∙ ap (λ (k : ℕ). is_output (entity entities k).kind) (sym same) ∙ other in cc

module _ (entities : List Entity) (domain id : ℕ) (sound : IsSignalGraph entities) (output : is_output (entity entities id).kind ≡ true) where
  -- an output terminal is there
  there : index_of entities id < length entities
  there =
      elim (index_or_none entities id) [
        | inl below ↦ below
        | inr past ↦ absurd (let e : false ≡ true = ap (λ (x : Entity). is_output x.kind) (sym (entity_past entities id past)) ∙ output in cc)
      ]

  test : Entity → Bool
  test e = is_end domain e && reaches entities (length entities) e.id id

  -- it is an end of the domain, and depends on itself
  itself : is_end domain (entity entities id) ≡ true → test (entity entities id) ≡ true
  unfolding test entity
  itself end =
      ap (λ (b : Bool). b && reaches entities (length entities) (entity entities id).id id) end
      ∙ only_itself entities (length entities) (entity entities id).id id sound output
      ∙ eq-eqb (entity entities id).id id (id_at entities id there)

  -- or no end of the domain depends on it
  no_other : is_end domain (entity entities id) ≡ false → (k : ℕ) → k < length entities → test (at entities k) ≡ false
  unfolding test
  no_other none k below =
      elim (cases_Bool ((at entities k).id == id)) [
        | inl same ↦
            ap (λ (b : Bool). b && reaches entities (length entities) (at entities k).id id)
            (ap (is_end domain) (sym (entity_itself entities k sound below) ∙ ap (entity entities) (eqb-true (at entities k).id id same)) ∙ none)
        | inr differs ↦
            ap (λ (b : Bool). is_end domain (at entities k) && b) (only_itself entities (length entities) (at entities k).id id sound output ∙ differs)
            ∙ and-false (is_end domain (at entities k))
      ]

  ends_alone : depends_on entities domain id ≡ is_end domain (entity entities id)
  unfolding depends_on test entity at
  ends_alone =
      elim (cases_Bool (is_end domain (entity entities id))) [
        | inl end ↦ list_any_at test entities (index_of entities id) nothing there (itself end) ∙ sym end
        | inr none ↦
            list_any_none test entities (λ k d inside. subst (λ (e : Entity). test e ≡ false) (get_or_default entities k nothing d inside) (no_other none k inside))
            ∙ sym none
      ]

pub output_terminals : (function : FunctionFields) → IsSoundFunction function → (domain id : ℕ) → is_output (entity function.entities id).kind ≡ true
    → depends_on function.entities domain id ≡ is_end domain (entity function.entities id)
output_terminals function sound domain id output = ends_alone function.entities domain id (sound_graph function sound) output
