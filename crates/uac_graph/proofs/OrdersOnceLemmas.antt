-- No entity is ordered twice: none is reached by its own sources.
use Rattle.std.proofs.Common.{◌≡◌, ◌∙◌, sym, ap, subst, arith, ℕ, zero, suc, ◌<◌, Bool, true, false, ◌||◌, eqb, List, [], ◌∷◌, ◌++◌, length, get_or, map, inl, inr}
use Rattle.std.specs.List.{list_any}
use Rattle.std.proofs.lemmas.Bool.{both_ways, cases_Bool, cases_eq, cases_lt, eq-eqb, ne_eqb, eqb-true}
use Rattle.std.proofs.lemmas.List.Folds.{list_any_at, list_any_none}
use Rattle.std.proofs.Math.ListN as listn
use Rattle.std.proofs.Math.ListN.{get_or-append, length-append, length-map}
use Rattle.std.proofs.Math.Seq.{get_or-append_seam}
use Rattle.uac_topology_rules.specs.Walk.{has_walk, leads, links}
use Rattle.uac_topology_rules.proofs.WalkLemmas.{no_way_back_lem, none_at}
use Rattle.uac_entities.specs.declared.entity.Entity.{Entity}
use Rattle.uac_topology_rules.specs.Links.{is_clock, signal_links, signal_sources}
use Rattle.uac_topology_rules.specs.Table.{at, index_of}
use Rattle.uac_topology_rules.proofs.ListFindLemmas.{any_at}
use Rattle.uac_graph.specs.Fitness.{IsSignalGraph}
use Rattle.uac_graph.specs.Meaning.{entity}
use Rattle.uac_graph.specs.Needs.{reaches}
use Rattle.uac_graph.specs.Orders.{IsRenderOrder, has_id}
use Rattle.uac_graph.proofs.LinksLemmas.{links_at}
use Rattle.uac_graph.proofs.WiringLemmas.{id_at}
use Rattle.uac_graph.proofs.WiringWireLemmas.{signal_below}

-- one link and then a walk on from the source that it names
source_leads : (entities : List Entity) (m id k w : ℕ) → k < length (signal_sources (entity entities id))
    → leads (signal_links entities) m (index_of entities (get_or (signal_sources (entity entities id)) k 0)) w ≡ true
    → leads (signal_links entities) (suc m) (index_of entities id) w ≡ true
unfolding leads entity
source_leads entities m id k w below on =
    let graph = signal_links entities in
    let sources = signal_sources (at entities (index_of entities id)) in
    let indices = map (index_of entities) sources in
    let here : get_or indices k (index_of entities 0) ≡ index_of entities (get_or sources k 0) = listn.get_or-map (index_of entities) sources k 0 in
    ap (list_any (λ t. leads graph m t w)) (links_at entities (index_of entities id))
    ∙ list_any_at (λ t. leads graph m t w) indices k (index_of entities 0) (omega (arith, length-map sources (index_of entities)))
    (ap (λ (t : ℕ). leads graph m t w) here ∙ on)

-- a walk leads to what an entity reaches
reached_leads : (entities : List Entity) (n id other : ℕ) → reaches entities n id other ≡ true
    → (m : ℕ) × (leads (signal_links entities) m (index_of entities id) (index_of entities other) ≡ true)
unfolding reaches leads
reached_leads entities zero id other reached =
    (0, eq-eqb (index_of entities id) (index_of entities other) (ap (index_of entities) (eqb-true id other reached)))
reached_leads entities (suc n) id other reached =
    elim (cases_eq id other) [
      | inl same ↦ (0, eq-eqb (index_of entities id) (index_of entities other) (ap (index_of entities) same))
      | inr not_same ↦
          (let sources = signal_sources (entity entities id) in
          let later : list_any (λ s. reaches entities n s other) sources ≡ true =
          ap (λ (b : Bool). b || list_any (λ s. reaches entities n s other) sources) (sym (ne_eqb id other not_same)) ∙ reached in
          let found = any_at (λ s. reaches entities n s other) sources later in
          let on = reached_leads entities n (get_or sources found.0 0) other found.2 in
          (suc on.0, source_leads entities on.0 id found.0 (index_of entities other) found.1 on.1))
    ]

-- no source of an entity reaches it
sources_apart : (entities : List Entity) (n id : ℕ) → IsSignalGraph entities → is_clock (entity entities id).kind ≡ false
    → list_any (λ s. reaches entities n s id) (signal_sources (entity entities id)) ≡ false
sources_apart entities n id sound signal =
    elim (cases_Bool (list_any (λ s. reaches entities n s id) sources)) [
      | inl back ↦
          (let found = any_at (λ s. reaches entities n s id) sources back in
          let on = reached_leads entities n (get_or sources found.0 0) id found.2 in
          absurd (both_ways (leads graph (suc on.0) index index) (none on.0) (source_leads entities on.0 id found.0 index found.1 on.1)))
      | inr never ↦ never
    ]
  where
    graph : List (List ℕ)
    graph = signal_links entities

    sources : List ℕ
    sources = signal_sources (entity entities id)

    index : ℕ
    index = index_of entities id

    none : (m : ℕ) → leads graph (suc m) index index ≡ false
    none m =
        no_way_back_lem graph index
        (subst (λ (n : ℕ). has_walk graph n index ≡ false) (sym (length-map entities _)) (sound.acyclic index (signal_below entities id signal))) m

-- where the entity's index isn't there, no index of its id is
not_held : (entities : List Entity) (indices slice : List ℕ) (id index : ℕ) → IsSignalGraph entities → IsRenderOrder entities indices
    → index ≡ index_of entities id → slice ≡ indices → list_any (λ p. eqb p index) slice ≡ false → has_id entities indices id ≡ false
not_held entities indices slice id index sound order where_it_is same absent =
    list_any_none (λ p. eqb (at entities p).id id) indices
    (λ k d below.
    ne_eqb (at entities (get_or indices k d)).id id
    (λ named.
    let there : get_or indices k d ≡ index = sym (sound.distinct (get_or indices k d) (order.inside k d below)) ∙ ap (index_of entities) named ∙ sym where_it_is in
    both_ways (eqb (get_or indices k d) index)
    (none_at (λ p. eqb p index) indices k d below (subst (λ (ps : List ℕ). list_any (λ p. eqb p index) ps ≡ false) same absent))
    (eq-eqb (get_or indices k d) index there)))

-- nor once its sources are ordered
pub not_held_yet : (entities : List Entity) (links id index : ℕ) (old mid slice : List ℕ) → IsSignalGraph entities → is_clock (entity entities id).kind ≡ false
    → IsRenderOrder entities old → index ≡ index_of entities id → slice ≡ old → list_any (λ p. eqb p index) slice ≡ false
    → ((k : ℕ) → has_id entities mid k ≡ (has_id entities old k || list_any (λ s. reaches entities links s k) (signal_sources (entity entities id))))
    → has_id entities mid id ≡ false
not_held_yet entities links id index old mid slice sound signal order where_it_is same absent before =
    before id
    ∙ ap (λ (b : Bool). b || list_any (λ s. reaches entities links s id) (signal_sources (entity entities id)))
    (not_held entities old slice id index sound order where_it_is same absent)
    ∙ sources_apart entities links id sound signal

-- indices that stand once, and one more that isn't among them
pub apart_more : (entities : List Entity) (id index : ℕ) (mid : List ℕ) → is_clock (entity entities id).kind ≡ false → index ≡ index_of entities id
    → has_id entities mid id ≡ false → IsRenderOrder entities mid
    → (j k : ℕ) → j < k → k < length (mid ++ index ∷ []) → get_or (mid ++ index ∷ []) j 0 ≡ get_or (mid ++ index ∷ []) k 0 → ⊥
apart_more entities id index mid signal where_it_is absent order j k less below same =
    elim (cases_lt k (length mid)) [
      | inl inside ↦
          order.apart j k less inside
          (sym (get_or-append mid (index ∷ []) 0 j (omega arith)) ∙ same ∙ get_or-append mid (index ∷ []) 0 k inside)
      | inr past ↦
          (let last : k ≡ length mid = omega (arith, length-append mid (index ∷ [])) in
          let front : j < length mid = omega arith in
          fresh j front
          (sym (get_or-append mid (index ∷ []) 0 j front) ∙ same ∙ ap (λ (i : ℕ). get_or (mid ++ index ∷ []) i 0) last ∙ get_or-append_seam mid index [] 0))
    ]
  where
    fresh : (i : ℕ) → i < length mid → get_or mid i 0 ≡ index → ⊥
    fresh i inside here =
        let named : (at entities (get_or mid i 0)).id ≡ id =
        ap (λ (p : ℕ). (at entities p).id) (here ∙ where_it_is) ∙ id_at entities id (signal_below entities id signal) in
        both_ways (has_id entities mid id) absent
        (list_any_at (λ p. eqb (at entities p).id id) mid i 0 inside (eq-eqb (at entities (get_or mid i 0)).id id named))
