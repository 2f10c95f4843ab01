-- A sound function has a signal graph.
use Rattle.std.proofs.Common.{◌≡◌, ◌∙◌, sym, ap, subst, refl, arith, ℕ, ◌*◌, ◌<◌, ◌≤◌, ◌==◌, ◌&&◌, not, Bool, true, false, eqb, nat_lt, if◌then◌else◌, List, [], ◌∷◌, length, get_or, map, take, slice_get}
use Rattle.std.specs.List.{All, list_any}
use Rattle.std.specs.Option.{option_map_or}
use Rattle.std.proofs.lemmas.Bool.{eqb-true, eq-eqb, or_parts, ltb-false}
use Rattle.std.proofs.lemmas.List.{get_or_default, get_or-take, length-take-le}
use Rattle.std.proofs.lemmas.List.Sums.{position_or_len_is}
use Rattle.uac_topology_rules.specs.Walk.{links, has_walk}
use Rattle.uac_topology_rules.proofs.WalkLemmas.{none_at}
use Rattle.uac_entities.specs.Entities.{entities_of, no_cluster}
use Rattle.uac_entities.specs.declared.entity.Cluster.{Cluster}
use Rattle.uac_entities.specs.declared.entity.Entity.{Entity}
use Rattle.uac_entities.specs.declared.entity.EntityKind.{EntityKind}
use Rattle.uac_entities.specs.declared.entity.EntityKind.TheVariants as kind
use Rattle.uac_topology_rules.specs.Clusters.{cluster_of, cluster_step, with_own_clusters, inputs, pins, takes_over}
use Rattle.uac_topology_rules.specs.Links.{is_clock, signal_links, signal_sources}
use Rattle.uac_topology_rules.specs.Rules.{breaks_u2, breaks_u6, breaks_u10, breaks_u14, is_output, is_selector, too_large}
use Rattle.uac_topology_rules.specs.Table.{at, nothing, index_of, with_cluster}
use Rattle.uac_topology_rules.proofs.ClustersLemmas.{cluster_is}
use Rattle.uac_topology.specs.Function.{FunctionFields}
use Rattle.uac_topology.specs.FunctionKept.{HaveChannels}
use Rattle.uac_topology.specs.Topology.{IsSoundFunction}
use Rattle.uac_store.specs.StoreControls.{pins_of}
use Rattle.uac_topology.proofs.ClustersLemmas.{with_own_clusters-at, length-with_own_clusters, same_index, seen_alike}
use Rattle.uac_topology.proofs.FunctionKeptChannelLemmas.{have_channels, source_there}
use Rattle.uac_topology.proofs.TopologyRuleLemmas.{KeepsRules, rules_hold}
use Rattle.uac_store.proofs.StoreControlsSoundLemmas.{same_pins}
use Rattle.uac_graph.specs.Fitness.{FitsPins, IsSignalGraph}
use Rattle.uac_graph.specs.Meaning.{entity}
use Rattle.uac_graph.proofs.LinksLemmas.{links_at}
use Rattle.uac_graph.proofs.EntitiesLemmas.{IsOne, one_source}

-- the entities keep the rules, those whose blocks name one source have one, and with their clusters they have channels
module _ (es : List Entity) (h : KeepsRules es) (one : (k : ℕ) → k < length es → IsOne (at es k).kind (at es k).sources)
    (have : HaveChannels (with_own_clusters es)) where
  -- an id names the entity that has it
  first_index : (k : ℕ) → k < length es → index_of es (at es k).id ≡ k
  unfolding breaks_u2 at index_of
  first_index k below =
      position_or_len_is (λ (e : Entity). eqb e.id (at es k).id) es k nothing (omega arith)
      (λ j before.
      let early : j < length (take k es) = omega (arith, length-take-le k es) in
      ap (λ (e : Entity). eqb e.id (at es k).id) (sym (get_or-take k es j nothing before))
      ∙ none_at (λ (e : Entity). eqb e.id (at es k).id) (take k es) j nothing early (h.u2 k below))
      (λ _. eq-eqb (at es k).id (at es k).id refl)

  -- the links of an entity, by its sources
  sources_at : (k : ℕ) → is_clock (at es k).kind ≡ false → links (signal_links es) k ≡ map (index_of es) (at es k).sources
  unfolding signal_sources
  sources_at k signal = links_at es k ∙ ap (λ (b : Bool). map (index_of es) (if b then [] else (at es k).sources)) signal

  -- an entity that takes over a cluster has that of its first source
  taken_over : (k : ℕ) → k < length es → takes_over (at es k).kind ≡ true
      → cluster_of es k ≡ option_map_or (cluster_of es) (slice_get (links (signal_links es) k) 0) no_cluster
  unfolding breaks_u6 cluster_step
  taken_over k below takes =
      cluster_is es k (h.u6 k below)
      ∙ ap (λ (b : Bool). if b then option_map_or (cluster_of es) (slice_get (links (signal_links es) k) 0) no_cluster else (at es k).cluster) takes

  -- an entity with one source has its cluster
  one_pin : (k : ℕ) → k < length es → is_clock (at es k).kind ≡ false → takes_over (at es k).kind ≡ true → length (at es k).sources ≡ 1
      → pins es k ≡ (cluster_of es k).channels ∷ []
  unfolding pins
  one_pin k below signal takes one =
      by (at es k).sources one (sources_at k signal) ∙ sym (ap (λ (c : Cluster). c.channels ∷ []) (taken_over k below takes))
    where
      by : (sources : List ℕ) → length sources ≡ 1 → links (signal_links es) k ≡ map (index_of es) sources
          → pins es k ≡ (option_map_or (cluster_of es) (slice_get (links (signal_links es) k) 0) no_cluster).channels ∷ []
      by [] o e = absurd (cc)
      by (s ∷ []) o e =
          ap (map (λ p. (cluster_of es p).channels)) e
          ∙ sym (ap (λ ls. (option_map_or (cluster_of es) (slice_get ls 0) no_cluster).channels ∷ []) e)
      by (s ∷ t ∷ rest) o e = absurd (omega arith)

  -- the entity at an index, with its cluster
  at_clustered : (k : ℕ) → k < length es → at (with_own_clusters es) k ≡ with_cluster (at es k) (cluster_of es k)
  unfolding at
  at_clustered k below = with_own_clusters-at es k nothing below

  -- a source, with its cluster
  entity_clustered : (s : ℕ) → index_of es s < length es → entity (with_own_clusters es) s ≡ with_cluster (at es (index_of es s)) (cluster_of es (index_of es s))
  unfolding entity
  entity_clustered s below = ap (at (with_own_clusters es)) (same_index es s) ∙ at_clustered (index_of es s) below

  -- the pins of the entities with their clusters
  pins_clustered : (k : ℕ) → is_clock (at es k).kind ≡ false → pins es k ≡ pins_of (with_own_clusters es) (at es k)
  unfolding pins pins_of
  pins_clustered k signal = ap (map (λ p. (cluster_of es p).channels)) (sources_at k signal) ∙ same_pins es (at es k).sources

  -- a selector has pins
  some_pins : (k : ℕ) → k < length es → is_clock (at es k).kind ≡ false → takes_over (at es k).kind ≡ true → 0 < length (pins es k)
  unfolding pins at
  some_pins k below signal takes = by (links (signal_links es) k) refl
    where
      some : 1 ≤ (cluster_of es k).channels
      some =
          (subst (λ (e : Entity). is_clock e.kind ≡ false → (1 ≤ e.cluster.channels) × (e.cluster.channels ≤ 32)) (at_clustered k below)
          (have k nothing (omega (arith, below, length-with_own_clusters es))) signal).0

      by : (ls : List ℕ) → links (signal_links es) k ≡ ls → 0 < length (map (λ p. (cluster_of es p).channels) (links (signal_links es) k))
      by [] e =
          let none : (cluster_of es k).channels ≡ 0 =
          ap (λ (c : Cluster). c.channels) (taken_over k below takes)
          ∙ ap (λ ls. (option_map_or (cluster_of es) (slice_get ls 0) no_cluster).channels) e in
          absurd (omega (arith, some, none))
      by (p ∷ rest) e = omega (arith, ap (λ ls. length (map (λ p. (cluster_of es p).channels) ls)) e)

  same_number : (a b : ℕ) → not (a == b) ≡ false → a ≡ b
  same_number a b e = by (a == b) refl e
    where
      by : (t : Bool) → (a == b) ≡ t → not t ≡ false → a ≡ b
      by true e n = eqb-true a b e
      by false e n = absurd (cc)

  -- pins fit
  fits_at : (k : ℕ) → k < length es → (kd : EntityKind) → (at es k).kind ≡ kd → FitsPins kd (cluster_of es k).channels (pins es k)
  unfolding breaks_u10 breaks_u14
  fits_at k below kind.Mixer is =
      let limits = (or_parts _ _ (h.u14 k below)).0 in
      let sizes = or_parts _ _ (ap (λ kd. too_large kd (nat_lt 256 (inputs es k)) (nat_lt 256 (inputs es k * (cluster_of es k).channels))) (sym is) ∙ limits) in
      (ltb-false 256 (inputs es k) sizes.0, ltb-false 256 (inputs es k * (cluster_of es k).channels) sizes.1)
  fits_at k below kind.Selector is =
      let limits = (or_parts _ _ (h.u14 k below)).0 in
      let size = ap (λ kd. too_large kd (nat_lt 256 (inputs es k)) (nat_lt 256 (inputs es k * (cluster_of es k).channels))) (sym is) ∙ limits in
      let each = ap (λ kd. is_selector kd && list_any (λ n. not (n == (cluster_of es k).channels)) (pins es k)) (sym is) ∙ h.u10 k below in (
        ltb-false 256 (inputs es k) size,
        some_pins k below (ap is_clock is) (ap takes_over is),
        λ i d inside. same_number _ _ (none_at (λ n. not (n == (cluster_of es k).channels)) (pins es k) i d inside each),
      )
  fits_at k below kind.Feature is =
      one_pin k below (ap is_clock is) (ap takes_over is) (subst (λ kd. IsOne kd (at es k).sources) is (one k below))
  fits_at k below kind.Effect is =
      one_pin k below (ap is_clock is) (ap takes_over is) (subst (λ kd. IsOne kd (at es k).sources) is (one k below))
  fits_at k below kind.OutputTerminal is =
      one_pin k below (ap is_clock is) (ap takes_over is) (subst (λ kd. IsOne kd (at es k).sources) is (one k below))
  fits_at k below kind.InputTerminal is = tt
  fits_at k below kind.ClockSource is = tt
  fits_at k below kind.ClockSelector is = tt
  fits_at k below kind.ClockMultiplier is = tt

  -- the same links
  same_links : signal_links (with_own_clusters es) ≡ signal_links es
  unfolding signal_sources
  same_links =
      (λ j. map (λ e. map (λ id. same_index es id j) (signal_sources e)) (with_own_clusters es))
      ∙ seen_alike es [] (λ e. map (index_of es) (signal_sources e)) (λ e c. refl)

  -- what holds of no source, seen with its cluster
  sources_keep : (test : EntityKind → Bool)
      → ((k i : ℕ) → k < length es → i < length (signal_sources (at es k)) → test (at es (index_of es (get_or (signal_sources (at es k)) i 0))).kind ≡ false)
      → (k : ℕ) → k < length (with_own_clusters es) → All (λ s. test (entity (with_own_clusters es) s).kind ≡ false) (signal_sources (at (with_own_clusters es) k))
  unfolding signal_sources
  sources_keep test none k within =
      let below : k < length es = omega (arith, within, length-with_own_clusters es) in
      subst (λ (e : Entity). All (λ s. test (entity (with_own_clusters es) s).kind ≡ false) (signal_sources e)) (sym (at_clustered k below))
      (λ i d inside.
      let s = get_or (signal_sources (at es k)) i 0 in
      subst (λ (n : ℕ). test (entity (with_own_clusters es) n).kind ≡ false) (get_or_default (signal_sources (at es k)) i 0 d inside)
      (ap (λ (e : Entity). test e.kind) (entity_clustered s (source_there es h k i below inside).0) ∙ none k i below inside))

  graph : IsSignalGraph (with_own_clusters es)
  unfolding breaks_u6 signal_sources pins_of at
  graph = record {
    distinct = λ k within.
        let below : k < length es = omega (arith, within, length-with_own_clusters es) in
        ap (λ (e : Entity). index_of (with_own_clusters es) e.id) (at_clustered k below) ∙ same_index es (at es k).id ∙ first_index k below;
    heard = sources_keep is_clock (λ k i below inside. (source_there es h k i below inside).1);
    no_ends = sources_keep is_output (λ k i below inside. (source_there es h k i below inside).2);
    acyclic = λ k within.
        let below : k < length es = omega (arith, within, length-with_own_clusters es) in
        (λ j. has_walk (same_links j) (length-with_own_clusters es j) k) ∙ h.u6 k below;
    some = λ k within signal. (have k nothing within signal).0;
    most = λ k within signal. (have k nothing within signal).1;
    fits = λ k within.
        let below : k < length es = omega (arith, within, length-with_own_clusters es) in
        subst (λ (e : Entity). FitsPins e.kind e.cluster.channels (pins_of (with_own_clusters es) e)) (sym (at_clustered k below))
        (by_signal k below (is_clock (at es k).kind) refl);
  }
    where
      clock_fits : (kd : EntityKind) (channels : ℕ) (sizes : List ℕ) → is_clock kd ≡ true → FitsPins kd channels sizes
      clock_fits kind.ClockSource channels sizes e = tt
      clock_fits kind.ClockSelector channels sizes e = tt
      clock_fits kind.ClockMultiplier channels sizes e = tt
      clock_fits _ channels sizes e = absurd (cc)

      by_signal : (k : ℕ) → k < length es → (b : Bool) → is_clock (at es k).kind ≡ b
          → FitsPins (at es k).kind (cluster_of es k).channels (pins_of (with_own_clusters es) (at es k))
      by_signal k below false signal =
          subst (FitsPins (at es k).kind (cluster_of es k).channels) (pins_clustered k signal) (fits_at k below (at es k).kind refl)
      by_signal k below true clock = clock_fits (at es k).kind (cluster_of es k).channels (pins_of (with_own_clusters es) (at es k)) clock

pub sound_graph : (function : FunctionFields) → IsSoundFunction function → IsSignalGraph function.entities
unfolding at
sound_graph function sound =
    subst IsSignalGraph (sym sound.2.entities)
    (graph (entities_of sound.0) (rules_hold sound.0 sound.1) (one_source sound.0 nothing) (subst HaveChannels sound.2.entities (have_channels function sound)))
