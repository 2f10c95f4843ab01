-- A sound function has a key for each control, and no clock that feeds itself.
use Rattle.std.proofs.Common.{◌≡◌, ℕ, ◌*◌, ◌<◌, ◌≤◌, zero, suc, ◌==◌, nat_lt, nat_eq, List, [], ◌∷◌, map, length, take, sum, get_or, slice_get, Option, Some, if◌then◌else◌, false, refl, ap, sym, subst, ◌∙◌, arith, ◌⊎◌, inl, inr}
use Rattle.std.specs.Option.{option_map_or}
use Rattle.std.specs.List.{IsDistinct}
use Rattle.std.proofs.lemmas.Bool.{or_parts, cases_lt, ltb-false}
use Rattle.std.proofs.lemmas.List.{length-map, length-take-le, get_or-map, get_or-take, get_or_past}
use Rattle.std.proofs.lemmas.List.Folds.{find_at}
use Rattle.std.proofs.lemmas.Map.Keys.{IsDistinct-from_apart}
use Rattle.std.proofs.lemmas.Option.{slice_get-get_or, slice_get_past}
use Rattle.uac_topology_rules.specs.Walk.{links, has_walk}
use Rattle.uac_entities.specs.Entities.{entities_of, no_cluster}
use Rattle.uac_entities.specs.EntityInterfaces.{channels_of, entity_by_id}
use Rattle.uac_entities.specs.declared.entity.Cluster.{Cluster}
use Rattle.uac_entities.specs.declared.entity.Entity.{Entity}
use Rattle.uac_entities.specs.declared.entity.EntityKind.{EntityKind}
use Rattle.uac_entities.specs.declared.entity.EntityKind.TheVariants as kind
use Rattle.uac_topology_rules.specs.Table.{at, nothing, index_of}
use Rattle.uac_topology_rules.specs.Links.{is_clock, signal_sources, clock_sources, signal_links, clock_links}
use Rattle.uac_topology_rules.specs.Clusters.{takes_over, cluster_step, cluster_within, cluster_of, with_own_clusters, pins, inputs}
use Rattle.uac_topology_rules.specs.Rules.{breaks_u2, breaks_u7, breaks_u14, too_large}
use Rattle.uac_topology_rules.proofs.LinksLemmas.{signal_links-at}
use Rattle.uac_topology.specs.Function.{FunctionFields}
use Rattle.uac_topology.specs.Topology.{IsSoundFunction}
use Rattle.uac_store.specs.ControlTable.{IsSmall}
use Rattle.uac_store.specs.StoreControls.{pins_of, IsKeyed}
use Rattle.uac_store.specs.Rates.{IsClockTree}
use Rattle.uac_topology.proofs.ClustersLemmas.{with_own_clusters-at, length-with_own_clusters, same_index, seen_alike}
use Rattle.uac_topology.proofs.TopologyRuleLemmas.{KeepsRules, rules_hold}
use Rattle.uac_store.proofs.RatesWalkLemmas.{none_passes}

no_cluster_past : (n : ℕ) (es : List Entity) (p : ℕ) → length es ≤ p → cluster_within n es p ≡ no_cluster
unfolding cluster_within cluster_step at
no_cluster_past zero es p past = refl
no_cluster_past (suc n) es p past =
    ap (λ (e : Entity). if takes_over e.kind then option_map_or (cluster_within n es) (slice_get (links (signal_links es) p) 0) no_cluster else e.cluster)
    (get_or_past es p nothing past)

module _ (es : List Entity) where
  -- the channels of an entity are those of its index
  same_channels : (id : ℕ) → channels_of (with_own_clusters es) id ≡ (cluster_of es (index_of es id)).channels
  unfolding channels_of entity_by_id index_of cluster_of
  same_channels id = ap channels (find_at (λ (e : Entity). e.id == id) (with_own_clusters es) ∙ ap (slice_get (with_own_clusters es)) (same_index es id)) ∙ from (cases_lt (index_of es id) (length es)) where
    channels : Option Entity → ℕ
    channels o = option_map_or (λ e. e.cluster.channels) o 0

    from : (index_of es id < length es) ⊎ (length es ≤ index_of es id) → channels (slice_get (with_own_clusters es) (index_of es id)) ≡ (cluster_of es (index_of es id)).channels
    from (inl below) =
        ap channels (slice_get-get_or (with_own_clusters es) (index_of es id) nothing (omega (arith, below, length-with_own_clusters es)))
        ∙ ap (λ (e : Entity). e.cluster.channels) (with_own_clusters-at es (index_of es id) nothing below)
    from (inr past) =
        ap channels (slice_get_past (with_own_clusters es) (index_of es id) (omega (arith, past, length-with_own_clusters es)))
        ∙ sym (ap (λ (c : Cluster). c.channels) (no_cluster_past (length es) es (index_of es id) past))

  pub same_pins : (ids : List ℕ) → map (λ p. (cluster_of es p).channels) (map (index_of es) ids) ≡ map (channels_of (with_own_clusters es)) ids
  same_pins [] = refl
  same_pins (id ∷ ids) = λ j. sym (same_channels id) j ∷ same_pins ids j

  module _ (h : KeepsRules es) where
    ids_apart : IsDistinct nat_eq (map (λ e. e.id) es)
    unfolding breaks_u2 at
    ids_apart = IsDistinct-from_apart nat_eq (map (λ e. e.id) es) (λ i j d before within.
        let below : j < length es = omega (arith, within, length-map es (λ (e : Entity). e.id)) in
        let early : i < length es = omega (arith, before, below) in
        let earlier : slice_get (take j es) i ≡ Some (at es i) =
        slice_get-get_or (take j es) i nothing (omega (arith, before, below, length-take-le j es)) ∙ ap (λ (e : Entity). Some e) (get_or-take j es i nothing before) in
        subst (λ n. nat_eq n (get_or (map (λ e. e.id) es) j d) ≡ false) (sym (get_or-map (λ (e : Entity). e.id) es i nothing d early))
        (subst (λ n. nat_eq (at es i).id n ≡ false) (sym (get_or-map (λ (e : Entity). e.id) es j nothing d below))
        (none_passes (λ (e : Entity). e.id == (at es j).id) (take j es) i (at es i) (h.u2 j below) earlier)))

    -- a mixer's inputs and nodes
    small_at : (k : ℕ) → k < length es → (kd : EntityKind) → (at es k).kind ≡ kd
        → IsSmall kd (sum (map (channels_of (with_own_clusters es)) (at es k).sources)) (cluster_of es k).channels
    unfolding breaks_u14 pins signal_sources
    small_at k below kind.Mixer is =
        let limits = (or_parts _ _ (h.u14 k below)).0 in
        let sizes = or_parts _ _ (ap (λ kd. too_large kd (nat_lt 256 (inputs es k)) (nat_lt 256 (inputs es k * (cluster_of es k).channels))) (sym is) ∙ limits) in
        let sources : links (signal_links es) k ≡ map (index_of es) (at es k).sources =
        signal_links-at es k below ∙ ap (λ kd. map (index_of es) (if is_clock kd then [] else (at es k).sources)) is in
        let total : inputs es k ≡ sum (map (channels_of (with_own_clusters es)) (at es k).sources) =
        ap (λ ls. sum (map (λ p. (cluster_of es p).channels) ls)) sources ∙ ap sum (same_pins (at es k).sources) in (
          subst (λ n. n ≤ 256) total (ltb-false 256 (inputs es k) sizes.0),
          subst (λ n. n * (cluster_of es k).channels ≤ 256) total (ltb-false 256 (inputs es k * (cluster_of es k).channels) sizes.1),
        )
    small_at k below kind.ClockSource is = tt
    small_at k below kind.ClockSelector is = tt
    small_at k below kind.ClockMultiplier is = tt
    small_at k below kind.InputTerminal is = tt
    small_at k below kind.OutputTerminal is = tt
    small_at k below kind.Selector is = tt
    small_at k below kind.Feature is = tt
    small_at k below kind.Effect is = tt

    keyed_entities : IsKeyed (with_own_clusters es)
    unfolding pins_of
    keyed_entities = record {
      apart = subst (IsDistinct nat_eq) (sym (seen_alike es 0 (λ e. e.id) (λ e c. refl))) ids_apart;
      small = λ k d within.
          let below : k < length es = omega (arith, within, length-with_own_clusters es) in
          subst (λ (e : Entity). IsSmall e.kind (sum (pins_of (with_own_clusters es) e)) e.cluster.channels) (sym (with_own_clusters-at es k d below))
          (small_at k below (at es k).kind refl);
    }

    same_links : clock_links (with_own_clusters es) ≡ clock_links es
    unfolding clock_sources
    same_links =
        (λ j. map (λ e. map (λ id. same_index es id j) (clock_sources e)) (with_own_clusters es))
        ∙ seen_alike es [] (λ e. map (index_of es) (clock_sources e)) (λ e c. refl)

    clocks_end : IsClockTree (with_own_clusters es)
    unfolding breaks_u7
    clocks_end index within =
        let below : index < length es = omega (arith, within, length-with_own_clusters es) in
        (λ j. has_walk (same_links j) (length-with_own_clusters es j) index) ∙ h.u7 index below

pub keyed : (function : FunctionFields) → IsSoundFunction function → IsKeyed function.entities
keyed function sound = subst IsKeyed (sym sound.2.entities) (keyed_entities (entities_of sound.0) (rules_hold sound.0 sound.1))

pub clock_tree : (function : FunctionFields) → IsSoundFunction function → IsClockTree function.entities
clock_tree function sound = subst IsClockTree (sym sound.2.entities) (clocks_end (entities_of sound.0) (rules_hold sound.0 sound.1))
