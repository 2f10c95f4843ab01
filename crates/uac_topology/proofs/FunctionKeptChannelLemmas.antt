-- What is no clock puts out 1 to 32 channels.
use Rattle.std.proofs.Common.{◌≡◌, ◌∙◌, sym, ap, subst, refl, arith, ℕ, zero, suc, ◌<◌, ◌≤◌, ◌==◌, ◌&&◌, ◌||◌, Bool, true, false, nat_lt, if◌then◌else◌, List, [], ◌∷◌, Option, Some, None, length, get_or, map, slice_get, count_ones}
use Rattle.std.specs.List.{list_any}
use Rattle.std.specs.Option.{option_map, option_map_or, is_none}
use Rattle.std.proofs.lemmas.Bool.{or_parts, ltb-false}
use Rattle.uac_topology_rules.specs.Walk.{links, has_walk}
use Rattle.uac_topology_rules.proofs.WalkLemmas.{none_at}
use Rattle.uac_descriptor.specs.declared.context.Context.TheVariants as context
use Rattle.uac_entities.specs.Entities.{entities_of, no_cluster}
use Rattle.uac_entities.specs.declared.entity.Cluster.{Cluster}
use Rattle.uac_entities.specs.declared.entity.Entity.{Entity}
use Rattle.uac_entities.specs.declared.entity.EntityKind.{EntityKind}
use Rattle.uac_entities.specs.declared.entity.EntityKind.TheVariants as kind
use Rattle.uac_topology_rules.specs.Clusters.{cluster_of, cluster_step, has_own_cluster, with_own_clusters, takes_over}
use Rattle.uac_topology_rules.specs.Links.{is_clock, signal_links, signal_sources}
use Rattle.uac_topology_rules.specs.Rules.{breaks_u3, breaks_u4, breaks_u6, breaks_u8, is_output, is_silent}
use Rattle.uac_topology_rules.specs.Table.{at, first_index_of, kind_of, nothing, index_of}
use Rattle.uac_topology_rules.proofs.ClustersLemmas.{cluster_is}
use Rattle.uac_topology_rules.proofs.LinksLemmas.{signal_links-at}
use Rattle.uac_topology_rules.proofs.TableIdLemmas.{found_is}
use Rattle.uac_topology.specs.Function.{FunctionFields}
use Rattle.uac_topology.specs.FunctionKept.{has_pins, HavePins, HaveChannels}
use Rattle.uac_topology.specs.Topology.{IsSoundFunction}
use Rattle.uac_topology.proofs.ClustersLemmas.{length-with_own_clusters, with_own_clusters-at}
use Rattle.uac_topology.proofs.FunctionKeptPinLemmas.{entities_have}
use Rattle.uac_topology.proofs.TopologyRuleLemmas.{KeepsRules, rules_hold}

abbrev IsWidth : ℕ → Type 0
IsWidth channels = (1 ≤ channels) × (channels ≤ 32)

positive : (n : ℕ) → (n == 0) ≡ false → 1 ≤ n
positive zero e = absurd (cc)
positive (suc n) e = omega arith

-- an entity with a cluster of its own
own_cluster : (kd : EntityKind) → is_clock kd ≡ false → takes_over kd ≡ false → has_own_cluster kd ≡ true
own_cluster kind.InputTerminal c t = refl
own_cluster kind.Mixer c t = refl
own_cluster kind.ClockSource c t = absurd (cc)
own_cluster kind.ClockSelector c t = absurd (cc)
own_cluster kind.ClockMultiplier c t = absurd (cc)
own_cluster kind.OutputTerminal c t = absurd (cc)
own_cluster kind.Selector c t = absurd (cc)
own_cluster kind.Feature c t = absurd (cc)
own_cluster kind.Effect c t = absurd (cc)

-- what takes over a cluster has a pin
taker : (kd : EntityKind) → takes_over kd ≡ true → has_pins kd ≡ true
taker kind.OutputTerminal t = refl
taker kind.Selector t = refl
taker kind.Feature t = refl
taker kind.Effect t = refl
taker kind.InputTerminal t = absurd (cc)
taker kind.Mixer t = absurd (cc)
taker kind.ClockSource t = absurd (cc)
taker kind.ClockSelector t = absurd (cc)
taker kind.ClockMultiplier t = absurd (cc)

-- a source of an entity is an entity that puts out a signal: no clock entity and no output terminal
pub source_there : (es : List Entity) → KeepsRules es → (k i : ℕ) → k < length es → i < length (signal_sources (at es k))
    → (index_of es (get_or (signal_sources (at es k)) i 0) < length es)
    × (is_clock (at es (index_of es (get_or (signal_sources (at es k)) i 0))).kind ≡ false)
    × (is_output (at es (index_of es (get_or (signal_sources (at es k)) i 0))).kind ≡ false)
unfolding breaks_u3 breaks_u4 kind_of
source_there es h k i below inside =
    let s = get_or (signal_sources (at es k)) i 0 in
    by s (first_index_of es s) refl
    (none_at (λ id. is_none (kind_of es id)) (signal_sources (at es k)) i 0 inside (h.u3 k below))
    (none_at (λ id. is_silent (kind_of es id)) (signal_sources (at es k)) i 0 inside (h.u4 k below))
  where
    by : (s : ℕ) (o : Option ℕ) → first_index_of es s ≡ o → is_none (option_map (λ p. (at es p).kind) (first_index_of es s)) ≡ false
        → is_silent (option_map (λ p. (at es p).kind) (first_index_of es s)) ≡ false
        → (index_of es s < length es) × (is_clock (at es (index_of es s)).kind ≡ false) × (is_output (at es (index_of es s)).kind ≡ false)
    by s None e some loud =
        let no : true ≡ false = ap (λ o. is_none (option_map (λ (p : ℕ). (at es p).kind) o)) (sym e) ∙ some in absurd (cc)
    by s (Some p) e some loud =
        let is = found_is es s p (sym e) in
        let silent = or_parts _ _ (ap (λ o. is_silent (option_map (λ (q : ℕ). (at es q).kind) o)) (sym e) ∙ loud) in (
          omega (arith, is.0, is.1),
          ap (λ (q : ℕ). is_clock (at es q).kind) is.1 ∙ silent.0,
          ap (λ (q : ℕ). is_output (at es q).kind) is.1 ∙ silent.1,
        )

module _ (es : List Entity) (h : KeepsRules es) (have : HavePins es) where
  -- the links of an entity, by its sources
  sources_at : (k : ℕ) → k < length es → is_clock (at es k).kind ≡ false → links (signal_links es) k ≡ map (index_of es) (at es k).sources
  unfolding signal_sources
  sources_at k below signal = signal_links-at es k below ∙ ap (λ (b : Bool). map (index_of es) (if b then [] else (at es k).sources)) signal

  own_channels : (k : ℕ) → k < length es → is_clock (at es k).kind ≡ false → takes_over (at es k).kind ≡ false → IsWidth (cluster_of es k).channels
  unfolding breaks_u6 breaks_u8 cluster_step
  own_channels k below signal takes =
      let own : cluster_of es k ≡ (at es k).cluster =
      cluster_is es k (h.u6 k below)
      ∙ ap (λ (b : Bool). if b then option_map_or (cluster_of es) (slice_get (links (signal_links es) k) 0) no_cluster else (at es k).cluster) takes in
      let c = (at es k).cluster.channels in
      let rule : (c == 0 || (nat_lt 32 c || nat_lt c (count_ones (at es k).cluster.locations))) ≡ false =
      ap (λ (b : Bool). b && (c == 0 || (nat_lt 32 c || nat_lt c (count_ones (at es k).cluster.locations)))) (sym (own_cluster (at es k).kind signal takes)) ∙ h.u8 k below in
      let some = (or_parts _ _ rule).0 in
      subst (λ (d : Cluster). IsWidth d.channels) (sym own) (positive c some, ltb-false 32 c (or_parts _ _ (or_parts _ _ rule).1).0)

  -- along the signal links
  width_at : (n k : ℕ) → k < length es → has_walk (signal_links es) n k ≡ false → is_clock (at es k).kind ≡ false → IsWidth (cluster_of es k).channels
  unfolding has_walk signal_sources breaks_u6 cluster_step at
  width_at zero k below ends signal = absurd (cc)
  width_at (suc n) k below ends signal = by_takes (takes_over (at es k).kind) refl (λ p. width_at n p)
    where
      here : list_any (has_walk (signal_links es) n) (map (index_of es) (at es k).sources) ≡ false
      here = ap (list_any (has_walk (signal_links es) n)) (sym (sources_at k below signal)) ∙ ends

      there : (i : ℕ) → i < length (at es k).sources
          → (index_of es (get_or (at es k).sources i 0) < length es) × (is_clock (at es (index_of es (get_or (at es k).sources i 0))).kind ≡ false)
      there =
          subst (λ (sources : List ℕ). (i : ℕ) → i < length sources
          → (index_of es (get_or sources i 0) < length es) × (is_clock (at es (index_of es (get_or sources i 0))).kind ≡ false))
          (ap (λ (b : Bool). if b then [] else (at es k).sources) signal) (λ i inside. let found = source_there es h k i below inside in (found.0, found.1))

      taken_over : takes_over (at es k).kind ≡ true
          → cluster_of es k ≡ option_map_or (cluster_of es) (slice_get (links (signal_links es) k) 0) no_cluster
      taken_over takes =
          cluster_is es k (h.u6 k below)
          ∙ ap (λ (b : Bool). if b then option_map_or (cluster_of es) (slice_get (links (signal_links es) k) 0) no_cluster else (at es k).cluster) takes

      first : (sources : List ℕ) → 1 ≤ length sources → list_any (has_walk (signal_links es) n) (map (index_of es) sources) ≡ false
          → ((i : ℕ) → i < length sources → (index_of es (get_or sources i 0) < length es) × (is_clock (at es (index_of es (get_or sources i 0))).kind ≡ false))
          → ((p : ℕ) → p < length es → has_walk (signal_links es) n p ≡ false → is_clock (at es p).kind ≡ false → IsWidth (cluster_of es p).channels)
          → IsWidth (option_map_or (cluster_of es) (slice_get (map (index_of es) sources) 0) no_cluster).channels
      first [] some none each shorter = absurd (omega arith)
      first (s ∷ rest) some none each shorter =
          let one = each 0 (omega arith) in
          shorter (index_of es s) one.0 (or_parts _ _ none).0 one.1

      by_takes : (b : Bool) → takes_over (at es k).kind ≡ b
          → ((p : ℕ) → p < length es → has_walk (signal_links es) n p ≡ false → is_clock (at es p).kind ≡ false → IsWidth (cluster_of es p).channels)
          → IsWidth (cluster_of es k).channels
      by_takes true e shorter =
          subst (λ (c : Cluster). IsWidth c.channels) (sym (taken_over e ∙ ap (λ ls. option_map_or (cluster_of es) (slice_get ls 0) no_cluster) (sources_at k below signal)))
          (first (at es k).sources ((have k nothing below).0 (taker (at es k).kind e)) here there shorter)
      by_takes false e shorter = own_channels k below signal e

  clustered_channels : HaveChannels (with_own_clusters es)
  unfolding breaks_u6
  clustered_channels k d within =
      let below : k < length es = omega (arith, within, length-with_own_clusters es) in
      subst (λ (e : Entity). is_clock e.kind ≡ false → IsWidth e.cluster.channels) (sym (with_own_clusters-at es k d below))
      (λ signal. width_at (length es) k below (whole k below) signal)
    where
      whole : (k : ℕ) → k < length es → has_walk (signal_links es) (length es) k ≡ false
      whole k below = h.u6 k below

pub have_channels : (function : FunctionFields) → IsSoundFunction function → HaveChannels function.entities
have_channels function sound =
    subst HaveChannels (sym sound.2.entities)
    (clustered_channels (entities_of sound.0) (rules_hold sound.0 sound.1) (entities_have context.DeviceFront sound.0 sound.3.fields))
