-- A device just after the descriptor's end.
use Rattle.std.proofs.Common.{◌≡◌, ◌∙◌, sym, ap, subst, refl, ℕ, ◌≤◌, ◌==◌, ◌&&◌, eqb, not, Bool, true, false, List, [], ◌∷◌, map, get_or, None, inl, inr}
use Rattle.std.specs.List.{All, AllByRecursion, IsDistinct, filter, filter_map}
use Rattle.std.proofs.lemmas.Bool.{cases_Bool, eqb-false, ne_eqb}
use Rattle.std.proofs.lemmas.List.{get_or_default}
use Rattle.std.proofs.lemmas.List.Elements.{All-filter, All-map, filter_passes}
use Rattle.std.proofs.lemmas.Map.Keys.{IsDistinct-head, IsDistinct-tail, IsDistinct-cons}
use Rattle.uac_entities.specs.declared.entity.Entity.{Entity}
use Rattle.uac_entities.specs.declared.entity.EntityKind.{EntityKind}
use Rattle.uac_entities.specs.declared.entity.EntityKind.TheVariants as kind
use Rattle.uac_topology_rules.specs.Clusters.{is_input}
use Rattle.uac_topology_rules.specs.Domains.{clock_named, domains_of, each_once}
use Rattle.uac_topology_rules.specs.Links.{is_clock}
use Rattle.uac_topology_rules.specs.Table.{at, nothing}
use Rattle.uac_entities.specs.Entities.{entities_of}
use Rattle.uac_topology.specs.Function.{FunctionFields}
use Rattle.uac_topology.specs.Topology.{IsSoundFunction}
use Rattle.uac_graph.proofs.FitnessLemmas.{sound_graph}
use Rattle.uac_units.specs.Hearing.{Reading}
use Rattle.uac_graph.specs.Fitness.{IsSignalGraph}
use Rattle.uac_graph.specs.Meaning.{entity}
use Rattle.uac_device.specs.DeviceKept as device
use Rattle.uac_device.specs.DeviceWorld.{resting_domain, fresh, is_input_jack, is_jack}
use Rattle.uac_streaming.specs.StreamingKept as streaming
use Rattle.uac_streaming.specs.StreamingWorld.{streaming_start}
use Rattle.uac_mixer.specs.ViewWorld.{known_view}
use Rattle.uac_mixer.proofs.ReadingLemmas.{function_kept}
use Rattle.uac_store.specs.StoreControls.{initial_controls}
use Rattle.uac_topology.specs.Configuration.{configuration_of}
use Rattle.uac_running.specs.declared.counts.TickCount.{TickCount}
use Rattle.uac_device.specs.declared.jacks.Jack.{Jack}
use Rattle.uac_running.specs.RunningKept.{HasItsDomains, HasItsJacks, RunningFields, RunningStandsBetween}
use Rattle.uac_running.specs.TickCounts.{tick_count_of, none_counted}
use Rattle.uac_running.specs.RunningWorld.{at_start, silent_jack}
use Rattle.uac_running.proofs.RunningKeptLemmas.{clocks_of}
use Rattle.uac_streaming.proofs.RoomStartLemmas.{fresh_room}

-- no domain has ticked
pub counts-rest : (clocks : List ℕ) → map none_counted clocks ≡ map tick_count_of (map resting_domain clocks)
counts-rest [] = refl
counts-rest (c ∷ cs) = ap (λ (ns : List TickCount). none_counted c ∷ ns) (counts-rest cs)

pub clocks-none : (clocks : List ℕ) → clocks_of (map none_counted clocks) ≡ clocks
clocks-none [] = refl
clocks-none (c ∷ cs) = ap (λ (ns : List ℕ). c ∷ ns) (clocks-none cs)

-- ---- each domain once

apart-left : (n : ℕ) (ms : List ℕ) → AllByRecursion (λ y. eqb n y ≡ false) (filter (λ m. not (m == n)) ms)
apart-left n [] = tt
apart-left n (m ∷ ms) =
    elim (cases_Bool (m == n)) [
      | inl same ↦ rw same (apart-left n ms)
      | inr other ↦ rw other ((ne_eqb n m (λ e. eqb-false m n other (sym e)), apart-left n ms))
    ]

all-left : (P : ℕ → Type 0) (p : ℕ → Bool) (ms : List ℕ) → AllByRecursion P ms → AllByRecursion P (filter p ms)
all-left P p [] all = tt
all-left P p (m ∷ ms) all =
    elim (cases_Bool (p m)) [ inl passes ↦ rw passes ((all.0, all-left P p ms all.1)) | inr fails ↦ rw fails (all-left P p ms all.1) ]

distinct-left : (p : ℕ → Bool) (ms : List ℕ) → IsDistinct eqb ms → IsDistinct eqb (filter p ms)
distinct-left p [] once = once
distinct-left p (m ∷ ms) once =
    let rest = distinct-left p ms (IsDistinct-tail eqb m ms once) in
    elim (cases_Bool (p m)) [
      | inl passes ↦ rw passes (IsDistinct-cons eqb m (filter p ms) (all-left (λ y. eqb m y ≡ false) p ms (IsDistinct-head eqb m ms once)) rest)
      | inr fails ↦ rw fails rest
    ]

pub distinct-once : (ns : List ℕ) → IsDistinct eqb (each_once ns)
unfolding each_once IsDistinct
distinct-once [] = tt
distinct-once (n ∷ ns) = (apart-left n (each_once ns), distinct-left (λ m. not (m == n)) (each_once ns) (distinct-once ns))

-- ---- the input jacks

-- what is used of an entity
record IsKnown (entities : List Entity) (e : Entity) : Type 0 where
  same : entity entities e.id ≡ e
  most : is_clock e.kind ≡ false → e.cluster.channels ≤ 32

all_known : (entities : List Entity) → IsSignalGraph entities → All (IsKnown entities) entities
unfolding entity at
all_known entities graph k d below =
    let is : get_or entities k d ≡ at entities k = get_or_default entities k d nothing below in
    subst (IsKnown entities) (sym is) (record { same = ap (at entities) (graph.distinct k below); most = graph.most k below })

input_no_clock : (k : EntityKind) (b : Bool) → (is_input k && b) ≡ true → is_clock k ≡ false
input_no_clock kind.InputTerminal b h = refl
input_no_clock kind.ClockSource b h = cc
input_no_clock kind.ClockSelector b h = cc
input_no_clock kind.ClockMultiplier b h = cc
input_no_clock kind.OutputTerminal b h = cc
input_no_clock kind.Mixer b h = cc
input_no_clock kind.Selector b h = cc
input_no_clock kind.Feature b h = cc
input_no_clock kind.Effect b h = cc

module _ (entities : List Entity) (graph : IsSignalGraph entities) where
  known : All (IsKnown entities) (filter is_input_jack entities)
  known = All-filter is_input_jack (IsKnown entities) entities (all_known entities graph)

  input : All (λ e. is_input_jack e ≡ true) (filter is_input_jack entities)
  input = filter_passes is_input_jack entities

  pub kinds-silent : All (λ j. is_input_jack (entity entities j.terminal) ≡ true) (map silent_jack (filter is_input_jack entities))
  kinds-silent =
      All-map (λ j. is_input_jack (entity entities j.terminal) ≡ true) silent_jack (filter is_input_jack entities)
      (λ k d below. ap is_input_jack (known k d below).same ∙ input k d below)

  pub channels-silent : All (λ j. (entity entities j.terminal).cluster.channels ≡ j.channels) (map silent_jack (filter is_input_jack entities))
  channels-silent =
      All-map (λ j. (entity entities j.terminal).cluster.channels ≡ j.channels) silent_jack (filter is_input_jack entities)
      (λ k d below. ap (λ (e : Entity). e.cluster.channels) (known k d below).same)

  pub most-silent : All (λ j. j.channels ≤ 32) (map silent_jack (filter is_input_jack entities))
  most-silent =
      All-map (λ j. j.channels ≤ 32) silent_jack (filter is_input_jack entities)
      (λ k d below.
      let e = get_or (filter is_input_jack entities) k d in
      (known k d below).most (input_no_clock e.kind (is_jack e) (input k d below)))

-- ---- all of it

module _ (function : FunctionFields) (sound : IsSoundFunction function) (p : RunningFields) (fresh_now : device.DeviceStands p.device (fresh function))
    (jacks : p.jacks ≡ map silent_jack (filter is_input_jack function.entities)) (counts : p.counts ≡ map none_counted function.domains) where
  own : function ≡ p.device.function
  own = sym (function_kept function p.device fresh_now)

  pub jacks_start : HasItsJacks p
  jacks_start =
      let graph : IsSignalGraph function.entities = sound_graph function sound in
      record {
        kinds = subst (λ (f : FunctionFields). All (λ (j : Jack). is_input_jack (entity f.entities j.terminal) ≡ true) p.jacks) own
            (subst (λ (js : List Jack). All (λ (j : Jack). is_input_jack (entity function.entities j.terminal) ≡ true) js) (sym jacks) (kinds-silent function.entities graph));
        channels = subst (λ (f : FunctionFields). All (λ (j : Jack). (entity f.entities j.terminal).cluster.channels ≡ j.channels) p.jacks) own
            (subst (λ (js : List Jack). All (λ (j : Jack). (entity function.entities j.terminal).cluster.channels ≡ j.channels) js) (sym jacks) (channels-silent function.entities graph));
        most = subst (λ (js : List Jack). All (λ (j : Jack). j.channels ≤ 32) js) (sym jacks) (most-silent function.entities graph);
      }

  each_domain_once : IsDistinct eqb function.domains
  unfolding domains_of
  each_domain_once = subst (IsDistinct eqb) (sym sound.2.domains) (distinct-once (filter_map clock_named (entities_of sound.0)))

  pub domains_start : HasItsDomains p
  domains_start = record {
    counted = ap clocks_of counts ∙ clocks-none function.domains ∙ ap (λ (f : FunctionFields). f.domains) own;
    once = subst (IsDistinct eqb) (sym (ap clocks_of counts ∙ clocks-none function.domains)) each_domain_once;
  }

  pub stands_start : streaming.StreamingStands p.streaming p.device (streaming_start function) → p.view ≡ known_view function.entities (initial_controls function.entities) → p.breaks ≡ None
      → p.time ≡ 0 → p.detail ≡ 0 → p.renders ≡ 0 → (descriptor : List ℕ) (meters : List Reading) → p.configuration ≡ configuration_of descriptor
      → RunningStandsBetween p meters (at_start descriptor function meters)
  unfolding at_start fresh streaming_start
  stands_start streams view breaks time detail renders descriptor meters bytes = record {
    now = record {
      streaming = streams;
      view = view;
      configuration = bytes;
      breaks = breaks;
      jacks = jacks;
      counts = counts ∙ counts-rest function.domains;
      time = time;
      detail = detail;
      meters = refl;
      renders = renders;
    };
    room = fresh_room function sound;
  }
