-- An entity, its sources, and what it reaches.
use Rattle.std.proofs.Common.{◌≡◌, ◌∙◌, sym, ap, subst, refl, arith, ℕ, zero, suc, ◌-◌, ◌<◌, ◌≤◌, Bool, true, false, ◌||◌, eqb, ℤ, List, [], Option, Some, None, length, get_or, map, unwrap_or}
use Rattle.std.specs.List.{list_any}
use Rattle.std.specs.Option.{option_map}
use Rattle.std.proofs.lemmas.Bool.{eq-eqb}
use Rattle.std.proofs.lemmas.Simd.{map-map}
use Rattle.std.proofs.lemmas.List.FromFn.{length-map-range_with_len}
use Rattle.uac_topology_rules.specs.Walk.{has_walk}
use Rattle.uac_entities.specs.declared.entity.Entity.{Entity}
use Rattle.uac_entities.specs.declared.entity.EntityKind.{EntityKind}
use Rattle.uac_entities.specs.declared.entity.EntityKind.TheVariants as kind
use Rattle.uac_topology_rules.specs.Clusters.{is_input}
use Rattle.uac_topology_rules.specs.Links.{is_clock, signal_links, signal_sources}
use Rattle.uac_topology_rules.specs.Table.{at, index_of}
use Rattle.uac_graph.specs.GraphControls.{Controls}
use Rattle.uac_entities.specs.EntityInterfaces.{channels_of}
use Rattle.uac_store.specs.StoreControls.{pins_of}
use Rattle.uac_graph.specs.Fitness.{FitsPins, IsSignalGraph}
use Rattle.uac_graph.specs.Jobs.{FitsFrames, takes_signal}
use Rattle.uac_graph.specs.Meaning.{entity, frame_of, sample_of}
use Rattle.uac_graph.specs.Needs.{reaches}
use Rattle.uac_graph.specs.Wiring.{AreWiresOf, Frames, frame_on, samples_on}
use Rattle.uac_topology_rules.proofs.TableLemmas.{channels_placed}
use Rattle.uac_topology_rules.proofs.SignalsLemmas.{map_same}
use Rattle.uac_graph.proofs.LinksLemmas.{source_ends}
use Rattle.uac_graph.proofs.WiringWireLemmas.{signal_below, signal_channels, signal_sources_of}

-- a walk of no links always leads on
pub links_some : (graph : List (List ℕ)) (links index : ℕ) → has_walk graph links index ≡ false → 0 < links
unfolding has_walk
links_some graph zero index ends = absurd (cc)
links_some graph (suc n) index ends = omega arith

-- an entity reaches itself
pub reaches_self : (entities : List Entity) (n id : ℕ) → reaches entities n id id ≡ true
unfolding reaches
reaches_self entities zero id = eq-eqb id id refl
reaches_self entities (suc n) id = ap (λ (b : Bool). b || list_any (λ s. reaches entities n s id) (signal_sources (entity entities id))) (eq-eqb id id refl)

-- what an entity reaches: itself, and what its sources reach
pub reaches_step : (entities : List Entity) (links id other : ℕ) → 0 < links
    → reaches entities links id other ≡ (eqb id other || list_any (λ s. reaches entities (links - 1) s other) (signal_sources (entity entities id)))
unfolding reaches
reaches_step entities zero id other some = absurd (omega arith)
reaches_step entities (suc n) id other some =
    let e : suc n - 1 ≡ n = omega arith in
    ap (λ (m : ℕ). eqb id other || list_any (λ s. reaches entities m s other) (signal_sources (entity entities id))) (sym e)

-- a source is no clock
pub source_signal : (entities : List Entity) (id k : ℕ) → IsSignalGraph entities → is_clock (entity entities id).kind ≡ false → k < length (entity entities id).sources
    → is_clock (entity entities (get_or (entity entities id).sources k 0)).kind ≡ false
unfolding entity
source_signal entities id k sound signal below =
    let own = signal_sources_of (entity entities id) signal in
    subst (λ (sources : List ℕ). (j : ℕ) → j < length sources → is_clock (entity entities (get_or sources j 0)).kind ≡ false) own
    (λ j inside. sound.heard (index_of entities id) (signal_below entities id signal) j 0 inside) k below

-- from a source no walk of one link less leads on
pub source_stops : (entities : List Entity) (links id k : ℕ) → is_clock (entity entities id).kind ≡ false → k < length (entity entities id).sources
    → has_walk (signal_links entities) links (index_of entities id) ≡ false
    → has_walk (signal_links entities) (links - 1) (index_of entities (get_or (entity entities id).sources k 0)) ≡ false
unfolding has_walk
source_stops entities zero id k signal below ends = absurd (cc)
source_stops entities (suc n) id k signal below ends =
    let e : suc n - 1 ≡ n = omega arith in
    let own = signal_sources_of (entity entities id) signal in
    subst (λ (m : ℕ). has_walk (signal_links entities) m (index_of entities (get_or (entity entities id).sources k 0)) ≡ false) (sym e)
    (subst (λ (sources : List ℕ). (j : ℕ) → j < length sources → has_walk (signal_links entities) n (index_of entities (get_or sources j 0)) ≡ false) own
    (λ j inside. source_ends entities n id j ends inside) k below)

-- a wire's frame has its channels
held_channels : (entities : List Entity) (frames : Frames) (id : ℕ) → AreWiresOf entities frames → is_clock (entity entities id).kind ≡ false
    → length (samples_on frames id) ≡ (entity entities id).cluster.channels
held_channels entities frames id fitting signal =
    by_wire (frame_on frames id) (entity entities id).cluster.channels (fitting.channels id ∙ signal_channels entities id signal)
  where
    by_wire : (o : Option (List ℤ)) (n : ℕ) → option_map length o ≡ Some n → length (unwrap_or o []) ≡ n
    by_wire None n e = absurd (cc)
    by_wire (Some frame) n e = cc

-- neither a clock nor an input terminal: a unit or an output terminal
takes : (k : EntityKind) → is_clock k ≡ false → is_input k ≡ false → takes_signal k ≡ true
takes kind.ClockSource c i = absurd (cc)
takes kind.ClockSelector c i = absurd (cc)
takes kind.ClockMultiplier c i = absurd (cc)
takes kind.InputTerminal c i = absurd (cc)
takes _ c i = refl

-- its channels and its pins are as the graph's soundness says
some_channels : (entities : List Entity) (id : ℕ) → IsSignalGraph entities → is_clock (entity entities id).kind ≡ false → 1 ≤ (entity entities id).cluster.channels
unfolding entity
some_channels entities id sound signal = sound.some (index_of entities id) (signal_below entities id signal) signal

most_channels : (entities : List Entity) (id : ℕ) → IsSignalGraph entities → is_clock (entity entities id).kind ≡ false → (entity entities id).cluster.channels ≤ 32
unfolding entity
most_channels entities id sound signal = sound.most (index_of entities id) (signal_below entities id signal) signal

fit_pins : (entities : List Entity) (id : ℕ) → IsSignalGraph entities → is_clock (entity entities id).kind ≡ false
    → FitsPins (entity entities id).kind (entity entities id).cluster.channels (pins_of entities (entity entities id))
unfolding entity
fit_pins entities id sound signal = sound.fits (index_of entities id) (signal_below entities id signal)

-- the frames of its sources have the channels of its pins
pub held_pins : (entities : List Entity) (frames : Frames) (id : ℕ) → IsSignalGraph entities → AreWiresOf entities frames
    → is_clock (entity entities id).kind ≡ false
    → map length (map (samples_on frames) (entity entities id).sources) ≡ pins_of entities (entity entities id)
unfolding pins_of entity
held_pins entities frames id sound fitting signal =
    let e = entity entities id in
    map-map length (samples_on frames) e.sources
    ∙ map_same (λ s. length (samples_on frames s)) (channels_of entities) e.sources
    (λ k below.
    held_channels entities frames (get_or e.sources k 0) fitting (source_signal entities id k sound signal below)
    ∙ sym (channels_placed entities (get_or e.sources k 0)))

-- what an entity takes from its sources fits it
pub fits_frames : (entities : List Entity) (frames : Frames) (id : ℕ) → IsSignalGraph entities → AreWiresOf entities frames
    → is_clock (entity entities id).kind ≡ false → is_input (entity entities id).kind ≡ false
    → FitsFrames (entity entities id).kind (entity entities id).cluster.channels (map (samples_on frames) (entity entities id).sources)
fits_frames entities frames id sound fitting signal unit =
    let e = entity entities id in
    record {
      signal = takes e.kind signal unit;
      some = some_channels entities id sound signal;
      most = most_channels entities id sound signal;
      pins = subst (FitsPins e.kind e.cluster.channels) (sym (held_pins entities frames id sound fitting signal)) (fit_pins entities id sound signal);
    }

-- a frame has a sample for each channel
pub length-frame_of : (controls : Controls) (id : ℕ) (k : EntityKind) (channels : ℕ) (frames : List (List ℤ)) → length (frame_of controls id k channels frames) ≡ channels
unfolding frame_of
length-frame_of controls id k channels frames = length-map-range_with_len (sample_of controls id k channels frames) 0 channels

-- the entity that the table gives
pub entity_read : (entities table : List Entity) (id index : ℕ) (e : Entity) → table ≡ entities → index ≡ index_of table id → e ≡ at table index → e ≡ entity entities id
unfolding entity
entity_read entities table id index e same where_it_is is =
    is ∙ ap (at table) where_it_is ∙ ap (λ (t : List Entity). at t (index_of t id)) same
