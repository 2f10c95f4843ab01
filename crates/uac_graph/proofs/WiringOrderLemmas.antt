-- Entities rendered in an order, each after its sources.
use Rattle.std.proofs.Common.{◌≡◌, ◌∙◌, sym, ap, subst, refl, ℕ, ◌+◌, ◌<◌, ◌≤◌, Bool, true, false, ◌||◌, ◌&&◌, not, eqb, if◌then◌else◌, ℤ, List, [], Some, length, get_or, take, map, unwrap_or, ◌⊎◌, inl, inr, sum}
use Rattle.std.specs.List.{All}
use Rattle.std.specs.Option.{option_map}
use Rattle.std.proofs.Math.Bool.{and-false, or-false, or-true}
use Rattle.std.proofs.lemmas.Bool.{cases_eq, eq-eqb, ne_eqb}
use Rattle.std.proofs.lemmas.List.{take_all}
use Rattle.std.proofs.lemmas.List.Folds.{list_any_more}
use Rattle.uac_entities.specs.declared.entity.Entity.{Entity}
use Rattle.uac_topology_rules.specs.Clusters.{is_input}
use Rattle.uac_topology_rules.specs.Links.{is_clock, signal_sources}
use Rattle.uac_topology_rules.specs.Table.{at}
use Rattle.uac_topology_rules.proofs.SignalsLemmas.{map_same}
use Rattle.uac_store.specs.StoreControls.{pins_of}
use Rattle.uac_units.specs.Rendering.{in_a_row}
use Rattle.uac_graph.specs.GraphControls.{Controls}
use Rattle.uac_graph.specs.Fitness.{IsSignalGraph}
use Rattle.uac_graph.specs.Jobs.{FitsFrames, HasJob}
use Rattle.uac_units.specs.declared.jobs.Job.{Job}
use Rattle.uac_graph.specs.Meaning.{entity, frame_of, meaning, samples_by}
use Rattle.uac_graph.specs.Needs.{depends_on}
use Rattle.uac_graph.specs.Orders.{AreOrders, IsRenderOrder, IsOrderOf, frame_after, has_id}
use Rattle.uac_graph.specs.declared.orders.Order.{Order}
use Rattle.uac_graph.specs.Wiring.{AreGiven, AreRendered, AreWiresOf, Frames, frame_on, samples_on}
use Rattle.uac_graph.proofs.MeaningLemmas.{equation}
use Rattle.uac_graph.proofs.WiringLemmas.{set_fits}
use Rattle.uac_graph.proofs.MeaningReachLemmas.{fits_frames, held_pins, length-frame_of}
use Rattle.uac_graph.proofs.RenderingLemmas.{length-in_a_row}
use Rattle.uac_graph.proofs.WiringTerminalLemmas.{entity_itself}
use Rattle.uac_graph.proofs.WiringWireLemmas.{either_way, meaning_given, rendered_by, rendered_none, signal_channels, signal_sources_of}

-- the frames of sources that are rendered are their meanings
held_sources : (entities : List Entity) (controls : Controls) (ins : ℕ → List ℤ) (done : ℕ → Bool) (sources : List ℕ) (old new : Frames)
    → AreRendered entities controls ins done old new → All (λ s. done s ≡ true) sources
    → map (samples_on new) sources ≡ map (meaning entities controls ins) sources
held_sources entities controls ins done sources old new rendered each =
    map_same (samples_on new) (meaning entities controls ins) sources
    (λ k below.
    let s = get_or sources k 0 in
    ap (λ o. unwrap_or o []) (rendered.wires s ∙ ap (λ (b : Bool). if b then Some (meaning entities controls ins s) else frame_on old s) (each k 0 below)))

-- so the frame of the entity at an index is its meaning
frame_meant : (entities : List Entity) (controls : Controls) (ins : ℕ → List ℤ) (done : ℕ → Bool) (index : ℕ) (old new : Frames) → IsSignalGraph entities
    → index < length entities → is_clock (at entities index).kind ≡ false → is_input (at entities index).kind ≡ false
    → AreRendered entities controls ins done old new → All (λ s. done s ≡ true) (signal_sources (at entities index))
    → frame_of controls (at entities index).id (at entities index).kind (at entities index).cluster.channels (map (samples_on new) (at entities index).sources)
    ≡ meaning entities controls ins (at entities index).id
unfolding samples_by
frame_meant entities controls ins done index old new sound inside signal unit rendered each =
    let e = at entities index in
    let m = meaning entities controls ins in
    let own = signal_sources_of e signal in
    ap (frame_of controls e.id e.kind e.cluster.channels)
    (held_sources entities controls ins done e.sources old new rendered (subst (All (λ s. done s ≡ true)) own each))
    ∙ ap (λ sources. frame_of controls e.id e.kind e.cluster.channels (map m sources)) (sym own)
    ∙ sym (
    equation entities controls ins e.id sound
    ∙ ap (λ (f : Entity). if is_input f.kind then ins e.id else frame_of controls e.id f.kind f.cluster.channels (map m (signal_sources f))) (entity_itself entities index sound inside)
    ∙ ap (λ (b : Bool). if b then ins e.id else frame_of controls e.id e.kind e.cluster.channels (map m (signal_sources e))) unit)

-- the entity at the next index is rendered
pub step_rendered : (entities : List Entity) (controls : Controls) (ins : ℕ → List ℤ) (indices : List ℕ) (i : ℕ) (old mid new : Frames)
    → IsSignalGraph entities → IsRenderOrder entities indices → i < length indices → AreGiven entities ins old
    → AreRendered entities controls ins (has_id entities (take i indices)) old mid
    → ((id : ℕ) → frame_on new id ≡ frame_after entities controls (get_or indices i 0) mid id)
    → AreRendered entities controls ins (has_id entities (take (i + 1) indices)) old new
unfolding frame_after
step_rendered entities controls ins indices i old mid new sound order below given before step = record {
  wires = λ id.
      step id ∙ by_id id (cases_eq e.id id)
      ∙ ap (λ (b : Bool). if b then Some (m id) else frame_on old id) (sym (list_any_more (λ index. eqb (at entities index).id id) indices i 0 below));
}
  where
    p : ℕ
    p = get_or indices i 0

    e : Entity
    e = at entities p

    m : ℕ → List ℤ
    m = meaning entities controls ins

    done : ℕ → Bool
    done = has_id entities (take i indices)

    made : List ℤ
    made = frame_of controls e.id e.kind e.cluster.channels (map (samples_on mid) e.sources)

    inside : p < length entities
    inside = order.inside i 0 below

    input_here : (id : ℕ) → e.id ≡ id → is_input e.kind ≡ true → is_input (entity entities id).kind ≡ true
    input_here id same input =
        ap (λ (n : ℕ). is_input (entity entities n).kind) (sym same) ∙ ap (λ (f : Entity). is_input f.kind) (entity_itself entities p sound inside) ∙ input

    rendered_here : (id : ℕ) → e.id ≡ id → (b : Bool) → is_input e.kind ≡ b
        → (if not (is_input e.kind) && eqb e.id id then Some made else frame_on mid id) ≡ Some (m id)
    rendered_here id same true input =
        let input_terminal = input_here id same input in
        let meant = meaning_given entities controls ins id sound input_terminal in
        ap (λ (b : Bool). if not b && eqb e.id id then Some made else frame_on mid id) input
        ∙ before.wires id
        ∙ ap (λ o. if done id then Some (m id) else o) (given.inputs id input_terminal ∙ ap Some (sym meant))
        ∙ either_way (done id) (Some (m id))
    rendered_here id same false unit =
        ap (λ (b : Bool). if not b && eqb e.id id then Some made else frame_on mid id) unit
        ∙ ap (λ (b : Bool). if b then Some made else frame_on mid id) (eq-eqb e.id id same)
        ∙ ap Some (frame_meant entities controls ins done p old mid sound inside (order.signal i 0 below) unit before (order.following i below))
        ∙ ap (λ (n : ℕ). Some (m n)) same

    by_id : (id : ℕ) → (e.id ≡ id) ⊎ (e.id ≡ id → ⊥)
        → (if not (is_input e.kind) && eqb e.id id then Some made else frame_on mid id) ≡ (if done id || eqb e.id id then Some (m id) else frame_on old id)
    by_id id (inl same) =
        rendered_here id same (is_input e.kind) refl
        ∙ sym (
        ap (λ (b : Bool). if done id || b then Some (m id) else frame_on old id) (eq-eqb e.id id same)
        ∙ ap (λ (b : Bool). if b then Some (m id) else frame_on old id) (or-true (done id)))
    by_id id (inr other) =
        ap (λ (b : Bool). if not (is_input e.kind) && b then Some made else frame_on mid id) (ne_eqb e.id id other)
        ∙ ap (λ (b : Bool). if b then Some made else frame_on mid id) (and-false (not (is_input e.kind)))
        ∙ before.wires id
        ∙ ap (λ (b : Bool). if b then Some (m id) else frame_on old id) (sym (or-false (done id)))
        ∙ ap (λ (b : Bool). if done id || b then Some (m id) else frame_on old id) (sym (ne_eqb e.id id other))

-- nothing was rendered yet
pub none_rendered : (entities : List Entity) (controls : Controls) (ins : ℕ → List ℤ) (indices : List ℕ) (frames : Frames)
    → AreRendered entities controls ins (has_id entities (take 0 indices)) frames frames
none_rendered entities controls ins indices frames = rendered_none entities controls ins frames

-- all were
pub all_rendered : (entities : List Entity) (controls : Controls) (ins : ℕ → List ℤ) (domain i : ℕ) (indices : List ℕ) (old new : Frames)
    → IsOrderOf entities domain indices → length indices ≤ i
    → AreRendered entities controls ins (has_id entities (take i indices)) old new
    → AreRendered entities controls ins (depends_on entities domain) old new
all_rendered entities controls ins domain i indices old new order past rendered =
    rendered_by entities controls ins (has_id entities (take i indices)) (depends_on entities domain) old new
    (λ id. ap (λ (ps : List ℕ). has_id entities ps id) (take_all i indices past) ∙ order.all id) rendered

-- an entity at an index as its id names it
signal_at : (entities : List Entity) (index : ℕ) → IsSignalGraph entities → index < length entities → is_clock (at entities index).kind ≡ false
    → is_clock (entity entities (at entities index).id).kind ≡ false
signal_at entities index sound inside signal = ap (λ (f : Entity). is_clock f.kind) (entity_itself entities index sound inside) ∙ signal

-- what it takes from its sources fits it
pub fits_at : (entities : List Entity) (frames : Frames) (index : ℕ) (e : Entity) → IsSignalGraph entities → AreWiresOf entities frames → index < length entities
    → is_clock (at entities index).kind ≡ false → e ≡ at entities index → is_input e.kind ≡ false
    → FitsFrames e.kind e.cluster.channels (map (samples_on frames) e.sources)
fits_at entities frames index e sound fitting inside signal here unit =
    let own = entity_itself entities index sound inside ∙ sym here in
    subst (λ (f : Entity). FitsFrames f.kind f.cluster.channels (map (samples_on frames) f.sources)) own
    (fits_frames entities frames (at entities index).id sound fitting (signal_at entities index sound inside signal) (ap (λ (f : Entity). is_input f.kind) own ∙ unit))

-- the frames of its sources in a row have as many channels as its pins
pins_at : (entities : List Entity) (frames : Frames) (index : ℕ) (e : Entity) → IsSignalGraph entities → AreWiresOf entities frames → index < length entities
    → is_clock (at entities index).kind ≡ false → e ≡ at entities index
    → sum (pins_of entities (at entities index)) ≡ length (in_a_row (map (samples_on frames) e.sources))
pins_at entities frames index e sound fitting inside signal here =
    let own = entity_itself entities index sound inside in
    ap (λ (f : Entity). sum (pins_of entities f)) (sym own)
    ∙ ap sum (sym (held_pins entities frames (at entities index).id sound fitting (signal_at entities index sound inside signal)))
    ∙ ap (λ (f : Entity). sum (map length (map (samples_on frames) f.sources))) (own ∙ sym here)
    ∙ sym (length-in_a_row (map (samples_on frames) e.sources))

-- its job, over them
pub job_at : (entities : List Entity) (controls : Controls) (frames : Frames) (index : ℕ) (e : Entity) (job : Job) → IsSignalGraph entities → AreWiresOf entities frames
    → index < length entities → is_clock (at entities index).kind ≡ false → e ≡ at entities index
    → HasJob controls (at entities index) (sum (pins_of entities (at entities index))) job → HasJob controls e (length (in_a_row (map (samples_on frames) e.sources))) job
job_at entities controls frames index e job sound fitting inside signal here has =
    subst (λ (f : Entity). HasJob controls f (length (in_a_row (map (samples_on frames) e.sources))) job) (sym here)
    (subst (λ (n : ℕ). HasJob controls (at entities index) n job) (pins_at entities frames index e sound fitting inside signal here) has)

-- its wire has its channels
pub wire_at : (entities : List Entity) (frames : Frames) (index : ℕ) (e : Entity) → IsSignalGraph entities → AreWiresOf entities frames → index < length entities
    → is_clock (at entities index).kind ≡ false → e ≡ at entities index
    → option_map length (frame_on frames e.id) ≡ Some e.cluster.channels
wire_at entities frames index e sound fitting inside signal here =
    subst (λ (f : Entity). option_map length (frame_on frames f.id) ≡ Some f.cluster.channels) (sym here)
    (fitting.channels (at entities index).id ∙ signal_channels entities (at entities index).id (signal_at entities index sound inside signal)
    ∙ ap (λ (f : Entity). Some f.cluster.channels) (entity_itself entities index sound inside))

-- the wires once it was rendered
pub rendered_at : (entities : List Entity) (controls : Controls) (index : ℕ) (e : Entity) (old new : Frames) → e ≡ at entities index → is_input e.kind ≡ false
    → ((id : ℕ) → frame_on new id ≡ (if eqb e.id id then Some (frame_of controls e.id e.kind e.cluster.channels (map (samples_on old) e.sources)) else frame_on old id))
    → (id : ℕ) → frame_on new id ≡ frame_after entities controls index old id
unfolding frame_after
rendered_at entities controls index e old new here unit set id =
    set id
    ∙ ap (λ (b : Bool). if not b && eqb e.id id then Some (frame_of controls e.id e.kind e.cluster.channels (map (samples_on old) e.sources)) else frame_on old id) (sym unit)
    ∙ ap (λ (f : Entity). if not (is_input f.kind) && eqb f.id id then Some (frame_of controls f.id f.kind f.cluster.channels (map (samples_on old) f.sources)) else frame_on old id) here

-- an input terminal has its frame
pub kept_at : (entities : List Entity) (controls : Controls) (index : ℕ) (e : Entity) (frames : Frames) → e ≡ at entities index → is_input e.kind ≡ true
    → (id : ℕ) → frame_on frames id ≡ frame_after entities controls index frames id
unfolding frame_after
kept_at entities controls index e frames here input id =
    ap (λ (b : Bool). if not b && eqb e.id id then Some (frame_of controls e.id e.kind e.cluster.channels (map (samples_on frames) e.sources)) else frame_on frames id) (sym input)
    ∙ ap (λ (f : Entity). if not (is_input f.kind) && eqb f.id id then Some (frame_of controls f.id f.kind f.cluster.channels (map (samples_on frames) f.sources)) else frame_on frames id) here

-- they fit still
pub fitting_at : (entities : List Entity) (controls : Controls) (e : Entity) (old new : Frames) → AreWiresOf entities old
    → option_map length (frame_on old e.id) ≡ Some e.cluster.channels
    → ((id : ℕ) → frame_on new id ≡ (if eqb e.id id then Some (frame_of controls e.id e.kind e.cluster.channels (map (samples_on old) e.sources)) else frame_on old id))
    → AreWiresOf entities new
fitting_at entities controls e old new fitting there set =
    set_fits entities old new e.id (frame_of controls e.id e.kind e.cluster.channels (map (samples_on old) e.sources))
    (there ∙ ap Some (sym (length-frame_of controls e.id e.kind e.cluster.channels (map (samples_on old) e.sources)))) set fitting

-- the orders that the graph keeps are those of its entities
pub order_for : (entities table : List Entity) (kept lent : List Order) → table ≡ entities → lent ≡ kept → AreOrders table kept → AreOrders entities lent
order_for entities table kept lent same own orders = subst (λ (es : List Entity). AreOrders es lent) same (subst (AreOrders table) (sym own) orders)
