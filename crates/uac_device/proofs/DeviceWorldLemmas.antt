-- The frames on the wires are those of the world.
use Rattle.std.proofs.Common.{◌≡◌, ◌∙◌, sym, refl, ap, subst, ℕ, zero, suc, ◌<◌, ◌==◌, Bool, true, false, if◌then◌else◌, ℤ, List, [], ◌∷◌, Option, Some, None, length, get_or, map, inl, inr, unwrap_or}
use Rattle.std.specs.List.{find}
use Rattle.std.specs.Option.{option_and_then, option_map}
use Rattle.std.proofs.lemmas.Bool.{and_parts, eq-eqb, eqb-true, ne_eqb}
use Rattle.std.proofs.lemmas.List.{get_or_default}
use Rattle.std.proofs.lemmas.List.Elements.{All-map}
use Rattle.uac_entities.specs.declared.entity.Entity.{Entity}
use Rattle.uac_topology_rules.specs.Clusters.{is_input}
use Rattle.uac_topology_rules.specs.Links.{is_clock, signal_sources}
use Rattle.uac_topology_rules.specs.Rules.{is_output}
use Rattle.uac_topology_rules.specs.Table.{at, index_of, first_index_of}
use Rattle.uac_topology_rules.proofs.ListFindLemmas.{position_is, position-below}
use Rattle.uac_topology_rules.proofs.SignalsLemmas.{map_same}
use Rattle.uac_topology_rules.proofs.TableIdLemmas.{at_read}
use Rattle.uac_topology.specs.Function.{FunctionFields}
use Rattle.uac_store.specs.StoreControls.{initial_controls}
use Rattle.uac_store.specs.declared.keys.Key.{Key}
use Rattle.uac_graph.specs.GraphControls.{Controls, controls_in}
use Rattle.uac_graph.specs.Fitness.{IsSignalGraph}
use Rattle.uac_graph.specs.Meaning.{entity, frame_of, meaning, samples, samples_by}
use Rattle.uac_graph.specs.Needs.{depends_on, is_end, needed_units}
use Rattle.uac_graph.specs.TickRows.{RowsById}
use Rattle.uac_graph.specs.Wiring.{AreGiven, AreRendered, AreSilent, Frames, frame_on, samples_on, silence}
use Rattle.uac_graph.proofs.MeaningLemmas.{samples_by-same}
use Rattle.uac_graph.proofs.LinksLemmas.{entity_past, index_or_none}
use Rattle.uac_graph.proofs.WiringTerminalLemmas.{input_signal, output_signal}
use Rattle.uac_graph.proofs.WiringWireLemmas.{given_kept, signal_channels}
use Rattle.uac_alt.specs.AltSettings.{initial_settings}
use Rattle.uac_alt.specs.declared.settings.InterfaceSetting.{InterfaceSetting}
use Rattle.uac_device.specs.declared.clocks.DomainClock.{DomainClock}
use Rattle.uac_entities.specs.declared.stream.StreamInterface.{StreamInterface}
use Rattle.uac_flow.specs.FlowStreams.{next_taken}
use Rattle.uac_device.specs.declared.device_stream.DeviceStream.{DeviceStream}
use Rattle.uac_device.specs.DeviceStreams.{DeviceStreamStands, DeviceStreamsStand, idle_stream, port_of}
use Rattle.uac_device.specs.DeviceWorld.{DeviceWorld, resting_domain, entity_in, fresh, heard_of, input_of, is_input_jack, is_jack, is_output_jack, is_streamed, played_at, renders_of, set_jack, stream_to, streamed_frame, after_tick}
use Rattle.uac_device.specs.DeviceKept.{DeviceFields, IsDevice, DeviceStands, clock_of}
use Rattle.uac_device.specs.DeviceTurns.{frames_heard, jacks_of, resting_clock}
use Rattle.uac_device.proofs.DeviceTurnsMeterLemmas.{heard_told}
use Rattle.uac_device.proofs.DeviceWorldInputLemmas.{apart}

-- ---- renders

pub renders_here : (device : DeviceFields) (w : DeviceWorld) (domain : ℕ) → DeviceStands device w → length (needed_units device.function.entities domain) ≡ renders_of domain w
unfolding renders_of
renders_here device w domain stands = ap (λ (f : FunctionFields). length (needed_units f.entities domain)) stands.function

-- ---- the start

silent_wire : (entities : List Entity) (frames : Frames) (id : ℕ) → AreSilent entities frames → is_clock (entity entities id).kind ≡ false
    → frame_on frames id ≡ Some (silence (entity entities id).cluster.channels)
silent_wire entities frames id silent signal = silent.wires id ∙ ap (option_map silence) (signal_channels entities id signal)

resting_kept : (ds : List ℕ) → map resting_clock ds ≡ map clock_of (map resting_domain ds)
resting_kept [] = refl
resting_kept (d ∷ ds) = ap (λ clocks. resting_clock d ∷ clocks) (resting_kept ds)

-- idle interfaces run no stream
idle_keep : (entities : List Entity) (streams : List StreamInterface)
    → DeviceStreamsStand (map (λ s. idle_stream (port_of entities s)) streams) (λ interface. None) (λ interface. None)
idle_keep entities streams = record {
  each = All-map (λ (l : DeviceStream). DeviceStreamStands l None None) (λ s. idle_stream (port_of entities s)) streams (λ k d below. (refl, refl));
  none = λ interface nowhere. (refl, refl);
}

pub fresh_stands : (function : FunctionFields) (controls : List (Key × ℤ)) (settings : List InterfaceSetting) (clocks : List DomainClock) (wires : Frames) (device_streams : List DeviceStream) (rows : RowsById)
    → controls ≡ initial_controls function.entities → settings ≡ initial_settings function → clocks ≡ map resting_clock function.domains
    → AreSilent function.entities wires → device_streams ≡ map (λ s. idle_stream (port_of function.entities s)) function.streams
    → DeviceStands (record { function = function; controls = controls; settings = settings; clocks = clocks; wires = wires; device_streams = device_streams; rows = rows }) (fresh function)
unfolding fresh
fresh_stands function controls settings clocks wires device_streams rows start first resting silent idle = record {
  function = refl;
  controls = start;
  settings = first;
  clocks = resting ∙ resting_kept function.domains;
  streams = subst (λ (ls : List DeviceStream). DeviceStreamsStand ls (λ interface. None) (λ interface. None)) (sym idle) (idle_keep function.entities function.streams);
  unlinked = λ id input other nowhere. refl;
  inputs = λ id input. silent_wire function.entities wires id silent (input_signal (entity function.entities id).kind input);
  outputs = λ id output. silent_wire function.entities wires id silent (output_signal (entity function.entities id).kind output);
}

-- ---- a jack

pub jack_fits : (device : DeviceFields) (terminal : ℕ) (frame : List ℤ) → IsDevice device → is_input_jack (entity device.function.entities terminal) ≡ true
    → length frame ≡ (entity device.function.entities terminal).cluster.channels → option_map length (frame_on device.wires terminal) ≡ Some (length frame)
jack_fits device terminal frame keeps jack channels =
    let e = entity device.function.entities terminal in
    keeps.wires.channels terminal
    ∙ signal_channels device.function.entities terminal (input_signal e.kind (and_parts (is_input e.kind) (is_jack e) jack).0)
    ∙ ap Some (sym channels)

pub jack_stands : (device : DeviceFields) (wires : Frames) (terminal : ℕ) (frame : List ℤ) (w : DeviceWorld)
    → is_input_jack (entity device.function.entities terminal) ≡ true
    → ((id : ℕ) → frame_on wires id ≡ (if terminal == id then Some frame else frame_on device.wires id))
    → DeviceStands device w → DeviceStands (record device { wires = wires }) (set_jack terminal frame w)
unfolding set_jack
jack_stands device wires terminal frame w jack set stands = record {
  function = stands.function;
  controls = stands.controls;
  settings = stands.settings;
  clocks = stands.clocks;
  streams = stands.streams;
  unlinked = λ id input other nowhere. rests id input other nowhere (id == terminal) refl;
  inputs = λ id input. given id input (terminal == id) refl;
  outputs = λ id output. kept_on id output (terminal == id) refl;
}
  where
    e : Entity
    e = entity w.function.entities terminal

    is : is_input_jack e ≡ true
    is = ap (λ (f : FunctionFields). is_input_jack (entity f.entities terminal)) (sym stands.function) ∙ jack

    set_by : (id : ℕ) (b : Bool) → (terminal == id) ≡ b → frame_on wires id ≡ (if b then Some frame else frame_on device.wires id)
    set_by id b test = set id ∙ ap (λ (b : Bool). if b then Some frame else frame_on device.wires id) test

    given : (id : ℕ) → is_input (entity_in w id).kind ≡ true → (b : Bool) → (terminal == id) ≡ b
        → frame_on wires id ≡ Some (if id == terminal then frame else w.given id)
    given id input true test =
        set_by id true test
        ∙ sym (ap (λ (b : Bool). Some (if b then frame else w.given id)) (eq-eqb id terminal (sym (eqb-true terminal id test))))
    given id input false test =
        let other : (id == terminal) ≡ false = ne_eqb id terminal (λ same. let here : (terminal == id) ≡ true = eq-eqb terminal id (sym same) in cc) in
        set_by id false test
        ∙ stands.inputs id input
        ∙ sym (ap (λ (b : Bool). Some (if b then frame else w.given id)) other)

    rests : (id : ℕ) → is_input (entity_in w id).kind ≡ true → is_jack (entity_in w id) ≡ false → find (λ s. s.terminal == id) w.function.streams ≡ None
        → (b : Bool) → (id == terminal) ≡ b → (if b then frame else w.given id) ≡ silence (entity_in w id).cluster.channels
    rests id input other nowhere true test =
        let jacked : is_jack (entity_in w id) ≡ true =
        subst (λ (n : ℕ). is_jack (entity_in w n) ≡ true) (sym (eqb-true id terminal test)) (and_parts (is_input e.kind) (is_jack e) is).1 in
        absurd (cc)
    rests id input other nowhere false test = stands.unlinked id input other nowhere

    kept_on : (id : ℕ) → is_output (entity_in w id).kind ≡ true → (b : Bool) → (terminal == id) ≡ b → frame_on wires id ≡ Some (w.played id)
    kept_on id output true test =
        let same = eqb-true terminal id test in
        absurd (
        apart e.kind (and_parts (is_input e.kind) (is_jack e) is).0 (subst (λ (n : ℕ). is_output (entity_in w n).kind ≡ true) (sym same) output))
    kept_on id output false test = set_by id false test ∙ stands.outputs id output

-- ---- a tick

-- a terminal of the bus to which no interface links gives silence again
pub unlinked_gives : (w : DeviceWorld) (domain id : ℕ) → find (λ s. s.terminal == id) w.function.streams ≡ None
    → w.given id ≡ silence (entity_in w id).cluster.channels → input_of domain w id ≡ silence (entity_in w id).cluster.channels
unfolding input_of streamed_frame
unlinked_gives w domain id nowhere silent = by (is_streamed domain (entity_in w id))
  where
    nothing : unwrap_or (option_and_then next_taken (stream_to w id)) (silence (entity_in w id).cluster.channels) ≡ silence (entity_in w id).cluster.channels
    nothing =
        ap (λ (o : Option StreamInterface). unwrap_or (option_and_then next_taken (option_and_then (λ (s : StreamInterface). w.outs s.number) o)) (silence (entity_in w id).cluster.channels))
        nowhere

    by : (b : Bool) → (if b then unwrap_or (option_and_then next_taken (stream_to w id)) (silence (entity_in w id).cluster.channels) else w.given id)
        ≡ silence (entity_in w id).cluster.channels
    by true = nothing
    by false = silent

-- a meaning depends on what the input terminals give
samples_given : (entities : List Entity) (controls : Controls) (ins others : ℕ → List ℤ)
    → ((id : ℕ) → is_input (entity entities id).kind ≡ true → ins id ≡ others id)
    → (n id : ℕ) → samples n entities controls ins id ≡ samples n entities controls others id
unfolding samples samples_by
samples_given entities controls ins others same zero id = refl
samples_given entities controls ins others same (suc n) id =
    samples_by-same entities controls ins (samples n entities controls ins) (samples n entities controls others) id
    (map_same (samples n entities controls ins) (samples n entities controls others) (signal_sources (entity entities id))
    (λ k below. samples_given entities controls ins others same n (get_or (signal_sources (entity entities id)) k 0)))
    ∙ by_input (is_input (entity entities id).kind) (same id)
  where
    rest : List ℤ
    rest =
        frame_of controls id (entity entities id).kind (entity entities id).cluster.channels
        (map (samples n entities controls others) (signal_sources (entity entities id)))

    by_input : (b : Bool) → (b ≡ true → ins id ≡ others id) → (if b then ins id else rest) ≡ (if b then others id else rest)
    by_input true e = e refl
    by_input false e = refl

meaning_same : (entities : List Entity) (controls : Controls) (ins others : ℕ → List ℤ)
    → ((id : ℕ) → is_input (entity entities id).kind ≡ true → ins id ≡ others id)
    → (id : ℕ) → meaning entities controls ins id ≡ meaning entities controls others id
unfolding meaning
meaning_same entities controls ins others same id = samples_given entities controls ins others same (length entities) id

pub rendered_given : (entities : List Entity) (controls : Controls) (ins : ℕ → List ℤ) (done : ℕ → Bool) (old new : Frames) → AreGiven entities ins old
    → AreRendered entities controls (samples_on old) done old new → AreRendered entities controls ins done old new
rendered_given entities controls ins done old new given rendered = record {
  wires = λ id.
      rendered.wires id
      ∙ ap (λ frame. if done id then Some frame else frame_on old id)
      (meaning_same entities controls (samples_on old) ins (λ id input. ap (λ o. unwrap_or o []) (given.inputs id input)) id);
}

-- what a tick makes of the wires, in the world's own words: of what the input terminals are given, and of what was on the others
pub record Mid (frames : Frames) (domain : ℕ) (w : DeviceWorld) : Type 0 where
  pub inputs : (id : ℕ) → is_input (entity_in w id).kind ≡ true → frame_on frames id ≡ Some (input_of domain w id)
  pub outputs : (id : ℕ) → is_output (entity_in w id).kind ≡ true → frame_on frames id ≡ Some (w.played id)

-- of the entities of a device
pub record Rendered (device : DeviceFields) (mid wires : Frames) (domain : ℕ) : Type 0 where
  pub sound : IsSignalGraph device.function.entities
  pub ends :
      (id : ℕ) → is_output (entity device.function.entities id).kind ≡ true
      → depends_on device.function.entities domain id ≡ is_end domain (entity device.function.entities id)
  pub rendered : AreRendered device.function.entities (controls_in device.controls) (samples_on mid) (depends_on device.function.entities domain) mid wires

module _ (device : DeviceFields) (mid wires : Frames) (domain : ℕ) (w : DeviceWorld) (rendered : Rendered device mid wires domain) (given : Mid mid domain w)
    (same : device.function ≡ w.function) (controlled : device.controls ≡ w.controls) where
  entities : List Entity
  entities = w.function.entities

  controls : Controls
  controls = controls_in w.controls

  sound_here : IsSignalGraph w.function.entities
  sound_here = subst (λ (f : FunctionFields). IsSignalGraph f.entities) same rendered.sound

  ends_here : (id : ℕ) → is_output (entity w.function.entities id).kind ≡ true → depends_on w.function.entities domain id ≡ is_end domain (entity w.function.entities id)
  ends_here =
      subst (λ (f : FunctionFields). (id : ℕ) → is_output (entity f.entities id).kind ≡ true → depends_on f.entities domain id ≡ is_end domain (entity f.entities id))
      same rendered.ends

  are_given : AreGiven w.function.entities (input_of domain w) mid
  are_given = record { inputs = given.inputs }

  rendered_here : AreRendered w.function.entities (controls_in w.controls) (input_of domain w) (depends_on w.function.entities domain) mid wires
  rendered_here =
      rendered_given w.function.entities (controls_in w.controls) (input_of domain w) (depends_on w.function.entities domain) mid wires are_given
      (subst (λ (f : FunctionFields). AreRendered f.entities (controls_in w.controls) (samples_on mid) (depends_on f.entities domain) mid wires) same
      (subst (λ (cs : List (Key × ℤ)). AreRendered device.function.entities (controls_in cs) (samples_on mid) (depends_on device.function.entities domain) mid wires)
      controlled rendered.rendered))

  pub inputs_after : (id : ℕ) → is_input (entity_in w id).kind ≡ true → frame_on wires id ≡ Some (input_of domain w id)
  inputs_after = (given_kept w.function.entities (controls_in w.controls) (input_of domain w) (depends_on w.function.entities domain) mid wires sound_here are_given rendered_here).inputs

  pub outputs_after : (id : ℕ) → is_output (entity_in w id).kind ≡ true → frame_on wires id ≡ Some ((after_tick domain w).played id)
  unfolding after_tick entities controls
  outputs_after id output =
      rendered_here.wires id
      ∙ ap (λ (b : Bool). if b then Some (meaning entities controls (input_of domain w) id) else frame_on mid id) (ends_here id output)
      ∙ either (is_end domain (entity entities id)) (meaning entities controls (input_of domain w) id) (frame_on mid id) (w.played id) (given.outputs id output)
    where
      either : (b : Bool) (now : List ℤ) (old : Option (List ℤ)) (before : List ℤ) → old ≡ Some before
          → (if b then Some now else old) ≡ Some (if b then now else before)
      either true now old before e = refl
      either false now old before e = e

  pub tick_stands : (device_streams : List DeviceStream) → DeviceStreamsStand device_streams (after_tick domain w).outs (after_tick domain w).ins → DeviceStands device w
      → DeviceStands (record device { wires = wires; device_streams = device_streams }) (after_tick domain w)
  unfolding after_tick
  tick_stands device_streams keeps stands = record {
    function = stands.function;
    controls = stands.controls;
    settings = stands.settings;
    clocks = stands.clocks;
    streams = keeps;
    unlinked = λ id input other nowhere. unlinked_gives w domain id nowhere (stands.unlinked id input other nowhere);
    inputs = inputs_after;
    outputs = outputs_after;
  }

-- the frames that are heard on wires that stand for a world
pub heard_in : (device : DeviceFields) (domain : ℕ) (w : DeviceWorld) → IsSignalGraph device.function.entities → DeviceStands device w
    → frames_heard device.wires domain (jacks_of device.function.entities) ≡ heard_of domain w
unfolding heard_of entity
heard_in device domain w sound stands =
    ap (λ (f : FunctionFields). frames_heard device.wires domain (jacks_of f.entities)) stands.function
    ∙ heard_told device.wires domain w.played w.function.entities (λ k d below end. one k d below end)
  where
    sound_here : IsSignalGraph w.function.entities
    sound_here = subst (λ (f : FunctionFields). IsSignalGraph f.entities) stands.function sound

    itself : (index : ℕ) → index < length w.function.entities → entity w.function.entities (at w.function.entities index).id ≡ at w.function.entities index
    itself index below = ap (at w.function.entities) (sound_here.distinct index below)

    one : (k : ℕ) (d : Entity) → k < length w.function.entities → is_end domain (get_or w.function.entities k d) ≡ true
        → frame_on device.wires (get_or w.function.entities k d).id ≡ Some (w.played (get_or w.function.entities k d).id)
    one k d below end =
        let e = get_or w.function.entities k d in
        let here : at w.function.entities k ≡ e = sym (at_read w.function.entities k e below (get_or_default w.function.entities k d (get_or w.function.entities k d) below)) in
        let same : entity w.function.entities e.id ≡ e = ap (λ (x : Entity). entity w.function.entities x.id) (sym here) ∙ itself k below ∙ here in
        stands.outputs e.id (ap (λ (x : Entity). is_output x.kind) same ∙ (and_parts (is_output e.kind) (e.clock == domain) end).0)

-- what an output jack played
pub played_here : (device : DeviceFields) (w : DeviceWorld) (id : ℕ) → DeviceStands device w → is_output_jack (entity device.function.entities id) ≡ true
    → frame_on device.wires id ≡ played_at w id
unfolding played_at
played_here device w id stands jack =
    let is : is_output_jack (entity_in w id) ≡ true = ap (λ (f : FunctionFields). is_output_jack (entity f.entities id)) (sym stands.function) ∙ jack in
    let e = entity_in w id in
    stands.outputs id (and_parts (is_output e.kind) (is_jack e) is).0
    ∙ sym (ap (λ (b : Bool). if b then Some (w.played id) else None) is)

pub played_nowhere : (device : DeviceFields) (w : DeviceWorld) (id : ℕ) → DeviceStands device w → is_output_jack (entity device.function.entities id) ≡ false
    → None ≡ played_at w id
unfolding played_at
played_nowhere device w id stands other =
    sym (ap (λ (b : Bool). if b then Some (w.played id) else None)
    (ap (λ (f : FunctionFields). is_output_jack (entity f.entities id)) (sym stands.function) ∙ other))

-- an entity that is found by its id, and an id that is not found
pub entity_found : (entities : List Entity) (id index : ℕ) (e : Entity) → first_index_of entities id ≡ Some index → e ≡ get_or entities index e
    → e ≡ entity entities id
unfolding entity index_of first_index_of
entity_found entities id index e found item =
    let is = position_is (λ (e : Entity). e.id == id) entities index found in at_read entities index e is.0 item ∙ ap (at entities) (sym is.1)

pub jack_nowhere : (entities : List Entity) (id : ℕ) → first_index_of entities id ≡ None → false ≡ is_output_jack (entity entities id)
unfolding index_of first_index_of
jack_nowhere entities id none =
    elim (index_or_none entities id) [
      | inl below ↦
          absurd (let found : None ≡ Some (index_of entities id) = sym none ∙ position-below (λ (e : Entity). e.id == id) entities below in cc)
      | inr past ↦ ap is_output_jack (sym (entity_past entities id past))
    ]
