-- A device that did several ticks of a domain by rows stands for the world after them.
use Rattle.std.proofs.Common.{◌≡◌, ◌∙◌, sym, refl, ap, subst, arith, ℕ, zero, suc, ◌<◌, ◌≤◌, ◌&&◌, ◌||◌, ◌==◌, Bool, true, false, if◌then◌else◌, ℤ, List, [], get_or, length, map, Option, Some, None}
use Rattle.std.specs.List.{All, find}
use Rattle.std.specs.Option.{option_map_or}
use Rattle.std.proofs.lemmas.Bool.{and_from, and_parts}
use Rattle.std.proofs.lemmas.List.{get_or_default}
use Rattle.uac_entities.specs.declared.stream.StreamInterface.{StreamInterface}
use Rattle.uac_entities.specs.declared.entity.Entity.{Entity}
use Rattle.uac_store.specs.declared.keys.Key.{Key}
use Rattle.uac_topology_rules.specs.Clusters.{is_input}
use Rattle.uac_topology_rules.specs.Table.{at, index_of}
use Rattle.uac_topology_rules.proofs.TableIdLemmas.{at_read}
use Rattle.uac_topology_rules.specs.Rules.{is_output}
use Rattle.uac_topology.specs.Function.{FunctionFields, interface_in}
use Rattle.uac_topology.specs.FunctionKept.{AreNumbered, HaveChannels}
use Rattle.uac_graph.specs.GraphControls.{controls_in}
use Rattle.uac_graph.specs.Fitness.{IsSignalGraph}
use Rattle.uac_graph.specs.Meaning.{entity, meaning}
use Rattle.uac_graph.specs.Needs.{depends_on, is_end}
use Rattle.uac_graph.specs.TickRows.{RowsById}
use Rattle.uac_graph.specs.Wiring.{AreGiven, AreRendered, Frames, frame_on, samples_on, silence}
use Rattle.uac_flow.specs.FlowStreams.{InStream, OutStream}
use Rattle.uac_flow.specs.FlowTicks.{in_after_ticks, out_after_ticks}
use Rattle.uac_graph.proofs.WiringWireLemmas.{given_kept}
use Rattle.uac_device.specs.declared.device_stream.DeviceStream.{DeviceStream}
use Rattle.uac_device.specs.declared.device_stream.Port.{Port}
use Rattle.uac_device.specs.InterfaceStreams.{changed_where}
use Rattle.uac_device.specs.DeviceWorld.{DeviceWorld, entity_in, input_of, is_jack, is_on, is_streamed, played_to, streamed_frame}
use Rattle.uac_device.specs.DeviceKept.{DeviceFields, DeviceStands, IsDevice}
use Rattle.uac_device.specs.DeviceStreams.{DeviceStreamsStand, frame_given_by, port_of, ports}
use Rattle.uac_device.specs.DeviceTicks.{Tones, after_tick_times, given_after, heard_at, input_at, ins_after, outs_after, played_after, played_in, world_after}
use Rattle.uac_device.specs.DeviceTurns.{frames_heard, jacks_of}
use Rattle.uac_device.specs.Linked.{AreLinked}
use Rattle.uac_device.proofs.DeviceKeptStreamLemmas.{all_ports, own_interface, ports_on}
use Rattle.uac_device.proofs.DeviceKeptTickLemmas.{input_channels}
use Rattle.uac_device.proofs.DeviceTurnsMeterLemmas.{heard_told}
use Rattle.uac_device.proofs.DeviceTicksLemmas.{world_by_parts}
use Rattle.uac_device.proofs.DeviceWorldInputLemmas.{given_input}
use Rattle.uac_device.proofs.DeviceWorldLemmas.{rendered_given, unlinked_gives}

-- frames are given to jacks alone
pub record AreForJacks (tones : Tones) (w : DeviceWorld) : Type 0 where
  pub none : (id : ℕ) → is_jack (entity_in w id) ≡ false → tones id ≡ None

-- what an input terminal has at a tick before its stream gives it a frame
abbrev pub held_at : Tones → DeviceWorld → ℕ → ℕ → List ℤ
held_at tones w t id = option_map_or (λ frames. frames t) (tones id) (w.given id)

-- the world in which the streams to the device find themselves at a tick
abbrev pub world_at : ℕ → Tones → DeviceWorld → ℕ → DeviceWorld
world_at domain tones w t = record w { outs = outs_after domain w t; given = held_at tones w t }

-- what the streams to the device did with rows, at each tick: the rows held the frames of all input terminals, and have those that streams gave
pub record Given (device : DeviceFields) (tones : Tones) (w : DeviceWorld) (domain ticks : ℕ) (held mid : ℕ → Frames) : Type 0 where
  pub filled : (t : ℕ) → t < ticks → (id : ℕ) → is_input (entity_in w id).kind ≡ true → frame_on (held t) id ≡ Some (held_at tones w t id)
  pub frames :
      (on : ℕ → Bool) (outs : ℕ → Option OutStream) (ins : ℕ → Option InStream) → All (λ p. on p.interface ≡ (p.domain == domain)) (ports device.device_streams)
      → DeviceStreamsStand device.device_streams outs ins → (t : ℕ) → t < ticks → (id : ℕ)
      → frame_on (mid t) id ≡ frame_given_by domain id (changed_where on (λ interface. out_after_ticks t) outs) (ports device.device_streams) (frame_on (held t) id)

-- so each input terminal has what it gives at the tick
pub inputs_given : (device : DeviceFields) (tones : Tones) (w : DeviceWorld) (domain ticks : ℕ) (held mid : ℕ → Frames) → AreNumbered device.function → AreLinked device.function
    → HaveChannels device.function.entities → IsDevice device → DeviceStands device w → AreForJacks tones w → Given device tones w domain ticks held mid
    → (t : ℕ) → t < ticks → (id : ℕ) → is_input (entity_in w id).kind ≡ true → frame_on (mid t) id ≡ Some (input_at domain tones w t id)
unfolding input_at input_of streamed_frame
inputs_given device tones w domain ticks held mid numbered linked have is stands jacks given t less id input =
    given.frames (is_on w domain) w.outs w.ins (ports_on device w domain numbered is stands) stands.streams t less id
    ∙ ap (λ (ps : List Port). frame_given_by domain id (outs_after domain w t) ps (frame_on (held t) id))
    (is.ports ∙ ap (λ (f : FunctionFields). map (port_of f.entities) f.streams) stands.function)
    ∙ given_input (world_at domain tones w t) domain id (frame_on (held t) id) (subst AreLinked stands.function linked) input
    (input_channels w.function.entities id (subst (λ (f : FunctionFields). HaveChannels f.entities) stands.function have) input).0 (given.filled t less id input)
    (λ bus nowhere. rw (jacks.none id bus) (stands.unlinked id input bus nowhere))

-- what the graph did: at each tick the rows of what the domain needs have their meaning
pub record AreRenderedTicks (device : DeviceFields) (domain ticks : ℕ) (mid new : ℕ → Frames) : Type 0 where
  pub sound : IsSignalGraph device.function.entities
  pub ends :
      (id : ℕ) → is_output (entity device.function.entities id).kind ≡ true
      → depends_on device.function.entities domain id ≡ is_end domain (entity device.function.entities id)
  pub rendered :
      (t : ℕ) → t < ticks
      → AreRendered device.function.entities (controls_in device.controls) (samples_on (mid t)) (depends_on device.function.entities domain) (mid t) (new t)

-- so each output terminal of the domain plays at the tick what it is to
pub ends_played : (tones : Tones) (w : DeviceWorld) (domain t : ℕ) (mid new : Frames) → AreGiven w.function.entities (input_at domain tones w t) mid
    → AreRendered w.function.entities (controls_in w.controls) (samples_on mid) (depends_on w.function.entities domain) mid new
    → (id : ℕ) → is_end domain (entity_in w id) ≡ true → depends_on w.function.entities domain id ≡ true → frame_on new id ≡ Some (played_in domain tones w t id)
unfolding played_in
ends_played tones w domain t mid new given rendered id end needed =
    (rendered_given w.function.entities (controls_in w.controls) (input_at domain tones w t) (depends_on w.function.entities domain) mid new given rendered).wires id
    ∙ rw needed (rw end refl)

played_before : (tones : Tones) (w : DeviceWorld) (domain t id : ℕ) → is_end domain (entity_in w id) ≡ false → played_in domain tones w t id ≡ w.played id
unfolding played_in
played_before tones w domain t id other = rw other refl

-- what the parts of so many ticks did, of which the last has the number `last`: the streams to the device took their frames, the graph was
-- rendered, the streams from the device took what was played, and the wires have the last tick's frames
pub record TicksTurned (device : DeviceFields) (tones : Tones) (w : DeviceWorld) (domain last : ℕ) (held mid new : ℕ → Frames) (wires : Frames)
    (between device_streams : List DeviceStream) : Type 0 where
  pub given : Given device tones w domain (suc last) held mid
  pub taken :
      (on : ℕ → Bool) (outs : ℕ → Option OutStream) (ins : ℕ → Option InStream) → All (λ p. on p.interface ≡ (p.domain == domain)) (ports device.device_streams)
      → DeviceStreamsStand device.device_streams outs ins → DeviceStreamsStand between (changed_where on (λ interface. out_after_ticks (suc last)) outs) ins
  pub same : ports between ≡ ports device.device_streams
  pub rendered : AreRenderedTicks device domain (suc last) mid new
  pub put :
      (on : ℕ → Bool) (played : ℕ → ℕ → List ℤ) (outs : ℕ → Option OutStream) (ins : ℕ → Option InStream)
      → All (λ p. on p.interface ≡ (p.domain == domain)) (ports between)
      → All (λ p. p.out ≡ false → 1 ≤ p.channels → (p.domain == domain) ≡ true → (t : ℕ) → t < suc last → frame_on (new t) p.terminal ≡ Some (played t p.interface))
      (ports between)
      → DeviceStreamsStand between outs ins
      → DeviceStreamsStand device_streams outs (changed_where on (λ interface. in_after_ticks (λ t. played t interface) (suc last)) ins)
  pub inputs : (id : ℕ) → is_input (entity_in w id).kind ≡ true → frame_on wires id ≡ frame_on (new last) id
  pub ends : (id : ℕ) → is_end domain (entity_in w id) ≡ true → frame_on wires id ≡ frame_on (new last) id
  pub others :
      (id : ℕ) → is_output (entity_in w id).kind ≡ true → is_end domain (entity_in w id) ≡ false → frame_on wires id ≡ frame_on device.wires id

module _ (device : DeviceFields) (tones : Tones) (w : DeviceWorld) (domain last : ℕ) (held mid new : ℕ → Frames) (wires : Frames) (rows : RowsById)
    (between device_streams : List DeviceStream) (numbered : AreNumbered device.function) (linked : AreLinked device.function)
    (have : HaveChannels device.function.entities) (is : IsDevice device) (stands : DeviceStands device w) (jacks : AreForJacks tones w)
    (turned : TicksTurned device tones w domain last held mid new wires between device_streams) where
  sound_here : IsSignalGraph w.function.entities
  sound_here = subst (λ (f : FunctionFields). IsSignalGraph f.entities) stands.function turned.rendered.sound

  ends_here : (id : ℕ) → is_output (entity w.function.entities id).kind ≡ true → depends_on w.function.entities domain id ≡ is_end domain (entity w.function.entities id)
  ends_here =
      subst (λ (f : FunctionFields). (id : ℕ) → is_output (entity f.entities id).kind ≡ true → depends_on f.entities domain id ≡ is_end domain (entity f.entities id))
      stands.function turned.rendered.ends

  given_here : (t : ℕ) → t < suc last → AreGiven w.function.entities (input_at domain tones w t) (mid t)
  given_here t less =
      record { inputs = inputs_given device tones w domain (suc last) held mid numbered linked have is stands jacks turned.given t less }

  rendered_here : (t : ℕ) → t < suc last
      → AreRendered w.function.entities (controls_in w.controls) (samples_on (mid t)) (depends_on w.function.entities domain) (mid t) (new t)
  rendered_here t less =
      subst (λ (f : FunctionFields). AreRendered f.entities (controls_in w.controls) (samples_on (mid t)) (depends_on f.entities domain) (mid t) (new t)) stands.function
      (subst (λ (cs : List (Key × ℤ)). AreRendered device.function.entities (controls_in cs) (samples_on (mid t)) (depends_on device.function.entities domain) (mid t) (new t))
      stands.controls (turned.rendered.rendered t less))

  inputs_new : (t : ℕ) → t < suc last → (id : ℕ) → is_input (entity_in w id).kind ≡ true → frame_on (new t) id ≡ Some (input_at domain tones w t id)
  inputs_new t less =
      (given_kept w.function.entities (controls_in w.controls) (input_at domain tones w t) (depends_on w.function.entities domain) (mid t) (new t) sound_here (given_here t less)
      (rendered_given w.function.entities (controls_in w.controls) (input_at domain tones w t) (depends_on w.function.entities domain) (mid t) (new t) (given_here t less)
      (rendered_here t less))).inputs

  pub ends_new : (t : ℕ) → t < suc last → (id : ℕ) → is_output (entity_in w id).kind ≡ true → is_end domain (entity_in w id) ≡ true
      → frame_on (new t) id ≡ Some (played_in domain tones w t id)
  ends_new t less id output end =
      ends_played tones w domain t (mid t) (new t) (given_here t less) (rendered_here t less) id end (ends_here id output ∙ end)

  puts : All (λ p. p.out ≡ false → 1 ≤ p.channels → (p.domain == domain) ≡ true → (t : ℕ) → t < suc last
      → frame_on (new t) p.terminal ≡ Some (played_to w (played_in domain tones w t) p.interface)) (ports device.device_streams)
  puts =
      all_ports
      (λ p. p.out ≡ false → 1 ≤ p.channels → (p.domain == domain) ≡ true → (t : ℕ) → t < suc last
      → frame_on (new t) p.terminal ≡ Some (played_to w (played_in domain tones w t) p.interface))
      device is
      (λ k d below other some here t less.
      (let s = get_or device.function.streams k d in
      let output : is_output (entity w.function.entities s.terminal).kind ≡ true =
      subst (λ (f : FunctionFields). is_output (entity f.entities s.terminal).kind ≡ true) stands.function (linked.outputs k d below other some) in
      let clocked : ((entity w.function.entities s.terminal).clock == domain) ≡ true =
      subst (λ (f : FunctionFields). ((entity f.entities s.terminal).clock == domain) ≡ true) stands.function here in
      let own : interface_in w.function s.number ≡ Some s =
      subst (λ (f : FunctionFields). find (λ t. t.number == s.number) f.streams ≡ Some s) stands.function (own_interface device.function k d numbered below) in
      ends_new t less s.terminal output (and_from (is_output (entity w.function.entities s.terminal).kind) _ output clocked)
      ∙ sym (ap (λ (o : Option StreamInterface). Some (option_map_or (λ i. played_in domain tones w t i.terminal) o [])) own)))

  streams_here : DeviceStreamsStand device_streams (outs_after domain w (suc last)) (ins_after domain tones w (suc last))
  streams_here =
      turned.put (is_on w domain) (λ t interface. played_to w (played_in domain tones w t) interface) (outs_after domain w (suc last)) w.ins
      (subst (All (λ p. is_on w domain p.interface ≡ (p.domain == domain))) (sym turned.same) (ports_on device w domain numbered is stands))
      (subst
      (All
      (λ p. p.out ≡ false → 1 ≤ p.channels → (p.domain == domain) ≡ true → (t : ℕ) → t < suc last
      → frame_on (new t) p.terminal ≡ Some (played_to w (played_in domain tones w t) p.interface)))
      (sym turned.same) puts)
      (turned.taken (is_on w domain) w.outs w.ins (ports_on device w domain numbered is stands) stands.streams)

  unlinked_here : (id : ℕ) → is_input (entity_in w id).kind ≡ true → is_jack (entity_in w id) ≡ false
      → find (λ s. s.terminal == id) w.function.streams ≡ None → input_at domain tones w last id ≡ silence (entity_in w id).cluster.channels
  unfolding input_at input_of streamed_frame
  unlinked_here id input bus nowhere =
      unlinked_gives (world_at domain tones w last) domain id nowhere (rw (jacks.none id bus) (stands.unlinked id input bus nowhere))

  outputs_here : (id : ℕ) → is_output (entity_in w id).kind ≡ true → frame_on wires id ≡ Some (played_in domain tones w last id)
  outputs_here id output = by (is_end domain (entity_in w id)) refl
    where
      by : (b : Bool) → is_end domain (entity_in w id) ≡ b → frame_on wires id ≡ Some (played_in domain tones w last id)
      by true end = turned.ends id end ∙ ends_new last (omega arith) id output end
      by false other = turned.others id output other ∙ stands.outputs id output ∙ ap (λ (frame : List ℤ). Some frame) (sym (played_before tones w domain last id other))

  by_parts : DeviceStands (record device { wires = wires; device_streams = device_streams; rows = rows }) (world_after domain tones (suc last) w)
  unfolding world_after given_after played_after
  by_parts = record {
    function = stands.function;
    controls = stands.controls;
    settings = stands.settings;
    clocks = stands.clocks;
    streams = streams_here;
    unlinked = unlinked_here;
    inputs = λ id input. turned.inputs id input ∙ inputs_new last (omega arith) id input;
    outputs = outputs_here;
  }

  pub ticks_stand : DeviceStands (record device { wires = wires; device_streams = device_streams; rows = rows }) (after_tick_times domain tones (suc last) w)
  ticks_stand = subst (DeviceStands (record device { wires = wires; device_streams = device_streams; rows = rows })) (sym (world_by_parts domain tones (suc last) w)) by_parts

  -- and what the meters hear of each tick is what they are to hear
  pub heard_new : (t : ℕ) → t < suc last → frames_heard (new t) domain (jacks_of device.function.entities) ≡ heard_at domain tones w t
  unfolding heard_at entity
  heard_new t less =
      ap (λ (f : FunctionFields). frames_heard (new t) domain (jacks_of f.entities)) stands.function
      ∙ heard_told (new t) domain (played_in domain tones w t) w.function.entities one
    where
      itself : (index : ℕ) → index < length w.function.entities → entity w.function.entities (at w.function.entities index).id ≡ at w.function.entities index
      itself index below = ap (at w.function.entities) (sound_here.distinct index below)

      one : (k : ℕ) (d : Entity) → k < length w.function.entities → is_end domain (get_or w.function.entities k d) ≡ true
          → frame_on (new t) (get_or w.function.entities k d).id ≡ Some (played_in domain tones w t (get_or w.function.entities k d).id)
      one k d below end =
          let e = get_or w.function.entities k d in
          let here : at w.function.entities k ≡ e = sym (at_read w.function.entities k e below (get_or_default w.function.entities k d (get_or w.function.entities k d) below)) in
          let same : entity w.function.entities e.id ≡ e = ap (λ (x : Entity). entity w.function.entities x.id) (sym here) ∙ itself k below ∙ here in
          ends_new t less e.id (ap (λ (x : Entity). is_output x.kind) same ∙ (and_parts (is_output e.kind) (e.clock == domain) end).0)
          (ap (is_end domain) same ∙ end)
