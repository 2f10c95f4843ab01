-- What a device's tick gives the input terminals of a world for which it stands.
use Rattle.std.proofs.Common.{◌≡◌, ◌∙◌, sym, refl, ap, subst, arith, ℕ, suc, ◌<◌, ◌≤◌, ◌&&◌, ◌==◌, Bool, true, false, ℤ, List, [], ◌∷◌, Option, Some, length, get_or, map, inl, inr}
use Rattle.std.specs.List.{All}
use Rattle.std.specs.Option.{option_map, option_map_or}
use Rattle.std.proofs.lemmas.List.{length-map}
use Rattle.std.proofs.lemmas.Bool.{and_parts}
use Rattle.uac_entities.specs.declared.entity.Entity.{Entity}
use Rattle.uac_entities.specs.declared.stream.StreamInterface.{StreamInterface}
use Rattle.uac_topology_rules.specs.Clusters.{is_input}
use Rattle.uac_topology_rules.specs.Rules.{is_output}
use Rattle.uac_topology_rules.specs.Table.{at, nothing, index_of}
use Rattle.uac_topology.specs.Function.{FunctionFields}
use Rattle.uac_topology.specs.FunctionKept.{AreNumbered, HaveChannels}
use Rattle.uac_graph.specs.Meaning.{entity}
use Rattle.uac_graph.specs.TickRows.{RowsById}
use Rattle.uac_graph.specs.Wiring.{AreWiresOf, Frames, frame_on}
use Rattle.uac_graph.proofs.LinksLemmas.{entity_past, index_or_none}
use Rattle.uac_graph.proofs.WiringTerminalLemmas.{input_signal}
use Rattle.uac_flow.specs.FlowStreams.{InStream, OutStream, after_putting, after_taking, is_dry, is_full}
use Rattle.uac_device.specs.declared.ticking.Ticked.{Ticked}
use Rattle.uac_device.specs.declared.device_stream.DeviceStream.{DeviceStream}
use Rattle.uac_device.specs.declared.device_stream.Port.{Port}
use Rattle.uac_device.specs.InterfaceStreams.{set_of_streams, changed_where}
use Rattle.uac_device.specs.DeviceWorld.{DeviceWorld, entity_in, input_of, is_on, is_streamed, met_of, played_to, after_tick}
use Rattle.uac_device.specs.DeviceKept.{DeviceFields, IsDevice, DeviceStands}
use Rattle.uac_device.specs.Linked.{AreLinked}
use Rattle.uac_device.specs.DeviceStreams.{DeviceStreamsStand, is_found_dry, is_found_full, frame_given_by, met_by, port_of, ports}
use Rattle.uac_device.proofs.DeviceWorldInputLemmas.{apart, given_input, given_nothing}
use Rattle.uac_device.proofs.DeviceWorldLemmas.{Mid, Rendered, outputs_after, tick_stands}
use Rattle.uac_device.proofs.DeviceKeptStreamLemmas.{own_interface, ports_on, ports_played}

-- the channels of an input terminal
pub input_channels : (entities : List Entity) (id : ℕ) → HaveChannels entities → is_input (entity entities id).kind ≡ true
    → (1 ≤ (entity entities id).cluster.channels) × ((entity entities id).cluster.channels ≤ 32)
unfolding entity at
input_channels entities id have input = elim (index_or_none entities id) [
  | inl below ↦ have (index_of entities id) nothing below (input_signal (entity entities id).kind input)
  | inr past ↦ absurd (let e : is_input (entity entities id).kind ≡ false = ap (λ (e : Entity). is_input e.kind) (entity_past entities id past) in cc)
]

-- an output terminal takes no stream
unstreamed : (domain : ℕ) (e : Entity) → is_output e.kind ≡ true → is_streamed domain e ≡ false
unstreamed domain e output = by (is_streamed domain e) refl
  where
    by : (b : Bool) → is_streamed domain e ≡ b → b ≡ false
    by true streamed = absurd (apart e.kind (and_parts (is_input e.kind) _ streamed).0 output)
    by false streamed = refl

pub mid_of : (device : DeviceFields) (mid : Frames) (domain : ℕ) (w : DeviceWorld) → AreLinked device.function → HaveChannels device.function.entities → IsDevice device
    → DeviceStands device w → ((id : ℕ) → frame_on mid id ≡ frame_given_by domain id w.outs (ports device.device_streams) (frame_on device.wires id)) → Mid mid domain w
mid_of device mid domain w linked have is stands frames = record { inputs = inputs; outputs = outputs }
  where
    linked_here : AreLinked w.function
    linked_here = subst AreLinked stands.function linked

    have_here : HaveChannels w.function.entities
    have_here = subst (λ (f : FunctionFields). HaveChannels f.entities) stands.function have

    ports_here : ports device.device_streams ≡ map (port_of w.function.entities) w.function.streams
    ports_here = is.ports ∙ ap (λ (f : FunctionFields). map (port_of f.entities) f.streams) stands.function

    from : (id : ℕ) → frame_on mid id ≡ frame_given_by domain id w.outs (map (port_of w.function.entities) w.function.streams) (frame_on device.wires id)
    from id = frames id ∙ ap (λ (ps : List Port). frame_given_by domain id w.outs ps (frame_on device.wires id)) ports_here

    inputs : (id : ℕ) → is_input (entity_in w id).kind ≡ true → frame_on mid id ≡ Some (input_of domain w id)
    inputs id input =
        from id
        ∙ given_input w domain id (frame_on device.wires id) linked_here input (input_channels w.function.entities id have_here input).0 (stands.inputs id input)
        (λ bus nowhere. stands.unlinked id input bus nowhere)

    outputs : (id : ℕ) → is_output (entity_in w id).kind ≡ true → frame_on mid id ≡ Some (w.played id)
    outputs id output =
        from id ∙ given_nothing w domain id (frame_on device.wires id) linked_here (unstreamed domain (entity_in w id) output) ∙ stands.outputs id output

-- wires on which frames are exchanged for others of the same length
pub wires_kept : (entities : List Entity) (old new : Frames) → AreWiresOf entities old
    → ((id : ℕ) → option_map length (frame_on new id) ≡ option_map length (frame_on old id)) → AreWiresOf entities new
wires_kept entities old new fitting same = record { channels = λ id. same id ∙ fitting.channels id }

-- what every device keeps, with other frames and streams of the same ports
pub device_with_wires : (device : DeviceFields) (wires : Frames) (device_streams : List DeviceStream) → IsDevice device → AreWiresOf device.function.entities wires
    → ports device_streams ≡ ports device.device_streams → IsDevice (record device { wires = wires; device_streams = device_streams })
device_with_wires device wires device_streams is fitting same = record {
  store = is.store;
  interfaces = is.interfaces;
  wires = fitting;
  domains = is.domains;
  clocks = is.clocks;
  phases = is.phases;
  ports = same ∙ is.ports;
}

-- and with the rows of other ticks
pub device_with_rows : (device : DeviceFields) (rows : RowsById) → IsDevice device → IsDevice (record device { rows = rows })
device_with_rows device rows is = record {
  store = is.store;
  interfaces = is.interfaces;
  wires = is.wires;
  domains = is.domains;
  clocks = is.clocks;
  phases = is.phases;
  ports = is.ports;
}

-- there are as many device streams as interfaces
pub streams_few : (device : DeviceFields) → IsDevice device → length device.function.streams ≤ 8 → length device.device_streams ≤ 8
streams_few device is few =
    omega (arith, few, sym (length-map device.device_streams (λ (l : DeviceStream). l.port)) ∙ ap length is.ports ∙ length-map device.function.streams (port_of device.function.entities))

-- what the parts of a tick did: the terminals of the bus took their frames, the graph was rendered, and the streams took what was played
pub record Turned (device : DeviceFields) (mid wires : Frames) (between device_streams : List DeviceStream) (domain : ℕ) : Type 0 where
  pub frames :
      (outs : ℕ → Option OutStream) (ins : ℕ → Option InStream) → DeviceStreamsStand device.device_streams outs ins
      → (id : ℕ) → frame_on mid id ≡ frame_given_by domain id outs (ports device.device_streams) (frame_on device.wires id)
  pub given :
      (on : ℕ → Bool) (outs : ℕ → Option OutStream) (ins : ℕ → Option InStream) → All (λ p. on p.interface ≡ (p.domain == domain)) (ports device.device_streams)
      → DeviceStreamsStand device.device_streams outs ins → DeviceStreamsStand between (changed_where on (λ interface. after_taking) outs) ins
  pub same : ports between ≡ ports device.device_streams
  pub rendered : Rendered device mid wires domain
  pub put :
      (on : ℕ → Bool) (played : ℕ → List ℤ) (outs : ℕ → Option OutStream) (ins : ℕ → Option InStream) → All (λ p. on p.interface ≡ (p.domain == domain)) (ports between)
      → All (λ p. p.out ≡ false → 1 ≤ p.channels → frame_on wires p.terminal ≡ Some (played p.interface)) (ports between)
      → DeviceStreamsStand between outs ins → DeviceStreamsStand device_streams outs (changed_where on (λ interface. after_putting (played interface)) ins)

pub ticked_stands : (device : DeviceFields) (mid wires : Frames) (between device_streams : List DeviceStream) (domain : ℕ) (w : DeviceWorld) → AreNumbered device.function → AreLinked device.function
    → HaveChannels device.function.entities → IsDevice device → Turned device mid wires between device_streams domain → DeviceStands device w
    → DeviceStands (record device { wires = wires; device_streams = device_streams }) (after_tick domain w)
unfolding after_tick
ticked_stands device mid wires between device_streams domain w numbered linked have is turned stands =
    tick_stands device mid wires domain w turned.rendered given stands.function stands.controls device_streams
    (turned.put (is_on w domain) (played_to w (after_tick domain w).played) (changed_where (is_on w domain) (λ interface. after_taking) w.outs) w.ins
    (subst (All (λ p. is_on w domain p.interface ≡ (p.domain == domain))) (sym turned.same) on)
    (subst (All (λ p. p.out ≡ false → 1 ≤ p.channels → frame_on wires p.terminal ≡ Some (played_to w (after_tick domain w).played p.interface))) (sym turned.same)
    (ports_played device wires w (after_tick domain w).played numbered linked is stands.function
    (outputs_after device mid wires domain w turned.rendered given stands.function stands.controls)))
    (turned.given (is_on w domain) w.outs w.ins on stands.streams))
    stands
  where
    given : Mid mid domain w
    given = mid_of device mid domain w linked have is stands (turned.frames w.outs w.ins stands.streams)

    on : All (λ p. is_on w domain p.interface ≡ (p.domain == domain)) (ports device.device_streams)
    on = ports_on device w domain numbered is stands

-- what it met
same_bits : (entities : List Entity) (f : Port → Bool) (g : StreamInterface → Bool) (streams : List StreamInterface)
    → ((k : ℕ) (d : StreamInterface) → k < length streams → f (port_of entities (get_or streams k d)) ≡ g (get_or streams k d))
    → map f (map (port_of entities) streams) ≡ map g streams
same_bits entities f g [] same = refl
same_bits entities f g (s ∷ ss) same =
    ap (λ (b : Bool). b ∷ map f (map (port_of entities) ss)) (same 0 s (omega arith))
    ∙ ap (λ (bs : List Bool). g s ∷ bs) (same_bits entities f g ss (λ k d below. same (suc k) d (omega (arith, below))))

pub met_here : (device : DeviceFields) (w : DeviceWorld) (domain : ℕ) → AreNumbered device.function → IsDevice device → DeviceStands device w
    → met_by domain w.outs w.ins (ports device.device_streams) ≡ met_of domain w
unfolding met_of
met_here device w domain numbered is stands =
    ap (met_by domain w.outs w.ins) (is.ports ∙ ap (λ (f : FunctionFields). map (port_of f.entities) f.streams) stands.function)
    ∙ ap (λ (bits : List Bool). met bits (map (λ (p : Port). is_found_full domain (w.ins p.interface) p) (map (port_of entities) streams)))
    (same_bits entities (λ p. is_found_dry domain (w.outs p.interface) p) dry streams
    (λ k d below. ap (λ (b : Bool). b && option_map_or is_dry (w.outs (get_or streams k d).number) false) (on k d below)))
    ∙ ap (λ (bits : List Bool). met (map dry streams) bits)
    (same_bits entities (λ p. is_found_full domain (w.ins p.interface) p) full streams
    (λ k d below. ap (λ (b : Bool). b && option_map_or is_full (w.ins (get_or streams k d).number) false) (on k d below)))
  where
    entities : List Entity
    entities = w.function.entities

    streams : List StreamInterface
    streams = w.function.streams

    met : List Bool → List Bool → Ticked
    met under over = record { under = set_of_streams under; over = set_of_streams over }

    dry : StreamInterface → Bool
    dry s = is_on w domain s.number && option_map_or is_dry (w.outs s.number) false

    full : StreamInterface → Bool
    full s = is_on w domain s.number && option_map_or is_full (w.ins s.number) false

    on : (k : ℕ) (d : StreamInterface) → k < length streams → ((entity entities (get_or streams k d).terminal).clock == domain) ≡ is_on w domain (get_or streams k d).number
    on k d below =
        sym (ap (λ (o : Option StreamInterface). option_map_or (λ s. (entity entities s.terminal).clock == domain) o false)
        (own_interface w.function k d (subst AreNumbered stands.function numbered) below))
