-- A device whose streams change stands for the world in which they do.
use Rattle.std.proofs.Common.{◌≡◌, ◌∙◌, sym, refl, ap, subst, arith, ℕ, ◌<◌, ◌≤◌, ◌==◌, ◌||◌, Bool, true, false, nat_eq, ℤ, List, [], ◌∷◌, Option, Some, None, length, get_or, map, inl, inr}
use Rattle.std.specs.List.{All, find, list_any}
use Rattle.std.specs.Option.{option_map, option_map_or}
use Rattle.std.proofs.lemmas.Bool.{cases_Bool}
use Rattle.std.proofs.lemmas.List.{get_or-map, length-map}
use Rattle.std.proofs.lemmas.Map.Keys.{IsDistinct-tail}
use Rattle.uac_entities.specs.declared.entity.Entity.{Entity}
use Rattle.uac_entities.specs.declared.stream.StreamInterface.{StreamInterface}
use Rattle.uac_topology_rules.specs.Rules.{is_output}
use Rattle.uac_topology.specs.Function.{FunctionFields, interface_in}
use Rattle.uac_topology.specs.FunctionKept.{AreNumbered}
use Rattle.uac_graph.specs.Meaning.{entity}
use Rattle.uac_graph.specs.Wiring.{AreWiresOf, Frames, frame_on}
use Rattle.uac_graph.proofs.WiringTerminalLemmas.{input_signal, output_signal}
use Rattle.uac_graph.proofs.WiringWireLemmas.{signal_channels}
use Rattle.uac_flow.specs.FlowStreams.{InStream, OutStream, after_packet, after_sending_in, in_after_end, out_after_end}
use Rattle.uac_device.specs.declared.device_stream.DeviceStream.{DeviceStream}
use Rattle.uac_device.specs.declared.device_stream.Port.{Port}
use Rattle.uac_device.specs.InterfaceStreams.{NoneRuns, streams_changed_at, runs_either}
use Rattle.uac_device.specs.DeviceWorld.{DeviceWorld, is_on, played_to, after_receiving, after_sending_in_packet, after_end}
use Rattle.uac_device.specs.DeviceKept.{DeviceFields, IsDevice, DeviceStands}
use Rattle.uac_device.specs.Linked.{AreLinked}
use Rattle.uac_device.specs.DeviceStreams.{DeviceStreamStands, DeviceStreamsStand, IsWiredIn, IsWiredOut, idle_stream, port_of, ports}
use Rattle.uac_device.proofs.DeviceWorldInputLemmas.{find_own}

pub stands_streams : (device : DeviceFields) (device_streams : List DeviceStream) (w : DeviceWorld) (outs : ℕ → Option OutStream) (ins : ℕ → Option InStream) → DeviceStands device w
    → DeviceStreamsStand device_streams outs ins → DeviceStands (record device { device_streams = device_streams }) (record w { outs = outs; ins = ins })
stands_streams device device_streams w outs ins stands keeps = record {
  function = stands.function;
  controls = stands.controls;
  settings = stands.settings;
  clocks = stands.clocks;
  streams = keeps;
  unlinked = stands.unlinked;
  inputs = stands.inputs;
  outputs = stands.outputs;
}

-- an interface's port runs a stream where the interface does
pub one_port_runs : (outs : ℕ → Option OutStream) (ins : ℕ → Option InStream) (entities : List Entity) (streams : List StreamInterface)
    → list_any (λ (p : Port). runs_either (outs p.interface) (ins p.interface)) (map (port_of entities) streams)
    ≡ list_any (λ (s : StreamInterface). runs_either (outs s.number) (ins s.number)) streams
one_port_runs outs ins entities [] = refl
one_port_runs outs ins entities (s ∷ ss) = ap (λ (b : Bool). runs_either (outs s.number) (ins s.number) || b) (one_port_runs outs ins entities ss)

-- device streams stand for streams of which each is as it was
pub same_streams : (device_streams : List DeviceStream) (outs others : ℕ → Option OutStream) (ins more : ℕ → Option InStream) → DeviceStreamsStand device_streams outs ins → ((k : ℕ) → others k ≡ outs k)
    → ((k : ℕ) → more k ≡ ins k) → DeviceStreamsStand device_streams others more
same_streams device_streams outs others ins more keeps same alike = record {
  each = λ index d below.
      let n = (get_or device_streams index d).port.interface in
      subst (λ (o : Option OutStream). DeviceStreamStands (get_or device_streams index d) o (more n)) (sym (same n))
      (subst (λ (i : Option InStream). DeviceStreamStands (get_or device_streams index d) (outs n) i) (sym (alike n)) (keeps.each index d below));
  none = λ k is. let before = keeps.none k is in (same k ∙ before.0, alike k ∙ before.1);
}

none_changed : {S : Type 0} (interface k : ℕ) (change : S → S) (streams : ℕ → Option S) → streams k ≡ None → streams_changed_at interface change streams k ≡ None
none_changed interface k change streams none =
    elim (cases_Bool (k == interface)) [ inl same ↦ rw same (ap (option_map change) none) | inr other ↦ rw other none ]

-- where no interface runs a stream none does when a microframe ended, and the device stands as it is for the world in which it did
pub none_ended : (w : DeviceWorld) (interface : ℕ) → NoneRuns w.outs w.ins → NoneRuns (after_end interface w).outs (after_end interface w).ins
unfolding after_end
none_ended w interface none k =
    (none_changed interface k out_after_end w.outs (none k).0, none_changed interface k in_after_end w.ins (none k).1)

pub quiet_ended : (device : DeviceFields) (w : DeviceWorld) (interface : ℕ) → NoneRuns w.outs w.ins → DeviceStands device w → DeviceStands device (after_end interface w)
unfolding after_end
quiet_ended device w interface none stands =
    stands_streams device device.device_streams w (streams_changed_at interface out_after_end w.outs) (streams_changed_at interface in_after_end w.ins) stands
    (same_streams device.device_streams w.outs (streams_changed_at interface out_after_end w.outs) w.ins (streams_changed_at interface in_after_end w.ins) stands.streams
    (λ k. none_changed interface k out_after_end w.outs (none k).0 ∙ sym (none k).0) (λ k. none_changed interface k in_after_end w.ins (none k).1 ∙ sym (none k).1))

pub received_stands : (device : DeviceFields) (device_streams : List DeviceStream) (w : DeviceWorld) (interface : ℕ) (packet : Option (List ℕ)) → DeviceStands device w
    → DeviceStreamsStand device_streams (streams_changed_at interface (after_packet packet) w.outs) w.ins → DeviceStands (record device { device_streams = device_streams }) (after_receiving interface packet w)
unfolding after_receiving
received_stands device device_streams w interface packet stands keeps = stands_streams device device_streams w (streams_changed_at interface (after_packet packet) w.outs) w.ins stands keeps

pub sent_stands : (device : DeviceFields) (device_streams : List DeviceStream) (w : DeviceWorld) (interface : ℕ) → DeviceStands device w
    → DeviceStreamsStand device_streams w.outs (streams_changed_at interface after_sending_in w.ins) → DeviceStands (record device { device_streams = device_streams }) (after_sending_in_packet interface w)
unfolding after_sending_in_packet
sent_stands device device_streams w interface stands keeps = stands_streams device device_streams w w.outs (streams_changed_at interface after_sending_in w.ins) stands keeps

pub ended_stands : (device : DeviceFields) (device_streams : List DeviceStream) (w : DeviceWorld) (interface : ℕ) → DeviceStands device w
    → DeviceStreamsStand device_streams (streams_changed_at interface out_after_end w.outs) (streams_changed_at interface in_after_end w.ins) → DeviceStands (record device { device_streams = device_streams }) (after_end interface w)
unfolding after_end
ended_stands device device_streams w interface stands keeps =
    stands_streams device device_streams w (streams_changed_at interface out_after_end w.outs) (streams_changed_at interface in_after_end w.ins) stands keeps

-- what every device keeps, with other streams of the same ports
pub device_with_streams : (device : DeviceFields) (device_streams : List DeviceStream) → IsDevice device → ports device_streams ≡ ports device.device_streams → IsDevice (record device { device_streams = device_streams })
device_with_streams device device_streams is same = record {
  store = is.store;
  interfaces = is.interfaces;
  wires = is.wires;
  domains = is.domains;
  clocks = is.clocks;
  phases = is.phases;
  ports = same ∙ is.ports;
}

-- ---- the ports of a function

-- idle streams have the ports of the interfaces
pub ports_idle : (entities : List Entity) (streams : List StreamInterface) → ports (map (λ s. idle_stream (port_of entities s)) streams) ≡ map (port_of entities) streams
ports_idle entities [] = refl
ports_idle entities (s ∷ ss) = ap (λ ps. port_of entities s ∷ ps) (ports_idle entities ss)

-- what holds of each interface's port holds of the ports
pub all_ports : (P : Port → Type 0) (device : DeviceFields) → IsDevice device
    → ((k : ℕ) (d : StreamInterface) → k < length device.function.streams → P (port_of device.function.entities (get_or device.function.streams k d)))
    → All P (ports device.device_streams)
all_ports P device is each =
    subst (All P) (sym is.ports)
    (λ k d below.
    (let inside : k < length device.function.streams = omega (arith, below, length-map device.function.streams (port_of device.function.entities)) in
    let e = no_interface in
    subst P (sym (get_or-map (port_of device.function.entities) device.function.streams k e d inside)) (each k e inside)))
  where
    no_interface : StreamInterface
    no_interface = record { number = 0; terminal = 0; out = false; settings = [] }

-- an interface is the one with its number
pub own_interface : (function : FunctionFields) (k : ℕ) (d : StreamInterface) → AreNumbered function → k < length function.streams
    → find (λ t. t.number == (get_or function.streams k d).number) function.streams ≡ Some (get_or function.streams k d)
own_interface function k d numbered below =
    find_own (λ (s : StreamInterface). s.number) function.streams k d
    (IsDistinct-tail nat_eq function.control_interface (map (λ (s : StreamInterface). s.number) function.streams) numbered.different) below

-- its terminal is of the domain of its clock
pub ports_on : (device : DeviceFields) (w : DeviceWorld) (domain : ℕ) → AreNumbered device.function → IsDevice device → DeviceStands device w
    → All (λ p. is_on w domain p.interface ≡ (p.domain == domain)) (ports device.device_streams)
ports_on device w domain numbered is stands =
    all_ports (λ p. is_on w domain p.interface ≡ (p.domain == domain)) device is
    (λ k d below.
    subst (λ (f : FunctionFields). option_map_or (λ s. (entity f.entities s.terminal).clock == domain) (find (λ s. s.number == (get_or device.function.streams k d).number) f.streams) false
    ≡ ((entity device.function.entities (get_or device.function.streams k d).terminal).clock == domain)) stands.function
    (ap (λ (o : Option StreamInterface). option_map_or (λ s. (entity device.function.entities s.terminal).clock == domain) o false) (own_interface device.function k d numbered below)))

-- a port that goes to the device has a wire, and so has one from an output terminal
pub ports_wired_in : (device : DeviceFields) (wires : Frames) → AreLinked device.function → AreWiresOf device.function.entities wires → IsDevice device
    → All (IsWiredIn wires) (ports device.device_streams)
ports_wired_in device wires linked fitting is =
    all_ports (IsWiredIn wires) device is
    (λ k d below out.
    (let t = (get_or device.function.streams k d).terminal in
    let input = (linked.inputs k d below out).0 in
    fitting.channels t ∙ signal_channels device.function.entities t (input_signal (entity device.function.entities t).kind input)))

pub ports_wired_out : (device : DeviceFields) (wires : Frames) → AreLinked device.function → AreWiresOf device.function.entities wires → IsDevice device
    → All (IsWiredOut wires) (ports device.device_streams)
ports_wired_out device wires linked fitting is =
    all_ports (IsWiredOut wires) device is
    (λ k d below other some.
    (let t = (get_or device.function.streams k d).terminal in
    let output = linked.outputs k d below other some in
    fitting.channels t ∙ signal_channels device.function.entities t (output_signal (entity device.function.entities t).kind output)))

-- what the output terminals of the bus played is on their wires
pub ports_played : (device : DeviceFields) (wires : Frames) (w : DeviceWorld) (played : ℕ → List ℤ) → AreNumbered device.function → AreLinked device.function
    → IsDevice device → device.function ≡ w.function
    → ((id : ℕ) → is_output (entity w.function.entities id).kind ≡ true → frame_on wires id ≡ Some (played id))
    → All (λ p. p.out ≡ false → 1 ≤ p.channels → frame_on wires p.terminal ≡ Some (played_to w played p.interface)) (ports device.device_streams)
ports_played device wires w played numbered linked is same outputs =
    all_ports (λ p. p.out ≡ false → 1 ≤ p.channels → frame_on wires p.terminal ≡ Some (played_to w played p.interface)) device is
    (λ k d below other some.
    (let s = get_or device.function.streams k d in
    let output = linked.outputs k d below other some in
    let here : is_output (entity w.function.entities s.terminal).kind ≡ true = subst (λ (f : FunctionFields). is_output (entity f.entities s.terminal).kind ≡ true) same output in
    let own : interface_in w.function s.number ≡ Some s = subst (λ (f : FunctionFields). find (λ t. t.number == s.number) f.streams ≡ Some s) same (own_interface device.function k d numbered below) in
    outputs s.terminal here ∙ sym (ap (λ (o : Option StreamInterface). Some (option_map_or (λ t. played t.terminal) o [])) own)))
