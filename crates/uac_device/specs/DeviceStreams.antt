-- How the streams of the interfaces are kept: one for each streaming interface, in block order.
use Rattle.std.specs.Prelude.{◌≡◌, ℕ, ◌≤◌, ◌==◌, ◌&&◌, Bool, true, false, if◌then◌else◌, nat_eq, ℤ, List, [], map, length, position, Option}
use Rattle.std.specs.Prelude.{Some, None, unwrap_or}
use Rattle.std.specs.List.{All, IsDistinct, fold}
use Rattle.std.specs.Option.{option_and_then, option_map, option_map_or}
use Rattle.uac_entities.specs.declared.entity.Entity.{Entity}
use Rattle.uac_entities.specs.declared.stream.StreamInterface.{StreamInterface}
use Rattle.uac_graph.specs.Meaning.{entity}
use Rattle.uac_graph.specs.Wiring.{Frames, frame_on, silence}
use Rattle.uac_alt.specs.AltStreams.{StreamFields}
use Rattle.uac_flow.specs.Flows.{CanRun, IsInFlow, IsOutFlow, InStands, OutStands}
use Rattle.uac_flow.specs.FlowStreams.{InStream, OutStream, after_putting, after_taking, after_ticks, is_dry, is_full, next_taken}
use Rattle.uac_device.specs.declared.device_stream.Port.{Port}
use Rattle.uac_device.specs.declared.device_stream.Flow.{Flow}
use Rattle.uac_device.specs.declared.device_stream.Flow.TheVariants as flow
use Rattle.uac_device.specs.declared.device_stream.DeviceStream.{DeviceStream}
use Rattle.uac_device.specs.declared.ticking.Ticked.{Ticked}
use Rattle.uac_device.specs.InterfaceStreams.{set_of_streams}

-- an interface with a terminal of this clock and so many channels
abbrev pub port_with : StreamInterface → ℕ → ℕ → Port
port_with s domain channels = record { interface = s.number; terminal = s.terminal; domain = domain; channels = channels; out = s.out }

-- an interface with the terminal to which it links
abbrev pub port_of : List Entity → StreamInterface → Port
port_of entities s = port_with s (entity entities s.terminal).clock (entity entities s.terminal).cluster.channels

-- what is kept of an interface that runs no stream
abbrev pub idle_stream : Port → DeviceStream
idle_stream port = record { port = port; ring = []; flow = flow.Idle }

-- a ring and what is kept beside it stand for these: the stream to the device that an interface runs, or that from it
abbrev pub FlowStands : List (List ℤ) → Flow → Option OutStream → Option InStream → Type 0
FlowStands ring flow.Idle out in_ = (out ≡ None) × (in_ ≡ None)
FlowStands ring (flow.Out f) out in_ = (o : OutStream) × (out ≡ Some o) × (in_ ≡ None) × OutStands ring f o
FlowStands ring (flow.In f) out in_ = (i : InStream) × (in_ ≡ Some i) × (out ≡ None) × InStands ring f i

abbrev pub DeviceStreamStands : DeviceStream → Option OutStream → Option InStream → Type 0
DeviceStreamStands l out in_ = FlowStands l.ring l.flow out in_

-- whether an interface runs a stream
abbrev pub is_running : Flow → Bool
is_running flow.Idle = false
is_running (flow.Out f) = true
is_running (flow.In f) = true

-- what is kept of an interface, before and after an event that changes streams so
pub record Changes (outs : Option OutStream → Option OutStream) (ins : Option InStream → Option InStream)
    (old new : DeviceStream) : Type 0 where
  pub port : new.port ≡ old.port
  pub stands : (out : Option OutStream) (in_ : Option InStream) → DeviceStreamStands old out in_
      → DeviceStreamStands new (outs out) (ins in_)

-- a stream fits an interface: it can run, goes the interface's way, and has its terminal's channels
pub record FitsPort (port : Port) (stream : StreamFields) : Type 0 where
  pub runs : CanRun stream
  pub out : stream.out ≡ port.out
  pub channels : stream.channels ≡ port.channels
  pub some : 1 ≤ port.channels

-- what is always so of an interface
abbrev pub IsFlow : Port → List (List ℤ) → Flow → Type 0
IsFlow port ring flow.Idle = Unit {0}
IsFlow port ring (flow.Out f) = IsOutFlow ring f × (port.out ≡ true) × (f.stream.format.channels ≡ port.channels)
IsFlow port ring (flow.In f) = IsInFlow ring f × (port.out ≡ false) × (f.stream.format.channels ≡ port.channels) × (1 ≤ port.channels)

abbrev pub IsDeviceStream : DeviceStream → Type 0
IsDeviceStream l = IsFlow l.port l.ring l.flow

-- the index of an interface's stream
abbrev pub device_stream_index : List DeviceStream → ℕ → Option ℕ
device_stream_index device_streams interface = position (λ l. l.port.interface == interface) device_streams

-- the ports of the interfaces
abbrev pub ports : List DeviceStream → List Port
ports device_streams = map (λ l. l.port) device_streams

-- what is kept of the interfaces stands for these streams, by interface
pub record DeviceStreamsStand (device_streams : List DeviceStream) (outs : ℕ → Option OutStream) (ins : ℕ → Option InStream) : Type 0 where
  pub each : All (λ l. DeviceStreamStands l (outs l.port.interface) (ins l.port.interface)) device_streams
  pub none : (interface : ℕ) → device_stream_index device_streams interface ≡ None → (outs interface ≡ None) × (ins interface ≡ None)

-- what is always so of all of them: they are of different interfaces
pub record AreDeviceStreams (device_streams : List DeviceStream) : Type 0 where
  pub each : All IsDeviceStream device_streams
  pub apart : IsDistinct nat_eq (map (λ l. l.port.interface) device_streams)

-- ---- a tick

-- an interface's terminal has a wire with its channels
abbrev pub IsWired : Frames → Port → Type 0
IsWired wires p = option_map length (frame_on wires p.terminal) ≡ Some p.channels

-- so it is for each that goes to the device, and for each that comes from it where there is one
abbrev pub IsWiredIn : Frames → Port → Type 0
IsWiredIn wires p = p.out ≡ true → IsWired wires p

abbrev pub IsWiredOut : Frames → Port → Type 0
IsWiredOut wires p = p.out ≡ false → 1 ≤ p.channels → IsWired wires p

-- a tick of this domain gives a terminal a frame by this interface
abbrev pub gives_to : ℕ → ℕ → Port → Bool
gives_to domain id p = p.out && (p.domain == domain && p.terminal == id)

-- the frame that is given: the next of the stream, or silence
abbrev pub frame_given : Option OutStream → Port → List ℤ
frame_given out p = unwrap_or (option_and_then next_taken out) (silence p.channels)

-- the frame on a terminal's wire, after all these interfaces gave theirs
abbrev pub frame_given_by : ℕ → ℕ → (ℕ → Option OutStream) → List Port → Option (List ℤ) → Option (List ℤ)
frame_given_by domain id outs ps before =
    fold (λ frame p. if gives_to domain id p then Some (frame_given (outs p.interface) p) else frame) before ps

-- what the ticks of a domain make of the stream of an interface, where its terminal is of that domain
abbrev pub stream_counted_on : ℕ → ℕ → Port → Option OutStream → Option OutStream
stream_counted_on domain ticks p out = option_map (λ o. if p.domain == domain then after_ticks ticks o else o) out

abbrev pub stream_taken_on : ℕ → Port → Option OutStream → Option OutStream
stream_taken_on domain p out = option_map (λ o. if p.domain == domain then after_taking o else o) out

abbrev pub stream_put_on : ℕ → List ℤ → Port → Option InStream → Option InStream
stream_put_on domain frame p in_ = option_map (λ i. if p.domain == domain then after_putting frame i else i) in_

-- the interfaces that a tick of a domain finds dry, and full
abbrev pub is_found_dry : ℕ → Option OutStream → Port → Bool
is_found_dry domain out p = p.domain == domain && option_map_or is_dry out false

abbrev pub is_found_full : ℕ → Option InStream → Port → Bool
is_found_full domain in_ p = p.domain == domain && option_map_or is_full in_ false

abbrev pub met_by : ℕ → (ℕ → Option OutStream) → (ℕ → Option InStream) → List Port → Ticked
met_by domain outs ins ps =
    record {
      under = set_of_streams (map (λ p. is_found_dry domain (outs p.interface) p) ps);
      over = set_of_streams (map (λ p. is_found_full domain (ins p.interface) p) ps);
    }
