-- The terminals to which the interfaces of a sound function link (Audio Class 2.0, 4.9.2), and the streams that its settings run.
use Rattle.std.specs.Prelude.{◌≡◌, ℕ, ◌<◌, ◌≤◌, ◌==◌, true, false, length, get_or, position, Some}
use Rattle.std.specs.List.{All}
use Rattle.uac_entities.specs.declared.entity.Entity.{Entity}
use Rattle.uac_entities.specs.declared.stream.StreamInterface.{StreamInterface}
use Rattle.uac_topology_rules.specs.Clusters.{is_input}
use Rattle.uac_topology_rules.specs.Rules.{is_output}
use Rattle.uac_topology.specs.Function.{FunctionFields, interface_in}
use Rattle.uac_graph.specs.Meaning.{entity}
use Rattle.uac_alt.specs.AltStreams.{StreamFields}
use Rattle.uac_flow.specs.Flows.{CanRun}
use Rattle.uac_device.specs.DeviceWorld.{is_jack}

-- an input terminal of the bus
abbrev pub IsBusInput : Entity → Type 0
IsBusInput e = (is_input e.kind ≡ true) × (is_jack e ≡ false)

-- an output terminal, where there are channels
abbrev pub IsOutput : Entity → Type 0
IsOutput e = 1 ≤ e.cluster.channels → is_output e.kind ≡ true

-- what holds of the streaming interfaces of every sound function
pub record AreLinked (function : FunctionFields) : Type 0 where
  -- one that goes to the device links to an input terminal of the bus, and is the first that does
  pub inputs : All (λ s. s.out ≡ true → IsBusInput (entity function.entities s.terminal)) function.streams
  pub alone :
      (index : ℕ) (d : StreamInterface) → index < length function.streams → (get_or function.streams index d).out ≡ true
      → position (λ s. s.terminal == (get_or function.streams index d).terminal) function.streams ≡ Some index
  -- another links to an output terminal, or to nothing that has channels
  pub outputs : All (λ s. s.out ≡ false → IsOutput (entity function.entities s.terminal)) function.streams

-- a stream is one that an interface of the function can run: it goes the interface's way, and has its terminal's channels
pub record FitsInterface (function : FunctionFields) (interface : ℕ) (stream : StreamFields) : Type 0 where
  pub runs : CanRun stream
  pub streaming_interface : StreamInterface
  pub there : interface_in function interface ≡ Some streaming_interface
  pub out : stream.out ≡ streaming_interface.out
  pub channels : stream.channels ≡ (entity function.entities streaming_interface.terminal).cluster.channels
  pub some : 1 ≤ stream.channels
