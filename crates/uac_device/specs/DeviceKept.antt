-- What a device keeps, and for which worlds it stands.
use Rattle.std.specs.Prelude.{◌≡◌, ℕ, ◌%◌, ◌<◌, ◌==◌, ◌≤ℤ◌, true, false, ℤ, pos, negsuc, List, map, sum, None, Some}
use Rattle.std.specs.List.{All, find}
use Rattle.std.specs.Option.{option_map}
use Rattle.uac_topology_rules.specs.Clusters.{is_input}
use Rattle.uac_topology_rules.specs.Rules.{is_output}
use Rattle.uac_topology.specs.Function.{FunctionFields}
use Rattle.uac_store.specs.declared.keys.Key.{Key}
use Rattle.uac_store.specs.StoreControls.{IsStoreOf}
use Rattle.uac_request.specs.Requests.{AreSettingsOf, AnswerFields, after_request, request_state, reply_of}
use Rattle.uac_request.specs.declared.setup.Setup.{Setup}
use Rattle.uac_alt.specs.AltStreams.{stream_fields}
use Rattle.uac_alt.specs.declared.settings.InterfaceSetting.{InterfaceSetting}
use Rattle.uac_graph.specs.TickRows.{RowsById}
use Rattle.uac_graph.specs.Wiring.{Frames, AreWiresOf, frame_on, silence}
use Rattle.uac_device.specs.declared.clocks.DomainClock.{DomainClock}
use Rattle.uac_device.specs.declared.device_stream.DeviceStream.{DeviceStream}
use Rattle.uac_device.specs.declared.streams.Begun.{Begun}
use Rattle.uac_device.specs.DeviceWorld.{BegunFields, Domain, DeviceWorld, after_control, entity_in, is_jack}
use Rattle.uac_device.specs.DeviceStreams.{DeviceStreamsStand, port_of, ports}

-- what a device is seen as: of its clocks it keeps the phase alone, and its frames are those on the wires; in rows it has those of the
-- ticks that it did at once last
pub record DeviceFields : Type 0 where
  pub function : FunctionFields
  pub controls : List (Key × ℤ)
  pub settings : List InterfaceSetting
  pub clocks : List DomainClock
  pub wires : Frames
  pub device_streams : List DeviceStream
  pub rows : RowsById

-- how a clock domain is kept: the remainder of its steps stands for them all
abbrev pub clock_of : Domain → DomainClock
clock_of d = record { domain = d.id; deviation = d.deviation; phase = sum d.steps % 65536 }

-- the device stands for this world. What the input terminals gave last is on their wires; a terminal of the bus to which no interface
-- links only ever gave silence
pub record DeviceStands (device : DeviceFields) (w : DeviceWorld) : Type 0 where
  pub function : device.function ≡ w.function
  pub controls : device.controls ≡ w.controls
  pub settings : device.settings ≡ w.settings
  pub clocks : device.clocks ≡ map clock_of w.domains
  pub streams : DeviceStreamsStand device.device_streams w.outs w.ins
  pub unlinked :
      (id : ℕ) → is_input (entity_in w id).kind ≡ true → is_jack (entity_in w id) ≡ false
      → find (λ s. s.terminal == id) w.function.streams ≡ None → w.given id ≡ silence (entity_in w id).cluster.channels
  pub inputs : (id : ℕ) → is_input (entity_in w id).kind ≡ true → frame_on device.wires id ≡ Some (w.given id)
  pub outputs : (id : ℕ) → is_output (entity_in w id).kind ≡ true → frame_on device.wires id ≡ Some (w.played id)

-- a clock is off by at most a tenth
abbrev pub IsDeviationInRange : ℤ → Type 0
IsDeviationInRange ppm = (negsuc 99999 ≤ℤ ppm) × (ppm ≤ℤ pos 100000)

-- what every device keeps: a value for each control of its function, a setting for each interface, a frame for each wire, a clock
-- for each of its domains, in range, none a frame past its last tick, and a stream for each streaming interface in block order
pub record IsDevice (device : DeviceFields) : Type 0 where
  pub store : IsStoreOf device.function.entities device.controls
  pub interfaces : AreSettingsOf device.function device.settings
  pub wires : AreWiresOf device.function.entities device.wires
  pub domains : map (λ c. c.domain) device.clocks ≡ device.function.domains
  pub clocks : All (λ c. IsDeviationInRange c.deviation) device.clocks
  pub phases : All (λ c. c.phase < 65536) device.clocks
  pub ports : ports device.device_streams ≡ map (port_of device.function.entities) device.function.streams

-- what a control request makes of a device, and what it is told
pub record IsControlled (p : Setup) (bytes : List ℕ) (told : AnswerFields) (old new : DeviceFields) : Type 0 where
  pub answer : told ≡ reply_of old.function (request_state old.controls old.settings) p bytes
  pub held : request_state new.controls new.settings ≡ after_request old.function (request_state old.controls old.settings) p bytes
  pub function : new.function ≡ old.function
  pub stands : (w : DeviceWorld) → DeviceStands old w → DeviceStands new (after_control p bytes w)

-- what a request began, as it is seen
abbrev pub begun_fields : Begun → BegunFields
begun_fields begun = record { interface = begun.interface; stream = option_map stream_fields begun.stream }
