-- The beginning and the end of a tick in a device's streams, and a device that is still, where neither changes anything.
use Rattle.std.specs.Prelude.{◌≡◌, ℕ, ◌≤◌, ◌==◌, Bool, true, false, ℤ, List, Option, Some}
use Rattle.std.specs.List.{All}
use Rattle.uac_graph.specs.Wiring.{Frames, frame_on, silence}
use Rattle.uac_flow.specs.FlowStreams.{InStream, OutStream, after_putting, after_taking}
use Rattle.uac_device.specs.InterfaceStreams.{NoneRuns, changed_where}
use Rattle.uac_device.specs.DeviceStreams.{DeviceStreamsStand, frame_given_by, met_by, ports}
use Rattle.uac_device.specs.declared.device_stream.DeviceStream.{DeviceStream}
use Rattle.uac_device.specs.declared.ticking.Ticked.{Ticked}
use Rattle.uac_device.specs.DeviceWorld.{DeviceWorld, entity_in, is_streamed}

-- no interface runs a stream, and each terminal of the bus in the domain gave silence last
pub record IsStill (domain : ℕ) (w : DeviceWorld) : Type 0 where
  pub none : NoneRuns w.outs w.ins
  pub gave : (id : ℕ) → is_streamed domain (entity_in w id) ≡ true → w.given id ≡ silence (entity_in w id).cluster.channels

-- a tick of a domain began: the terminals of the bus gave their frames, and this was met
pub record HasBegun (domain : ℕ) (old new : List DeviceStream) (before after : Frames) (found : Ticked) : Type 0 where
  pub met :
      (outs : ℕ → Option OutStream) (ins : ℕ → Option InStream) → DeviceStreamsStand old outs ins
      → found ≡ met_by domain outs ins (ports old)
  pub stands :
      (on : ℕ → Bool) (outs : ℕ → Option OutStream) (ins : ℕ → Option InStream)
      → All (λ p. on p.interface ≡ (p.domain == domain)) (ports old) → DeviceStreamsStand old outs ins
      → DeviceStreamsStand new (changed_where on (λ interface. after_taking) outs) ins
  pub frames :
      (outs : ℕ → Option OutStream) (ins : ℕ → Option InStream) → DeviceStreamsStand old outs ins
      → (id : ℕ) → frame_on after id ≡ frame_given_by domain id outs (ports old) (frame_on before id)

-- a tick ended: the streams from the terminals of the domain have the frames that these played
pub record TickHasEnded (domain : ℕ) (old new : List DeviceStream) (wires : Frames) : Type 0 where
  pub stands :
      (on : ℕ → Bool) (played : ℕ → List ℤ) (outs : ℕ → Option OutStream) (ins : ℕ → Option InStream)
      → All (λ p. on p.interface ≡ (p.domain == domain)) (ports old)
      → All (λ p. p.out ≡ false → 1 ≤ p.channels → frame_on wires p.terminal ≡ Some (played p.interface)) (ports old)
      → DeviceStreamsStand old outs ins → DeviceStreamsStand new outs (changed_where on (λ interface. after_putting (played interface)) ins)
