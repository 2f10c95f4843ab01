use Rattle.std.proofs.Common.{◌≡◌, ℕ, ◌<◌, ◌==◌, Bool, Option, take}
use Rattle.std.specs.List.{All}
use Rattle.uac_graph.specs.TickRows.{frames_at, slot_lengths}
use Rattle.uac_graph.specs.Wiring.{frame_on}
use Rattle.uac_flow.specs.FlowStreams.{InStream, OutStream}
use Rattle.uac_flow.specs.FlowTicks.{out_after_ticks}
use Rattle.uac_device.specs.InterfaceStreams.{changed_where}
use Rattle.uac_device.specs.DeviceStreams.{DeviceStreamsStand, frame_given_by, ports}
use Rattle.uac_device.specs.DeviceStreamTicks.{stream_after_on}
use Rattle.uac_device.proofs.DeviceStreamsChangeLemmas.{IsTurnedTo}
use Rattle.uac_device.proofs.stream_rows.take_all.Given as goal

abbrev pub invariant-loop-device_stream : goal.invariant-loop-device_stream
invariant-loop-device_stream l = record {
  turned : IsTurnedTo (stream_after_on l.domain l.ticks) (λ p in_. in_) l.device_streams l.initial.device_streams l.device_stream-index;
  frames : (on : ℕ → Bool) (outs : ℕ → Option OutStream) (ins : ℕ → Option InStream) → All (λ p. on p.interface ≡ (p.domain == l.domain)) (ports l.initial.device_streams)
      → DeviceStreamsStand l.initial.device_streams outs ins → (t : ℕ) → t < l.ticks → (id : ℕ) → frame_on (frames_at t l.rows) id
      ≡ frame_given_by l.domain id (changed_where on (λ interface. out_after_ticks t) outs) (ports (take l.device_stream-index l.initial.device_streams))
      (frame_on (frames_at t l.initial.rows) id);
  lengths : slot_lengths l.rows.slots ≡ slot_lengths l.initial.rows.slots;
  room : l.rows.room ≡ l.initial.rows.room;
}
