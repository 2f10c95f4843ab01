use Rattle.std.proofs.Common.{◌≡◌, ℕ, ◌^◌, ◌<◌, ◌≤◌, Option, length, map, take}
use Rattle.std.specs.Option.{option_map}
use Rattle.uac_graph.specs.Wiring.{frame_on}
use Rattle.uac_flow.specs.FlowStreams.{InStream, OutStream}
use Rattle.uac_device.specs.InterfaceStreams.{set_of_streams}
use Rattle.uac_device.specs.DeviceStreams.{DeviceStreamsStand, is_found_dry, is_found_full, frame_given_by, ports, stream_taken_on}
use Rattle.uac_device.proofs.DeviceStreamsChangeLemmas.{IsTurnedTo}
use Rattle.uac_device.proofs.ticking.begin.Given as goal

abbrev pub invariant-loop-device_stream : goal.invariant-loop-device_stream
invariant-loop-device_stream l = record {
  turned : IsTurnedTo (stream_taken_on l.domain) (λ p in_. in_) l.device_streams l.initial.device_streams l.device_stream-index;
  frames : (outs : ℕ → Option OutStream) (ins : ℕ → Option InStream) → DeviceStreamsStand l.initial.device_streams outs ins
      → (id : ℕ) → frame_on l.wires id ≡ frame_given_by l.domain id outs (ports (take l.device_stream-index l.initial.device_streams)) (frame_on l.initial.wires id);
  lengths : (id : ℕ) → option_map length (frame_on l.wires id) ≡ option_map length (frame_on l.initial.wires id);
  inside : l.device_stream-index ≤ length l.initial.device_streams;
  weight : l.bit ≡ 2 ^ l.device_stream-index;
  under : (outs : ℕ → Option OutStream) (ins : ℕ → Option InStream) → DeviceStreamsStand l.initial.device_streams outs ins
      → l.under ≡ set_of_streams (map (λ p. is_found_dry l.domain (outs p.interface) p) (ports (take l.device_stream-index l.initial.device_streams)));
  over : (outs : ℕ → Option OutStream) (ins : ℕ → Option InStream) → DeviceStreamsStand l.initial.device_streams outs ins
      → l.over ≡ set_of_streams (map (λ p. is_found_full l.domain (ins p.interface) p) (ports (take l.device_stream-index l.initial.device_streams)));
  few_under : l.under < l.bit;
  few_over : l.over < l.bit;
}
