use Rattle.std.proofs.Common.{◌≡◌, ℕ, map, take}
use Rattle.std.specs.Io.KnownBytes.{Appends}
use Rattle.uac_device.specs.DeviceKept.{DeviceStands}
use Rattle.uac_device.specs.DeviceWorld.{DeviceWorld}
use Rattle.uac_ring.specs.declared.counts.StreamCounts.{StreamCounts}
use Rattle.uac_transcript.specs.Printing.{text_of}
use Rattle.uac_streaming.specs.StreamingWorld.{met_in}
use Rattle.uac_running.specs.ReportLines.{stream_line}
use Rattle.uac_running.proofs.report.write_streams.Given as goal

abbrev pub invariant-loop-stream : goal.invariant-loop-stream
invariant-loop-stream g l = record {
  written : (w : DeviceWorld) (met : ℕ → StreamCounts) → DeviceStands l.device w → l.streaming.met ≡ met_in met w.function
      → Appends (g.K.Sink.written l.fn.sink) (g.K.Sink.written l.sink) (text_of (map (stream_line w met) (take l.stream-index l.stream-items)));
  faultless : g.K.Sink.faults l.sink ≡ g.K.Sink.faults l.fn.sink;
}
