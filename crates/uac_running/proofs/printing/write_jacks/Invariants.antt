use Rattle.std.proofs.Common.{◌≡◌, flat_map, take}
use Rattle.std.specs.Io.KnownBytes.{Appends}
use Rattle.uac_device.specs.DeviceKept.{DeviceStands}
use Rattle.uac_device.specs.DeviceWorld.{DeviceWorld}
use Rattle.uac_transcript.specs.Printing.{text_of}
use Rattle.uac_running.proofs.ReportLinesLemmas.{of_jack}
use Rattle.uac_running.proofs.printing.write_jacks.Given as goal

abbrev pub invariant-loop-jack : goal.invariant-loop-jack
invariant-loop-jack g l = record {
  written : (w : DeviceWorld) → DeviceStands l.device w
      → Appends (g.K.Sink.written l.fn.sink) (g.K.Sink.written l.sink) (text_of (flat_map (of_jack l.domain w) (take l.jack-index l.jack-items)));
  faultless : g.K.Sink.faults l.sink ≡ g.K.Sink.faults l.fn.sink;
}
