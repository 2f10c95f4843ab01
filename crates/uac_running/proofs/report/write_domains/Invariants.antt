use Rattle.std.proofs.Common.{◌≡◌, map, take}
use Rattle.std.specs.Io.KnownBytes.{Appends}
use Rattle.uac_device.specs.DeviceKept.{DeviceStands}
use Rattle.uac_device.specs.DeviceWorld.{DeviceWorld}
use Rattle.uac_transcript.specs.Printing.{text_of}
use Rattle.uac_running.specs.TickCounts.{tick_count_of}
use Rattle.uac_running.specs.ReportLines.{domain_line}
use Rattle.uac_running.proofs.report.write_domains.Given as goal

abbrev pub invariant-loop-count : goal.invariant-loop-count
invariant-loop-count g l = record {
  written : (w : DeviceWorld) → DeviceStands l.device w → l.counts ≡ map tick_count_of w.domains
      → Appends (g.K.Sink.written l.fn.sink) (g.K.Sink.written l.sink) (text_of (map (domain_line w) (take l.count-index w.domains)));
  faultless : g.K.Sink.faults l.sink ≡ g.K.Sink.faults l.fn.sink;
}
