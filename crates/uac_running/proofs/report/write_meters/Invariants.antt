use Rattle.std.proofs.Common.{◌≡◌, map, take}
use Rattle.std.specs.Io.KnownBytes.{Appends}
use Rattle.uac_units.specs.MeterReadings.{readings}
use Rattle.uac_transcript.specs.Transcript.{says_meter}
use Rattle.uac_transcript.specs.Printing.{text_of}
use Rattle.uac_running.proofs.report.write_meters.Given as goal

abbrev pub invariant-loop-at : goal.invariant-loop-at
invariant-loop-at g l = record {
  written : Appends (g.K.Sink.written l.fn.sink) (g.K.Sink.written l.sink)
      (text_of (map says_meter (take l.at (readings (λ v x. (goal.Meter-dyn g (v, x)).reading_of x) l.meters))));
  faultless : g.K.Sink.faults l.sink ≡ g.K.Sink.faults l.fn.sink;
}
