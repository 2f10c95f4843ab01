use Rattle.std.proofs.Common.{◌≡◌, ◌++◌, ℕ, List, Option, flat_map, take}
use Rattle.uac_device.specs.DeviceWorld.{DeviceWorld}
use Rattle.uac_transcript.specs.Transcript.{Said}
use Rattle.uac_running.specs.ReportLines.{Gathers, Shows}
use Rattle.uac_running.proofs.ReportLinesLemmas.{of_jack}
use Rattle.uac_running.proofs.printing.gather_jacks.Given as goal

abbrev pub invariant-loop-jack : goal.invariant-loop-jack
invariant-loop-jack g l = record {
  gathered : (start : Option (List ℕ)) (lines : List Said) (w : DeviceWorld) → Shows l.tick l.domain l.device w
      → Gathers start (g.K.Sink.written l.fn.sink) l.fn.text lines
      → Gathers start (g.K.Sink.written l.sink) l.text (lines ++ flat_map (of_jack l.domain w) (take l.jack-index l.jack-items));
  faultless : g.K.Sink.faults l.sink ≡ g.K.Sink.faults l.fn.sink;
}
