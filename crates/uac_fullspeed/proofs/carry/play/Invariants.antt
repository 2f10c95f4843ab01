use Rattle.std.proofs.Common.{◌≡◌}
use Rattle.std.specs.Io.KnownBytes.{Appends}
use Rattle.uac_bench.specs.BenchStreams.{StreamWorld, after_ticks}
use Rattle.uac_bench.specs.BenchKept.{BenchStreamStands}
use Rattle.uac_transcript.specs.Printing.{text_of}
use Rattle.uac_fullspeed.specs.FullSpeedLines.{ticks_lines}
use Rattle.uac_fullspeed.proofs.carry.play.Given as goal

abbrev pub invariant-loop-ticked : goal.invariant-loop-ticked
invariant-loop-ticked g l = record {
  told : (s : StreamWorld) → BenchStreamStands l.initial.stream s
      → Appends (g.K.Sink.written l.fn.sink) (g.K.Sink.written l.sink) (text_of (ticks_lines l._ticked l.detail s))
      × BenchStreamStands l.stream (after_ticks l._ticked s);
  faultless : g.K.Sink.faults l.sink ≡ g.K.Sink.faults l.fn.sink;
}
