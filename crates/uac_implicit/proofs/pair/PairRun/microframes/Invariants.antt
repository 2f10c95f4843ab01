use Rattle.std.proofs.Common.{◌≡◌}
use Rattle.std.specs.Io.KnownBytes.{Appends}
use Rattle.uac_transcript.specs.Printing.{text_of}
use Rattle.uac_implicit.specs.Following.{PairWorld, microframes, microframes_lines}
use Rattle.uac_implicit.specs.PairKept.{PairRunStands}
use Rattle.uac_implicit.proofs.pair.PairRun.microframes.Given as goal

abbrev pub invariant-loop-passed : goal.invariant-loop-passed
invariant-loop-passed g l = record {
  tells : (w : PairWorld) → PairRunStands l.initial.self w
      → Appends (g.K.Sink.written l.fn.sink) (g.K.Sink.written l.sink) (text_of (microframes_lines l.losses l._passed w)) × PairRunStands l.self (microframes l.losses l._passed w);
  faultless : g.K.Sink.faults l.sink ≡ g.K.Sink.faults l.fn.sink;
}
