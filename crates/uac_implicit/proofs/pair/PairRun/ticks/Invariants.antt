use Rattle.std.proofs.Common.{◌≡◌, ◌≤◌, ◌+◌, ℕ, List, length}
use Rattle.std.specs.Io.KnownBytes.{Appends}
use Rattle.uac_transcript.specs.Printing.{text_of}
use Rattle.uac_implicit.specs.Following.{PairWorld, ticks, ticks_lines}
use Rattle.uac_implicit.specs.PairKept.{PairStandsIn}
use Rattle.uac_implicit.proofs.pair.PairRun.ticks.Given as goal

abbrev pub invariant-loop-ticked : goal.invariant-loop-ticked
invariant-loop-ticked g l = record {
  tells : (sent : ℕ) (steps : List ℕ) (w : PairWorld) → PairStandsIn sent steps l.initial.self w → length w.waiting + l.count ≤ 2048
      → Appends (g.K.Sink.written l.fn.sink) (g.K.Sink.written l.sink) (text_of (ticks_lines l._ticked w)) × PairStandsIn sent steps l.self (ticks l._ticked w);
  faultless : g.K.Sink.faults l.sink ≡ g.K.Sink.faults l.fn.sink;
}
