use Rattle.std.proofs.Common.{◌≡◌, ◌≤◌, ◌+◌, None}
use Rattle.uac_lines.specs.ScriptLines.{most_of_input}
use Rattle.uac_runner.proofs.RunLemmas.{IsFar}
use Rattle.uac_runner.proofs.run.run_lines.Given as goal

abbrev pub invariant-loop-machine : goal.invariant-loop-machine
invariant-loop-machine g l = record {
  far : (w : g.M.LineMachine.World) → g.M.LineMachine.stands l.fn.machine l.fn.beside w
      → IsFar g.M.LineMachine.machine w (g.S.Source.left l.fn.source) (g.S.Source.left l.source)
      (g.K.Sink.written l.fn.sink) (g.K.Sink.written l.sink) (g.M.LineMachine.stands l.machine l.beside) l.lines;
  going : l.lines.stop ≡ None;
  few : l.lines.number + l.lines.spare ≤ most_of_input;
  fits : g.M.LineMachine.fits l.machine;
  counts : g.M.LineMachine.counted l.machine ≤ l.lines.number;
  reads : g.S.Source.faults l.source ≡ g.S.Source.faults l.fn.source;
  writes : (w : g.M.LineMachine.World) → g.M.LineMachine.stands l.fn.machine l.fn.beside w → g.K.Sink.faults l.sink ≡ g.K.Sink.faults l.fn.sink;
}

abbrev pub decreases-loop-machine : goal.decreases-loop-machine
decreases-loop-machine g l = l.lines.spare
