use Rattle.std.proofs.Common.{◌≡◌, ◌++◌, ℕ, List, length}
use Rattle.std.specs.Io.KnownBytes.{Appends}
use Rattle.uac_edges.proofs.edges.give_rest.Given as goal

-- What was given so far is the text before the rest, and no fault was met.
abbrev pub invariant-loop-rest : goal.invariant-loop-rest
invariant-loop-rest g l = record {
  given : List ℕ;
  parts : l.fn.text ≡ given ++ l.rest;
  appended : Appends (g.K.Sink.written l.fn.sink) (g.K.Sink.written l.sink) given;
  faultless : g.K.Sink.faults l.sink ≡ g.K.Sink.faults l.fn.sink;
}

abbrev pub decreases-loop-rest : goal.decreases-loop-rest
decreases-loop-rest g l = length l.rest
