use Rattle.std.proofs.Common.{◌≡◌, ◌-◌, ◌≤◌, length, take}
use Rattle.std.specs.Io.KnownBytes.{Appends}
use Rattle.uac_edges.proofs.gathering.give_front.Given as goal

-- What was given so far is a front of the text, and no fault was met.
abbrev pub invariant-loop-given : goal.invariant-loop-given
invariant-loop-given g l = record {
  fits : l.given ≤ length l.text;
  appended : Appends (g.K.Sink.written l.fn.sink) (g.K.Sink.written l.sink) (take l.given l.text);
  faultless : g.K.Sink.faults l.sink ≡ g.K.Sink.faults l.fn.sink;
}

abbrev pub decreases-loop-given : goal.decreases-loop-given
decreases-loop-given g l = length l.text - l.given
