use Rattle.std.proofs.Common.{◌≡◌}
use Rattle.std.specs.Io.KnownBytes.{Keeps}
use Rattle.uac_edges.proofs.std_edges.write_some.Given as goal

-- An interrupted call leaves the bytes as they were, and is no fault.
abbrev pub invariant-loop : goal.invariant-loop
invariant-loop g l = record {
  kept : Keeps (g.W.Write.contents l.fn.output) (g.W.Write.contents l.output);
  faultless : l.faults ≡ l.fn.faults;
}
