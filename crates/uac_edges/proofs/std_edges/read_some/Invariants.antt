use Rattle.std.proofs.Common.{◌≡◌}
use Rattle.std.specs.Io.KnownBytes.{Keeps}
use Rattle.uac_edges.proofs.std_edges.read_some.Given as goal

-- An interrupted call leaves the bytes as they were, and is no fault.
abbrev pub invariant-loop : goal.invariant-loop
invariant-loop g l = record {
  kept : Keeps (g.R.Read.remaining l.fn.input) (g.R.Read.remaining l.input);
  faultless : l.faults ≡ l.fn.faults;
}
