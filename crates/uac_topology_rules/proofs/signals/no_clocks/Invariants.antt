use Rattle.std.proofs.Common.{◌≡◌, length}
use Rattle.uac_topology_rules.proofs.signals.no_clocks.Given as goal

abbrev pub invariant-loop-each : goal.invariant-loop-each
invariant-loop-each l = length l.list.items ≡ l._each
