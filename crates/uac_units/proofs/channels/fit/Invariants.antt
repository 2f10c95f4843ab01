use Rattle.std.proofs.Common.{◌≡◌, ◌≤◌, length}
use Rattle.uac_units.proofs.channels.fit.Given as goal

abbrev pub invariant-loop-each : goal.invariant-loop-each
invariant-loop-each l = (length l.frame.items ≡ l._each) × (l._each ≤ l.channels)
