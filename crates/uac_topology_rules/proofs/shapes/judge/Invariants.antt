use Rattle.std.proofs.Common.{◌≡◌, ℕ, ◌<◌, false}
use Rattle.uac_topology_rules.specs.ShapeRules.{breaks}
use Rattle.uac_topology_rules.proofs.shapes.judge.Given as goal

abbrev pub invariant-loop-index : goal.invariant-loop-index
invariant-loop-index l = (j : ℕ) → j < l.index → breaks l.rule l.known j ≡ false
