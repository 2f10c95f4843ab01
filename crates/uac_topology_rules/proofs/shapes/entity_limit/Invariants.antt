use Rattle.std.proofs.Common.{◌≡◌, ℕ, ◌<◌, false}
use Rattle.uac_topology_rules.specs.Rules.{breaks_u14}
use Rattle.uac_topology_rules.proofs.shapes.entity_limit.Given as goal

abbrev pub invariant-loop-index : goal.invariant-loop-index
invariant-loop-index l = (j : ℕ) → j < l.index → breaks_u14 l.known j ≡ false
