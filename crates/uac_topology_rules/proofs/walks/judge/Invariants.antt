use Rattle.std.proofs.Common.{◌≡◌, ℕ, ◌<◌, false}
use Rattle.uac_topology_rules.specs.WalkRules.{goes_on}
use Rattle.uac_topology_rules.proofs.walks.judge.Given as goal

abbrev pub invariant-loop-index : goal.invariant-loop-index
invariant-loop-index l = (j : ℕ) → j < l.index → goes_on l.graph l.table j ≡ false
