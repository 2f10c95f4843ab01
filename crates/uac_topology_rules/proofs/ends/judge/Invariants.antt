use Rattle.std.proofs.Common.{◌≡◌, ℕ, ◌<◌, false}
use Rattle.uac_topology_rules.specs.EndRules.{breaks}
use Rattle.uac_topology_rules.proofs.ends.judge.Given as goal

abbrev pub invariant-loop-place : goal.invariant-loop-place
invariant-loop-place l = (j : ℕ) → j < l.place → breaks l.rule l.table l.all l.streams j ≡ false
