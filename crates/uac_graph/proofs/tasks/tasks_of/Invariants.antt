use Rattle.std.proofs.Common.{◌≡◌, take}
use Rattle.uac_graph.specs.Tasks.{tasks_at}
use Rattle.uac_graph.proofs.tasks.tasks_of.Given as goal

abbrev pub invariant-loop-index : goal.invariant-loop-index
invariant-loop-index l = l.tasks.items ≡ tasks_at l.table (take l.index-index l.indices)
