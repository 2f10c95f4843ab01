use Rattle.std.proofs.Common.{◌+◌, length}
use Rattle.uac_graph.specs.Needs.{needed_units}
use Rattle.uac_graph.specs.Wiring.{AreWiresOf, samples_on}
use Rattle.uac_graph.proofs.TasksOrderLemmas.{AreDone}
use Rattle.uac_graph.proofs.graph.Graph.follow.Given as goal

abbrev pub invariant-loop-task : goal.invariant-loop-task
invariant-loop-task g l = record {
  done :
      AreDone l.self l.order.indices.items l.task-items l.jobs (samples_on l.fn.wires) l.fn.wires l.wires l.task-index l.steps
      (l.fn.steps + length (needed_units l.self l.order.domain));
  fitting : AreWiresOf l.self l.wires;
}
