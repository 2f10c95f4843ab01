use Rattle.std.proofs.Common.{◌≡◌, ◌+◌, ◌*◌, length}
use Rattle.uac_graph.specs.Needs.{needed_units}
use Rattle.uac_graph.specs.TickRows.{slot_lengths}
use Rattle.uac_graph.proofs.TickTasksLemmas.{AreDoneAt}
use Rattle.uac_graph.proofs.graph.Graph.follow_ticks.Given as goal

abbrev pub invariant-loop-task : goal.invariant-loop-task
invariant-loop-task g l = record {
  done :
      AreDoneAt l.self l.order.indices.items l.task-items l.jobs l.ticks l.fn.wires l.wires l.task-index l.steps
      (l.fn.steps + l.ticks * length (needed_units l.self l.order.domain));
  lengths : slot_lengths l.wires.slots ≡ slot_lengths l.fn.wires.slots;
  room : l.wires.room ≡ l.fn.wires.room;
}
