use Rattle.std.proofs.Common.{◌≡◌, ◌+◌, length, take}
use Rattle.uac_graph.specs.GraphControls.{controls_in}
use Rattle.uac_graph.specs.Needs.{needed_units}
use Rattle.uac_graph.specs.Orders.{has_id}
use Rattle.uac_graph.specs.Wiring.{AreRendered, AreWiresOf, samples_on}
use Rattle.uac_graph.proofs.NeedsLemmas.{units_left}
use Rattle.uac_graph.proofs.graph.Graph.tick.Given as goal

abbrev pub invariant-loop-index : goal.invariant-loop-index
invariant-loop-index g l = record {
  rendered : AreRendered l.self (controls_in l.store) (samples_on l.fn.wires) (has_id l.self (take l.index-index l.index-items)) l.fn.wires l.wires;
  fitting : AreWiresOf l.self l.wires;
  counted : l.steps + units_left l.self l.index-items l.index-index ≡ l.fn.steps + length (needed_units l.self l.domain);
}
