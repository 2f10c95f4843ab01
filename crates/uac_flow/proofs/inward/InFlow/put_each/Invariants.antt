use Rattle.uac_flow.specs.Flows.{IsInFlow, InStands}
use Rattle.uac_flow.specs.FlowStreams.{InStream}
use Rattle.uac_flow.specs.FlowTicks.{in_after_ticks}
use Rattle.uac_units.specs.SampleRows.{frame_at}
use Rattle.uac_flow.proofs.inward.InFlow.put_each.Given as goal

abbrev pub invariant-loop-tick : goal.invariant-loop-tick
invariant-loop-tick l =
    ((i : InStream) → InStands l.initial.ring l.self i → InStands l.ring l.self (in_after_ticks (λ tick. frame_at tick l.rows) l.tick i))
    × IsInFlow l.ring l.self
