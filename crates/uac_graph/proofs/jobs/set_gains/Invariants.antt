use Rattle.std.proofs.Common.{◌≡◌, map}
use Rattle.std.specs.List.{range_with_len}
use Rattle.uac_graph.specs.GraphControls.{controls_in}
use Rattle.uac_graph.specs.Jobs.{gain_at}
use Rattle.uac_graph.proofs.jobs.set_gains.Given as goal

abbrev pub invariant-loop-number : goal.invariant-loop-number
invariant-loop-number l = l.gains.items ≡ map (gain_at (controls_in l.store) l.id l.kind) (range_with_len 0 l.number)
