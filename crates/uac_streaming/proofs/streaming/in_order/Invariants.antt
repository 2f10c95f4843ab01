use Rattle.std.proofs.Common.{◌≡◌, filter, is_some}
use Rattle.std.specs.List.{range_with_len}
use Rattle.uac_topology.specs.Function.{interface_in}
use Rattle.uac_streaming.proofs.streaming.in_order.Given as goal

abbrev pub invariant-loop-at : goal.invariant-loop-at
invariant-loop-at l = l.order.items ≡ filter (λ n. is_some (interface_in l.function n)) (range_with_len 0 l.at)
