use Rattle.std.proofs.Common.{◌≡◌, ℕ, ◌<◌, ◌&&◌, ◌==◌, length, if◌then◌else◌, slice_index, nat_lt}
use Rattle.uac_topology_rules.specs.Count.{times}
use Rattle.uac_topology_rules.proofs.order.ready_of.Given as goal

abbrev pub invariant-loop-node : goal.invariant-loop-node
invariant-loop-node l =
    ((k : ℕ) → k < length l.order.items → slice_index l.order.items k < l.node)
    × ((v : ℕ) → times v l.order.items ≡ (if nat_lt v l.node && slice_index l.waiting v == 0 then 1 else 0))
    × ((k : ℕ) → k < length l.order.items → slice_index l.waiting (slice_index l.order.items k) ≡ 0)
