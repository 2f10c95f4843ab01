use Rattle.std.proofs.Common.{ℕ, ◌<◌, List, length, take, slice_index}
use Rattle.std.specs.Prelude.{slice_index_or}
use Rattle.std.specs.List.{flat_map}
use Rattle.uac_topology_rules.specs.declared.signals.Behind.TheVariants as clocks
use Rattle.uac_topology_rules.specs.Behind.{Summarizes}
use Rattle.uac_topology_rules.proofs.signals.clocks_by.Given as goal

abbrev pub invariant-loop-index : goal.invariant-loop-index
invariant-loop-index l =
    (below : ℕ → List ℕ)
    → ((k : ℕ) → k < length l.sources → Summarizes (slice_index_or l.list (slice_index l.sources k) clocks.Nothing) (below (slice_index l.sources k)))
    → Summarizes l.behind (flat_map below (take l.index-index l.sources))
