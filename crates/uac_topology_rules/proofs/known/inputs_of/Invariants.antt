use Rattle.std.proofs.Common.{◌≡◌, ◌*◌, ◌≤◌, map, sum, take}
use Rattle.std.specs.Prelude.{slice_index_or}
use Rattle.uac_entities.specs.Entities.{no_cluster}
use Rattle.uac_topology_rules.proofs.known.inputs_of.Given as goal

abbrev pub invariant-loop-index : goal.invariant-loop-index
invariant-loop-index l =
    (l.total ≡ sum (map (λ p. (slice_index_or l.clusters p no_cluster).channels) (take l.index-index l.sources))) × (l.total ≤ 255 * l.index-index)
