use Rattle.std.proofs.Common.{◌≡◌, ◌==◌, false, not, map, take}
use Rattle.std.specs.Prelude.{slice_index_or}
use Rattle.std.specs.List.{list_any}
use Rattle.uac_entities.specs.Entities.{no_cluster}
use Rattle.uac_topology_rules.proofs.known.channels_differ.Given as goal

abbrev pub invariant-loop-index : goal.invariant-loop-index
invariant-loop-index l = list_any (λ n. not (n == l.channels)) (map (λ p. (slice_index_or l.clusters p no_cluster).channels) (take l.index-index l.sources)) ≡ false
