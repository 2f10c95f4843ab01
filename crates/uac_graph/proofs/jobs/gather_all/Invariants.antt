use Rattle.std.proofs.Common.{◌≡◌, ◌≤◌, length, map, take}
use Rattle.uac_units.specs.Rendering.{in_a_row}
use Rattle.uac_graph.specs.Wiring.{samples_on}
use Rattle.uac_graph.proofs.jobs.gather_all.Given as goal

abbrev pub invariant-loop-source : goal.invariant-loop-source
invariant-loop-source l = record {
  inside : l.end ≤ length l.pins.items;
  row : take l.end l.pins.items ≡ in_a_row (map (samples_on l.frames) (take l.source-index l.sources));
}
