use Rattle.std.proofs.Common.{◌≡◌, length, map}
use Rattle.std.specs.Option.{option_map}
use Rattle.uac_graph.specs.FrameRows.{numbered_frames}
use Rattle.uac_graph.proofs.WiringLemmas.{AreSilentBelow}
use Rattle.uac_graph.proofs.frame_table.silent_row.Given as goal

abbrev pub invariant-loop-entity : goal.invariant-loop-entity
invariant-loop-entity l = record {
  silent : AreSilentBelow l.entities l.entity-index (numbered_frames (map (option_map (λ f. f.items)) l.row.items));
  sized : length l.row.items ≡ 256;
}
