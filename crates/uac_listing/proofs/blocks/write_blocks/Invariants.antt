use Rattle.std.proofs.Common.{◌≡◌, ◌≤◌, ℕ, List, ◌++◌, length, flat_map, drop}
use Rattle.std.specs.Io.KnownBytes.{Appends}
use Rattle.uac_descriptor.specs.Spelling.{spelling}
use Rattle.uac_listing.specs.BlockLines.{block_lines}
use Rattle.uac_listing.proofs.blocks.write_blocks.Given as goal

abbrev pub invariant-loop-block : goal.invariant-loop-block
invariant-loop-block g l = record {
  within : l.place ≤ length l.bytes;
  rest : drop l.place l.bytes ≡ flat_map spelling (drop l.block-index l.blocks);
  text : List ℕ;
  written : Appends (g.K.Sink.written l.fn.sink) (g.K.Sink.written l.sink) text;
  whole : (text ++ l.lines) ++ block_lines l.place (drop l.block-index l.blocks) ≡ block_lines 0 l.blocks;
  faultless : g.K.Sink.faults l.sink ≡ g.K.Sink.faults l.fn.sink;
}
