use Rattle.std.proofs.Common.{◌≡◌, ◌≤◌, None, ◌-◌, length}
use Rattle.std.specs.Io.KnownBytes.{Consumes}
use Rattle.uac_grammar.specs.ReaderKept.{most_taken}
use Rattle.uac_grammar.specs.Stop.{shown_fault}
use Rattle.uac_listing.proofs.parsing.read_descriptor.Given as goal

abbrev pub invariant-loop-reader : goal.invariant-loop-reader
invariant-loop-reader g l = record {
  consumed : Consumes (g.S.Source.left l.fn.source) (g.S.Source.left l.source) l.reader.taken;
  faultless : g.S.Source.faults l.source ≡ g.S.Source.faults l.fn.source;
  going : l.reader.stop ≡ None;
  quiet : shown_fault l.reader.taken ≡ None;
  bounded : length l.reader.taken ≤ most_taken;
  sized : length l.piece ≡ 4096;
}

abbrev pub decreases-loop-reader : goal.decreases-loop-reader
decreases-loop-reader g l = most_taken - length l.reader.taken
