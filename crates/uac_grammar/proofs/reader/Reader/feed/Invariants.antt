use Rattle.std.proofs.Common.{◌≡◌, ◌++◌, length}
use Rattle.uac_grammar.specs.ReaderKept.{IsUnstopped}
use Rattle.uac_grammar.proofs.reader.Reader.feed.Given as goal

abbrev pub invariant-loop-rest : goal.invariant-loop-rest
invariant-loop-rest l = record {
  going : IsUnstopped l.self;
  taken : l.self.taken ++ l.rest ≡ l.fn.self.taken ++ l.piece;
}

abbrev pub decreases-loop-rest : goal.decreases-loop-rest
decreases-loop-rest l = length l.rest
