use Rattle.std.proofs.Common.{◌≡◌, ◌++◌, ℕ, List, length}
use Rattle.std.specs.Io.KnownBytes.{Appends}
use Rattle.hex.specs.Hex.{encode_lower}
use Rattle.uac_transcript.proofs.transfers.write_hex.Given as goal

-- what was written so far is the text of the bytes before the rest
abbrev pub invariant-loop-rest : goal.invariant-loop-rest
invariant-loop-rest g l = record {
  before : List ℕ;
  parts : l.fn.bytes ≡ before ++ l.rest;
  appended : Appends (g.K.Sink.written l.fn.sink) (g.K.Sink.written l.sink) (encode_lower before);
  faultless : g.K.Sink.faults l.sink ≡ g.K.Sink.faults l.fn.sink;
}

abbrev pub decreases-loop-rest : goal.decreases-loop-rest
decreases-loop-rest g l = length l.rest
