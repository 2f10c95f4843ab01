use Rattle.std.proofs.Common.{◌≡◌, map, take}
use Rattle.std.specs.Io.KnownBytes.{Appends}
use Rattle.uac_transcript.specs.Transcript.{says_frame}
use Rattle.uac_transcript.specs.Printing.{text_of}
use Rattle.uac_implicit.proofs.printing.write_frames.Given as goal

abbrev pub invariant-loop-place : goal.invariant-loop-place
invariant-loop-place g l = record {
  written : Appends (g.K.Sink.written l.fn.sink) (g.K.Sink.written l.sink) (text_of (map (says_frame 2) (take l.place l.waiting)));
  faultless : g.K.Sink.faults l.sink ≡ g.K.Sink.faults l.fn.sink;
}
