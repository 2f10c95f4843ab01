use Rattle.std.proofs.Common.{◌≡◌, map, take}
use Rattle.std.specs.Io.KnownBytes.{Appends}
use Rattle.uac_host.specs.HostWorld.{HostWorld}
use Rattle.uac_host.specs.HostCalls.{heard_in}
use Rattle.uac_host.specs.HostKept as kept
use Rattle.uac_transcript.specs.Transcript.{says_frame}
use Rattle.uac_transcript.specs.Printing.{text_of}
use Rattle.uac_streaming.proofs.printing.write_heard.Given as goal

abbrev pub invariant-loop-at : goal.invariant-loop-at
invariant-loop-at g l = record {
  written : (w : HostWorld) → kept.HostStands l.host w
      → Appends (g.K.Sink.written l.fn.sink) (g.K.Sink.written l.sink) (text_of (map (says_frame l.interface) (take l.at (heard_in w l.interface l.packet.items))));
  faultless : g.K.Sink.faults l.sink ≡ g.K.Sink.faults l.fn.sink;
}
