use Rattle.std.proofs.Common.{◌≡◌, Bool, map, take, drop, flat_map, if◌then◌else◌, [], ◌∷◌}
use Rattle.std.specs.Io.KnownBytes.{Appends}
use Rattle.uac_entities.specs.declared.stream.StreamInterface.{StreamInterface}
use Rattle.uac_device.specs.InterfaceStreams.{set_of_streams}
use Rattle.uac_transcript.specs.Printing.{text_of}
use Rattle.uac_streaming.specs.FoundRings.{says_found}
use Rattle.uac_streaming.proofs.printing.write_rings.Given as goal

abbrev pub invariant-loop-stream : goal.invariant-loop-stream
invariant-loop-stream g l = record {
  rest : (test : StreamInterface → Bool) → l.bits ≡ set_of_streams (map test l.streams) → l.rest ≡ set_of_streams (map test (drop l.stream-index l.streams));
  written : (test : StreamInterface → Bool) → l.bits ≡ set_of_streams (map test l.streams)
      → Appends (g.K.Sink.written l.fn.sink) (g.K.Sink.written l.sink)
      (text_of (flat_map (λ (s : StreamInterface). if test s then says_found l.ring s.number ∷ [] else []) (take l.stream-index l.streams)));
  faultless : g.K.Sink.faults l.sink ≡ g.K.Sink.faults l.fn.sink;
}
