use Rattle.std.proofs.Common.{◌≡◌, flat_map, take}
use Rattle.std.specs.Io.KnownBytes.{Appends}
use Rattle.uac_listing.specs.SettingLines.{interface_lines}
use Rattle.uac_listing.proofs.settings.write_settings.Given as goal

abbrev pub invariant-loop-stream : goal.invariant-loop-stream
invariant-loop-stream g l = record {
  items : l.stream-items ≡ l.function.streams;
  written : Appends (g.K.Sink.written l.fn.sink) (g.K.Sink.written l.sink) (flat_map (interface_lines l.function l.store) (take l.stream-index l.stream-items));
  faultless : g.K.Sink.faults l.sink ≡ g.K.Sink.faults l.fn.sink;
}
