use Rattle.std.proofs.Common.{◌≡◌, flat_map, take}
use Rattle.std.specs.Io.KnownBytes.{Appends}
use Rattle.uac_listing.specs.SettingLines.{setting_line}
use Rattle.uac_listing.proofs.settings.write_interface.Given as goal

abbrev pub invariant-loop-setting : goal.invariant-loop-setting
invariant-loop-setting g l = record {
  items : l.setting-items ≡ l.stream.settings;
  written : Appends (g.K.Sink.written l.fn.sink) (g.K.Sink.written l.sink) (flat_map (setting_line l.function l.store l.stream) (take l.setting-index l.setting-items));
  faultless : g.K.Sink.faults l.sink ≡ g.K.Sink.faults l.fn.sink;
}
