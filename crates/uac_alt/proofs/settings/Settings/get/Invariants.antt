use Rattle.std.proofs.Common.{◌≡◌, drop}
use Rattle.uac_alt.specs.AltSettings.{setting_of}
use Rattle.uac_alt.proofs.settings.Settings.get.Given as goal

abbrev pub invariant-loop-held : goal.invariant-loop-held
invariant-loop-held l = setting_of (drop l.held-index l.self) l.interface ≡ setting_of l.self l.interface
