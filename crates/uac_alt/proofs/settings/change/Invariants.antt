use Rattle.std.proofs.Common.{◌≡◌, ◌++◌, map, take, drop}
use Rattle.uac_alt.specs.AltSettings.{interface_setting_after}
use Rattle.uac_alt.proofs.settings.change.Given as goal

abbrev pub invariant-loop-held : goal.invariant-loop-held
invariant-loop-held l = l.settings ≡ map (interface_setting_after l.interface l.setting) (take l.held-index l.initial.settings) ++ drop l.held-index l.initial.settings
